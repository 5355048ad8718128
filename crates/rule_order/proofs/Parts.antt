-- The parts of an order: what is taken of it, and what is left.
use Rattle.std.proofs.Common.{◌≡◌, ◌==◌, ℕ, ◌+◌, ◌<◌, ◌≤◌, List, [], ◌∷◌, ◌++◌, length, take, drop, All}
use Rattle.std.proofs.Common.{Bool, refl, sym, ap, ◌∙◌, arith, subst}
use Rattle.std.specs.Prelude.{flat_map}
use Rattle.std.specs.List.{IsDistinct, range_with_len, sum_by}
use Rattle.std.specs.List.Sorted.{IsPermutation, IsStrictlyIncreasing}
use Rattle.std.proofs.lemmas.Bool.{ne_eqb}
use Rattle.std.proofs.lemmas.Bool.Decides.{nat_tests}
use Rattle.std.proofs.lemmas.List.{take-append-drop, drop-drop, drop_all, length-drop, append-nil, append_assoc, map-append}
use Rattle.std.proofs.lemmas.List.Concat.{flat_map-append, flat_map-cons}
use Rattle.std.proofs.lemmas.List.Elements.{All-drop, All-nil, All-push, All-take}
use Rattle.std.proofs.lemmas.List.FromFn.{length-range_with_len, get_or-range_with_len}
use Rattle.std.proofs.lemmas.List.Sorted.{All-permutation, IsPermutation-append_comm, IsPermutation-append_left}
use Rattle.std.proofs.lemmas.List.Sorted.{IsPermutation-append_right, IsPermutation-refl, IsPermutation-sym, IsPermutation-trans}
use Rattle.std.proofs.lemmas.List.Sums.{sum_by-append, sum_by-cons}
use Rattle.std.proofs.lemmas.Map.Keys.{IsDistinct-IsPermutation, IsDistinct-from_apart, IsDistinct-tail}
use Rattle.std.proofs.lemmas.Map.Keys.{IsStrictlyIncreasing-from_distinct}
use Rattle.rule_set.specs.Rule.{RuleSetView}
use Rattle.table_sizes.specs.Sizes.{max_tries, max_words, row_len}
use Rattle.group_states.specs.Levels.{IsGroup, LevelsView, levels_of}
use Rattle.rule_order.specs.Cut.{AreFirst, AreLeft, AreParts, HoldAll, IsFirst, IsOrder, groups_in, words_in}

-- two numbers are one
abbrev same : ℕ → ℕ → Bool
same one other = one == other

turned : (m n : ℕ) → (m == n) ≡ (n == m)
turned m n = grind (arith, nat_tests)

-- the numbers below a number differ, and are below it
range_apart : (n : ℕ) → IsDistinct same (range_with_len 0 n)
range_apart n =
    IsDistinct-from_apart same (range_with_len 0 n) (λ i j d before within.
    let len = length-range_with_len 0 n in
    rw (
      get_or-range_with_len 0 n i d (omega (arith, len, before, within)),
      get_or-range_with_len 0 n j d (omega (arith, len, within)),
    ) (ne_eqb _ _ (omega (arith, before))))

range_below : (n : ℕ) → All (λ number. number < n) (range_with_len 0 n)
range_below n = λ k d within.
    let len = length-range_with_len 0 n in
    rw (get_or-range_with_len 0 n k d (omega (arith, len, within))) (omega (arith, len, within))

-- the later ones of numbers that differ do
later_apart : (before later : List ℕ) → IsDistinct same (before ++ later) → IsDistinct same later
later_apart [] later apart = apart
later_apart (number ∷ before) later apart =
    later_apart before later (IsDistinct-tail same number (before ++ later) apart)

-- and so do the first ones
first_apart : (numbers : List ℕ) (k : ℕ) → IsDistinct same numbers → IsDistinct same (take k numbers)
first_apart numbers k apart =
    later_apart (drop k numbers) (take k numbers)
    (IsDistinct-IsPermutation same turned (take k numbers ++ drop k numbers) (drop k numbers ++ take k numbers)
    (IsPermutation-append_comm (take k numbers) (drop k numbers))
    (subst (IsDistinct same) (sym (take-append-drop k numbers)) apart))

-- all rules are left before any is taken
pub order_left : (set : RuleSetView) (order : List ℕ) → IsOrder set order → AreLeft set order
order_left set order is =
    let all : List ℕ = range_with_len 0 (length set.rules) in
    record {
      within = All-permutation (λ number. number < length set.rules) all order is (range_below (length set.rules));
      apart = IsDistinct-IsPermutation same turned all order is (range_apart (length set.rules));
    }

-- and later those that stand after what is taken
pub left_later : (set : RuleSetView) (order : List ℕ) (taken : ℕ) → IsOrder set order → AreLeft set (drop taken order)
left_later set order taken is =
    let all = order_left set order is in
    record {
      within = All-drop (λ number. number < length set.rules) taken order all.within;
      apart = later_apart (take taken order) (drop taken order)
          (subst (IsDistinct same) (sym (take-append-drop taken order)) all.apart);
    }

-- the first of those that are left rise
first_rise : (set : RuleSetView) (left places : List ℕ) → AreLeft set left → AreFirst left places →
    IsStrictlyIncreasing places
first_rise set left places are first =
    IsStrictlyIncreasing-from_distinct places first.rise
    (IsDistinct-IsPermutation same turned (take (length places) left) places first.first
    (first_apart left (length places) are.apart))

-- so they are a group
pub first_group : (set : RuleSetView) (left places : List ℕ) → AreLeft set left → AreFirst left places →
    IsGroup set places
first_group set left places are first = record {
  some = first.some;
  ascending = first_rise set left places are first;
  within = All-permutation (λ number. number < length set.rules) (take (length places) left) places first.first
      (All-take (λ number. number < length set.rules) (length places) left are.within);
}

-- merged states name their group
group_of : (set : RuleSetView) (group : List ℕ) → (levels_of set group).group ≡ group
unfolding levels_of
group_of set group = refl

-- the merged states of the first of those that are left
pub first_is : (set : RuleSetView) (left places : List ℕ) (cap : ℕ) (part : LevelsView) → AreLeft set left →
    AreFirst left places → part ≡ levels_of set places → part.words ≤ cap → IsFirst set left cap part
first_is set left places cap part are first is within =
    let its : part.group ≡ places = ap (λ (of : LevelsView). of.group) is ∙ group_of set places in
    record {
      its = is ∙ ap (levels_of set) (sym its);
      some = rw its first.some;
      few = rw its first.few;
      rises = rw its (first_rise set left places are first);
      first = rw its first.first;
      within = within;
    }

-- no part yet
pub no_parts : (set : RuleSetView) (order : List ℕ) (levels : List LevelsView) (taken total : ℕ) → levels ≡ [] →
    taken ≡ 0 → total ≡ row_len → AreParts set order levels taken total
no_parts set order levels taken total none zero row = rw (none, zero, row) record {
  each = All-nil (λ (part : LevelsView). part ≡ levels_of set part.group);
  some = All-nil (λ (group : List ℕ). 0 < length group);
  rise = All-nil IsStrictlyIncreasing;
  within = omega arith;
  rules = IsPermutation-refl order;
  words = refl;
  size = omega arith;
}

-- the groups with one more
groups_more : (levels : List LevelsView) (part : LevelsView) →
    groups_in (levels ++ part ∷ []) ≡ groups_in levels ++ part.group ∷ []
groups_more levels part = map-append (λ (of : LevelsView). of.group) levels (part ∷ [])

-- their places
places_more : (groups : List (List ℕ)) (group : List ℕ) →
    flat_map (λ (of : List ℕ). of) (groups ++ group ∷ []) ≡ flat_map (λ (of : List ℕ). of) groups ++ group
places_more groups group =
    flat_map-append (λ (of : List ℕ). of) groups (group ∷ [])
    ∙ ap (λ places. flat_map (λ (of : List ℕ). of) groups ++ places)
    (flat_map-cons (λ (of : List ℕ). of) group [] ∙ append-nil group)

-- what one more part makes of those that are taken and those that are left
rules_more : (order places group : List ℕ) (taken : ℕ) → IsPermutation order (places ++ drop taken order) →
    IsPermutation (take (length group) (drop taken order)) group →
    IsPermutation order ((places ++ group) ++ drop (taken + length group) order)
rules_more order places group taken before first =
    let left : List ℕ = drop taken order in
    let k : ℕ = length group in
    let after : drop k left ≡ drop (taken + k) order = drop-drop k taken order in
    let swapped : IsPermutation (places ++ (take k left ++ drop k left)) (places ++ (group ++ drop k left)) =
    IsPermutation-append_right places (take k left ++ drop k left) (group ++ drop k left)
    (IsPermutation-append_left (drop k left) (take k left) group first) in
    IsPermutation-trans order (places ++ left) ((places ++ group) ++ drop (taken + k) order) before
    (subst (λ l. IsPermutation (places ++ l) ((places ++ group) ++ drop (taken + k) order)) (take-append-drop k left)
    (subst (λ l. IsPermutation (places ++ (take k left ++ drop k left)) ((places ++ group) ++ l)) after
    (subst (IsPermutation (places ++ (take k left ++ drop k left))) (sym (append_assoc places group (drop k left)))
    swapped)))

-- the words with one more
words_more : (levels : List LevelsView) (part : LevelsView) →
    words_in (levels ++ part ∷ []) ≡ words_in levels + part.words
words_more levels part =
    let none : sum_by (λ (of : LevelsView). of.words) [] ≡ 0 = refl in
    omega (
      arith,
      sum_by-append (λ (of : LevelsView). of.words) levels (part ∷ []),
      sum_by-cons (λ (of : LevelsView). of.words) part [],
      none,
    )

-- one part more
pub parts_more : (set : RuleSetView) (order : List ℕ) (levels : List LevelsView) (taken total cap : ℕ)
    (part : LevelsView) → AreParts set order levels taken total → taken ≤ length order →
    IsFirst set (drop taken order) cap part → total + part.words ≤ max_words →
    AreParts set order (levels ++ part ∷ []) (taken + length part.group) (total + part.words)
parts_more set order levels taken total cap part are inside first size = record {
  each = All-push (λ (of : LevelsView). of ≡ levels_of set of.group) levels part are.each first.its;
  some = rw (groups_more levels part)
      (All-push (λ (group : List ℕ). 0 < length group) (groups_in levels) part.group are.some first.some);
  rise = rw (groups_more levels part)
      (All-push IsStrictlyIncreasing (groups_in levels) part.group are.rise first.rises);
  within = omega (arith, first.few, length-drop taken order, inside);
  rules = rw (groups_more levels part, places_more (groups_in levels) part.group)
      (rules_more order (flat_map (λ (of : List ℕ). of) (groups_in levels)) part.group taken are.rules first.first);
  words = omega (arith, words_more levels part, are.words);
  size = size;
}

-- where nothing is left, the parts hold all rules
pub parts_hold : (set : RuleSetView) (order : List ℕ) (levels : List LevelsView) (taken total : ℕ) →
    IsOrder set order → AreParts set order levels taken total → length levels ≤ max_tries → length order ≤ taken →
    HoldAll set levels
parts_hold set order levels taken total is are few all =
    let places : List ℕ = flat_map (λ (of : List ℕ). of) (groups_in levels) in
    let whole : places ++ drop taken order ≡ places =
    ap (λ rest. places ++ rest) (drop_all taken order all) ∙ append-nil places in
    record {
      few = few;
      groups = record {
        some = are.some;
        ascending = are.rise;
        once = IsPermutation-sym (range_with_len 0 (length set.rules)) places
            (IsPermutation-trans (range_with_len 0 (length set.rules)) order places is
            (subst (IsPermutation order) whole are.rules));
      };
      each = are.each;
      size = omega (arith, are.words, are.size);
    }
