-- The group that a turn makes two, told by what is counted.
use Rattle.std.proofs.Common.{◌≡◌, ℕ, ◌+◌, ◌-◌, ◌==◌, ◌<◌, ◌≤◌, ◌&&◌, ◌++◌, List, [], ◌∷◌, length, map, take, drop, get_or, All}
use Rattle.std.proofs.Common.{Bool, true, false, true≢false, Some, refl, sym, ap, ◌∙◌, inl, inr, arith}
use Rattle.std.specs.Prelude.{fold, max, min}
use Rattle.std.specs.List.{list_all, remove, sum_by}
use Rattle.std.proofs.lemmas.Bool.{cases_Bool, cond-true, both_ways}
use Rattle.std.proofs.lemmas.List.{length-map, length-take, map-append, take_all}
use Rattle.std.proofs.lemmas.List.Elements.{All-head, All-tail, All-cons, All-nil, All-same, All-weaker}
use Rattle.list_lemmas.proofs.Maxima.{fold_ge}
use Rattle.rule_set.specs.Rule.{RuleSetView}
use Rattle.rule_set.specs.Groups.{greatest}
use Rattle.table_sizes.specs.Sizes.{row_len}
use Rattle.group_states.specs.Levels.{levels_of}
use Rattle.rule_split.specs.declared.counted.Counted.{Counted}
use Rattle.rule_split.specs.declared.counted.Counted.TheVariants.{Fits, TooLarge, Uncounted}
use Rattle.rule_split.specs.Counted.{group_in, words_counted, words_to_split, most_counted, is_counted, is_over}
use Rattle.rule_split.specs.Counted.{cap_beside, IsCounted, IsCountedTo, IsPassed, IsRight, IsWithin}
use Rattle.rule_split.specs.Split.{can_split, capped, total, to_split, words_of_group}
use Rattle.rule_split.proofs.Counts.{counted_is, sum_is}
use Rattle.rule_split.proofs.Halves.{parts_hold}
use Rattle.rule_split.proofs.Splitting.{others_are, others_hold, same_groups}
use Rattle.rule_split.proofs.Turns.{IsBelow, IsUpTo, split_there, total_there}

module _ (set : RuleSetView) (budget : ℕ) where
  -- the words of a group, or one more than the budget
  abbrev cost : List ℕ → ℕ
  cost = capped (words_of_group set) budget

  -- a group that is passed has words within the budget, or can't be split
  passed_is : (group : Counted) → IsPassed set budget group →
      IsBelow (words_of_group set) budget (budget + 1) (group_in group)
  passed_is (Fits levels) passed can =
      omega (arith, counted_is set budget (Fits levels) passed.0, passed.0.1)
  passed_is (TooLarge group) passed can = absurd (both_ways (can_split group.items) passed.1 can)
  passed_is (Uncounted group) passed can = absurd passed.0

  -- so for some of them
  passed_are : (groups : List Counted) → All (IsPassed set budget) groups →
      All (IsBelow (words_of_group set) budget (budget + 1)) (map group_in groups)
  passed_are [] passed = All-nil (IsBelow (words_of_group set) budget (budget + 1))
  passed_are (group ∷ groups) passed =
      All-cons (IsBelow (words_of_group set) budget (budget + 1)) (group_in group) (map group_in groups)
      (passed_is group (All-head (IsPassed set budget) group groups passed))
      (passed_are groups (All-tail (IsPassed set budget) group groups passed))

  -- no group counts more than one word more than the budget
  all_up : (groups : List (List ℕ)) → All (IsUpTo (words_of_group set) budget (budget + 1)) groups
  all_up groups k d within can = omega arith

  -- groups that are counted
  counted_are : (groups : List Counted) → All (IsRight set budget) groups → list_all is_counted groups ≡ true →
      All (IsCounted set budget) groups
  counted_are [] right counted = All-nil (IsCounted set budget)
  counted_are (Fits levels ∷ groups) right counted =
      All-cons (IsCounted set budget) (Fits levels) groups (All-head (IsRight set budget) (Fits levels) groups right)
      (counted_are groups (All-tail (IsRight set budget) (Fits levels) groups right) counted)
  counted_are (TooLarge group ∷ groups) right counted =
      All-cons (IsCounted set budget) (TooLarge group) groups
      (All-head (IsRight set budget) (TooLarge group) groups right)
      (counted_are groups (All-tail (IsRight set budget) (TooLarge group) groups right) counted)
  counted_are (Uncounted group ∷ groups) right counted = absurd (true≢false (sym counted))

  -- each of them that can be split has at most the most words
  most_is_up : (a bound : ℕ) (groups : List Counted) → All (IsCounted set budget) groups →
      fold max a (map (words_to_split budget) groups) < bound →
      All (IsBelow (words_of_group set) budget bound) (map group_in groups)
  most_is_up a bound [] counted within = All-nil (IsBelow (words_of_group set) budget bound)
  most_is_up a bound (group ∷ groups) counted within =
      let from = max a (words_to_split budget group) in
      All-cons (IsBelow (words_of_group set) budget bound) (group_in group) (map group_in groups)
      (λ can. omega (
        arith,
        within,
        counted_is set budget group (All-head (IsCounted set budget) group groups counted),
        fold_ge from (map (words_to_split budget) groups),
        cond-true (can_split (group_in group)) (words_counted budget group) 0 can,
      ))
      (most_is_up from bound groups (All-tail (IsCounted set budget) group groups counted) within)

  -- a group of more words than the budget, after groups that are passed, is split
  too_large_is : (before later : List (List ℕ)) (group : List ℕ) → can_split group ≡ true →
      budget < words_of_group set group →
      All (IsBelow (words_of_group set) budget (budget + 1)) before →
      to_split (words_of_group set) budget (before ++ group ∷ later) ≡ Some (length before)
  too_large_is before later group can large below =
      let most : cost group ≡ budget + 1 = omega (arith, large) in
      split_there (words_of_group set) budget before later group can
      (rw most below) (rw most (all_up later))
      (omega (arith, most, total_there (words_of_group set) budget before later group))

  -- so is one of more words than the cap beside the others, which are counted
  above_cap_is : (before later : List Counted) (group : List ℕ) → can_split group ≡ true →
      All (IsCounted set budget) (before ++ later) →
      max (budget - (row_len + sum_by (words_counted budget) (before ++ later))) (most_counted budget (before ++ later))
      < cost group →
      to_split (words_of_group set) budget (map group_in before ++ group ∷ map group_in later) ≡ Some (length before)
  above_cap_is before later group can counted above =
      let below : All (IsBelow (words_of_group set) budget (cost group)) (map group_in before ++ map group_in later) =
      All-same (IsBelow (words_of_group set) budget (cost group)) (map group_in before ++ map group_in later)
      (map group_in (before ++ later)) (sym (map-append group_in before later))
      (most_is_up 0 (cost group) (before ++ later) counted (omega (arith, above))) in
      let sums = sum_is set budget (before ++ later) counted
      ∙ ap (sum_by cost) (map-append group_in before later) in
      let parts = parts_hold (IsBelow (words_of_group set) budget (cost group)) (map group_in before)
      (map group_in later) below in
      split_there (words_of_group set) budget (map group_in before) (map group_in later) group can parts.0
      (All-weaker (IsBelow (words_of_group set) budget (cost group)) (IsUpTo (words_of_group set) budget (cost group))
      (λ other is can. omega (arith, is can)) (map group_in later) parts.1)
      (omega (
        arith,
        above,
        sums,
        total_there (words_of_group set) budget (map group_in before) (map group_in later) group,
      ))
      ∙ ap Some (length-map before group_in)

  -- a group that is counted up to its cap beside the others, and isn't passed, is split
  pub over_is : (before later : List Counted) (group : Counted) (cap : ℕ) → All (IsPassed set budget) before →
      All (IsRight set budget) (before ++ later) → IsCountedTo set budget cap group →
      cap ≡ cap_beside budget (can_split (group_in group)) (before ++ later) → is_over group ≡ true →
      to_split (words_of_group set) budget (map group_in before ++ group_in group ∷ map group_in later)
      ≡ Some (length before)
  over_is before later (Fits levels) cap passed right counted is over = absurd (true≢false (sym over))
  over_is before later (TooLarge group) cap passed right counted is over =
      too_large_is (map group_in before) (map group_in later) group.items over counted (passed_are before passed)
      ∙ ap Some (length-map before group_in)
  over_is before later (Uncounted group) cap passed right counted is over =
      elim (cases_Bool (list_all is_counted (before ++ later))) [
        | inr some ↦
            let whole : cap_beside budget (can_split group.items) (before ++ later) ≡ budget = rw (over, some) refl in
            absurd (omega (arith, is, whole, counted.0))
        | inl all ↦
            let left : ℕ = budget - (row_len + sum_by (words_counted budget) (before ++ later)) in
            let lower : cap_beside budget (can_split group.items) (before ++ later)
            ≡ min budget (max left (most_counted budget (before ++ later))) = rw (over, all) refl in
            above_cap_is before later group.items over (counted_are (before ++ later) right all)
            (omega (arith, is, lower, counted.0, counted.1))
      ]

  -- and one that isn't over is passed
  pub not_over_is : (others : List Counted) (group : Counted) (cap : ℕ) → IsCountedTo set budget cap group →
      cap ≡ cap_beside budget (can_split (group_in group)) others → is_over group ≡ false → IsPassed set budget group
  not_over_is others (Fits levels) cap counted is over = (counted, over)
  not_over_is others (TooLarge group) cap counted is over = (counted, over)
  not_over_is others (Uncounted group) cap counted is over =
      let whole : cap_beside budget (can_split group.items) others ≡ budget = rw over refl in
      absurd (omega (arith, is, whole, counted.0))

  -- a group that is counted up to a cap is known rightly
  pub counted_right : (group : Counted) (cap : ℕ) → IsCountedTo set budget cap group → IsRight set budget group
  counted_right (Fits levels) cap counted = counted
  counted_right (TooLarge group) cap counted = counted
  counted_right (Uncounted group) cap counted = tt

  -- up to the budget it is counted rightly
  pub counted_whole : (group : Counted) → IsCountedTo set budget budget group → IsCounted set budget group
  counted_whole (Fits levels) counted = counted
  counted_whole (TooLarge group) counted = counted
  counted_whole (Uncounted group) counted = absurd (omega (arith, counted.0))

  -- words that are known rightly are at most one more than the budget
  pub right_within : (group : Counted) → IsRight set budget group → IsWithin budget group
  right_within (Fits levels) right = omega (arith, right.1)
  right_within (TooLarge group) right = omega arith
  right_within (Uncounted group) right = omega arith

  -- groups that are passed are counted rightly
  pub passed_counted : (groups : List Counted) → All (IsPassed set budget) groups → All (IsCounted set budget) groups
  passed_counted groups passed =
      All-weaker (IsPassed set budget) (IsCounted set budget) (λ group is. is.0) groups passed

-- a group that was counted beside the others, and isn't passed, is split
pub over_place : (set : RuleSetView) (budget : ℕ) (groups : List Counted) (place : ℕ) (group counted : Counted)
    (cap : ℕ) → place < length groups → group ≡ get_or groups place group → group_in counted ≡ group_in group →
    All (IsRight set budget) groups → All (IsPassed set budget) (take place groups) →
    IsCountedTo set budget cap counted → cap ≡ cap_beside budget (can_split (group_in group)) (remove groups place) →
    is_over counted ≡ true →
    to_split (words_of_group set) budget (map group_in groups) ≡ Some place
over_place set budget groups place group counted cap within at same right passed is cap_is over =
    let before = take place groups in
    let after = drop (place + 1) groups in
    let others : remove groups place ≡ before ++ after = others_are groups place in
    ap (to_split (words_of_group set) budget)
    (sym (same_groups groups place group counted within at same) ∙ map-append group_in before (counted ∷ after))
    ∙ over_is set budget before after counted cap passed
    (All-same (IsRight set budget) (before ++ after) (remove groups place) (sym others)
    (others_hold (IsRight set budget) groups place right))
    is
    (cap_is ∙ (λ i. cap_beside budget (can_split (sym same i)) (others i))) over
    ∙ ap Some (length-take place groups ∙ omega arith)

-- lists that are mapped to one list are as long
pub same_length : (old new : List Counted) → map group_in new ≡ map group_in old → length new ≡ length old
same_length old new same = omega (arith, length-map old group_in, length-map new group_in, ap length same)

-- what holds of the first ones holds of all, where those are all
pub all_first : {X : Type 0} (P : X → Type 0) (xs : List X) (n : ℕ) → length xs ≤ n → All P (take n xs) → All P xs
all_first P xs n long first = All-same P xs (take n xs) (sym (take_all n xs long)) first
