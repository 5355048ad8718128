-- For tests: one group of all rules, and two groups of which the second has the rules after those of the first.
use Rattle.std.proofs.Common.{◌≡◌, ℕ, ◌+◌, ◌-◌, ◌<◌, ◌≤◌, List, [], ◌∷◌, ◌++◌, length, sym, ◌∙◌, ap, subst, arith}
use Rattle.std.specs.List.{range_with_len, flat_map}
use Rattle.std.specs.List.Sorted.{IsPermutation, IsStrictlyIncreasing}
use Rattle.std.proofs.lemmas.List.{append-nil}
use Rattle.std.proofs.lemmas.List.FromFn.{length-range_with_len, get_or-range_with_len}
use Rattle.std.proofs.lemmas.List.Elements.{All-from_recursion}
use Rattle.std.proofs.lemmas.List.Sorted.{IsPermutation-refl}
use Rattle.rule_set.specs.Rule.{RuleSetView}
use Rattle.rule_set.specs.Groups.{IsPartition}
use Rattle.list_lemmas.proofs.Positions.{range-append}
use Rattle.group_states.specs.Levels.{LevelsView, levels_of, IsGroup}

-- a range rises
rises : (first len : ℕ) → IsStrictlyIncreasing (range_with_len first len)
rises first len k below =
    let long = length-range_with_len first len in
    let one = get_or-range_with_len first len k 0 (omega (arith, long)) in
    let next = get_or-range_with_len first len (k + 1) 0 (omega (arith, long)) in
    omega (arith, one, next)

-- a range of the places of a set that isn't empty is a group
pub group_of_range : (set : RuleSetView) (first len : ℕ) → 0 < len → first + len ≤ length set.rules →
    IsGroup set (range_with_len first len)
group_of_range set first len some fits =
    let long = length-range_with_len first len in
    record {
      some = omega (arith, long);
      ascending = rises first len;
      within = λ k other below. (let number = get_or-range_with_len first len k other (omega (arith, long)) in
          omega (arith, number, long, fits));
    }

-- one group of all rules is a partition
pub one_group : (len : ℕ) → 0 < len → IsPartition len (range_with_len 0 len ∷ [])
one_group len some = record {
  some = All-from_recursion (λ group. 0 < length group) (range_with_len 0 len ∷ [])
      (omega (arith, length-range_with_len 0 len), tt);
  ascending = All-from_recursion IsStrictlyIncreasing (range_with_len 0 len ∷ []) (rises 0 len, tt);
  once = subst (λ (places : List ℕ). IsPermutation places (range_with_len 0 len))
      (sym (append-nil (range_with_len 0 len))) (IsPermutation-refl (range_with_len 0 len));
}

-- a group of the first rules and one of those after them are a partition
pub two_groups : (len first : ℕ) → 0 < first → first < len →
    IsPartition len (range_with_len 0 first ∷ range_with_len first (len - first) ∷ [])
two_groups len first some more =
    let groups : List (List ℕ) = range_with_len 0 first ∷ range_with_len first (len - first) ∷ [] in
    let at : 0 + first ≡ first = omega arith in
    let count : first + (len - first) ≡ len = omega (arith, more) in
    let whole : flat_map (λ (group : List ℕ). group) groups ≡ range_with_len 0 len =
    ap (λ l. range_with_len 0 first ++ l) (append-nil (range_with_len first (len - first)))
    ∙ ap (λ n. range_with_len 0 first ++ range_with_len n (len - first)) (sym at)
    ∙ sym (range-append 0 first (len - first)) ∙ ap (range_with_len 0) count in
    record {
      some = All-from_recursion (λ group. 0 < length group) groups (
        omega (arith, length-range_with_len 0 first),
        (omega (arith, length-range_with_len first (len - first)), tt),
      );
      ascending = All-from_recursion IsStrictlyIncreasing groups (rises 0 first, (rises first (len - first), tt));
      once = subst (λ (places : List ℕ). IsPermutation places (range_with_len 0 len)) (sym whole)
          (IsPermutation-refl (range_with_len 0 len));
    }

-- the merged states of a group are of that group
pub own_group : (set : RuleSetView) (group : List ℕ) (trie : LevelsView) → trie ≡ levels_of set group →
    (trie.group ≡ group) × (trie ≡ levels_of set trie.group)
unfolding levels_of
own_group set group trie e = (let own = ap (λ (t : LevelsView). t.group) e in (own, e ∙ ap (levels_of set) (sym own)))
