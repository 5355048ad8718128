-- A group of two rules or more becomes two groups, which together hold its rules.
use Rattle.std.proofs.Common.{◌≡◌, ◌≢◌, ℕ, ◌+◌, ◌==◌, ◌<◌, ◌≤◌, ◌++◌, List, [], ◌∷◌, length, take, drop, get_or, not}
use Rattle.std.proofs.Common.{All, Bool, true, false, refl, sym, ap, ◌∙◌, inl, inr, arith}
use Rattle.std.specs.List.Sorted.{IsPermutation, IsStrictlyIncreasing}
use Rattle.std.proofs.lemmas.Bool.{cases_Bool, eqb-false}
use Rattle.std.proofs.lemmas.List.{take-append-drop, get_or-take, get_or-drop, length-take, length-drop}
use Rattle.std.proofs.lemmas.List.FromFn.{get_or-map-range_with_len, length-map-range_with_len}
use Rattle.std.proofs.lemmas.List.Kept.{IsStrictlyIncreasing-filter}
use Rattle.std.proofs.lemmas.List.Sorted.{IsPermutation-refl, IsPermutation-filter_both, All-permutation}
use Rattle.std.proofs.lemmas.List.Elements.{All-take, All-drop}
use Rattle.std.proofs.Math.Seq.{take-append_seam, drop-append_seam}
use Rattle.group_states.specs.Levels.{IsGroup}
use Rattle.rule_set.specs.Rule.{RuleSetView}
use Rattle.rule_set.specs.Groups.{greatest}
use Rattle.rule_split.specs.Divide.{is_wild_in, wild_rules, bound_rules, smaller_side, smaller_sides, divider}
use Rattle.rule_split.specs.Divide.{divided}
use Rattle.rule_split.specs.Divide.{half_of}
use Rattle.rule_split.proofs.Greatest.{greatest_there}

-- Two groups that together hold the rules of a group.
pub record IsTwoOf (group one other : List ℕ) : Type 0 where
  pub one_some : 0 < length one
  pub other_some : 0 < length other
  pub one_rises : IsStrictlyIncreasing one
  pub other_rises : IsStrictlyIncreasing other
  pub once : IsPermutation group (one ++ other)

-- a part of numbers that rise rises
rises-take : (n : ℕ) (xs : List ℕ) → n ≤ length xs → IsStrictlyIncreasing xs → IsStrictlyIncreasing (take n xs)
rises-take n xs within rises k below =
    let long = length-take n xs in
    rw (get_or-take n xs k 0 (omega arith), get_or-take n xs (k + 1) 0 (omega arith)) (rises k (omega arith))

-- what is left of a list that rises after its first few rises
rises-drop : (n : ℕ) (xs : List ℕ) → n ≤ length xs → IsStrictlyIncreasing xs → IsStrictlyIncreasing (drop n xs)
rises-drop n xs within rises k below =
    let long = length-drop n xs in
    rw (get_or-drop n xs k 0, get_or-drop n xs (k + 1) 0)
    (let next : n + (k + 1) ≡ n + k + 1 = omega arith in rw next (rises (n + k) (omega arith)))

-- halves
halves_are : (group : List ℕ) → IsStrictlyIncreasing group → 2 ≤ length group →
    IsTwoOf group (take (half_of group) group) (drop (half_of group) group)
halves_are group rises two = record {
  one_some = omega (arith, length-take (half_of group) group);
  other_some = omega (arith, length-drop (half_of group) group);
  one_rises = rises-take (half_of group) group (omega arith) rises;
  other_rises = rises-drop (half_of group) group (omega arith) rises;
  once = rw (take-append-drop (half_of group) group) (IsPermutation-refl group);
}

-- what is denied twice is as it was
not_not : (a : Bool) → a ≡ not (not a)
not_not true = refl
not_not false = refl

-- the two sides of a field, where neither is empty
sides_are : (set : RuleSetView) (group : List ℕ) (field : ℕ) → IsStrictlyIncreasing group →
    smaller_side set group field ≢ 0 → IsTwoOf group (bound_rules set group field) (wild_rules set group field)
unfolding wild_rules bound_rules
sides_are set group field rises some =
    let is_wild : ℕ → Bool = is_wild_in set field in
    let is_bound : ℕ → Bool = λ number. not (is_wild number) in
    record {
      one_some = omega (arith, some);
      other_some = omega (arith, some);
      one_rises = IsStrictlyIncreasing-filter is_bound group rises;
      other_rises = IsStrictlyIncreasing-filter is_wild group rises;
      once = IsPermutation-filter_both is_bound is_wild (λ number. not_not (is_wild number)) group;
    }

-- the number of the field's smaller side
sides_at : (set : RuleSetView) (group : List ℕ) (field : ℕ) → field < length (smaller_sides set group) →
    smaller_side set group field ≡ get_or (smaller_sides set group) field 0
unfolding smaller_sides
sides_at set group field within =
    let long = length-map-range_with_len (smaller_side set group) 0 (length set.layout) in
    sym (get_or-map-range_with_len (smaller_side set group) 0 (length set.layout) field field 0 (omega arith)
    (omega arith))

-- the smaller side of the divider is the greatest of all
divider_side : (set : RuleSetView) (group : List ℕ) → greatest (smaller_sides set group) ≢ 0 →
    smaller_side set group (divider set group) ≡ greatest (smaller_sides set group)
divider_side set group some =
    let at = greatest_there (smaller_sides set group) some in
    sides_at set group (divider set group) at.0 ∙ at.1 0

-- what a group becomes
pub divided_is : (set : RuleSetView) (group : List ℕ) → IsStrictlyIncreasing group → 2 ≤ length group →
    (one : List ℕ) × (other : List ℕ) × (divided set group ≡ one ∷ other ∷ []) × IsTwoOf group one other
unfolding divided
divided_is set group rises two = elim (cases_Bool (greatest (smaller_sides set group) == 0)) [
  | inl none ↦ (take (half_of group) group, drop (half_of group) group, rw none refl, halves_are group rises two)
  | inr some ↦
      let not_0 = eqb-false _ _ some in
      let field : ℕ = divider set group in (
        bound_rules set group field,
        wild_rules set group field,
        rw some refl,
        sides_are set group field rises (λ is. not_0 (sym (divider_side set group not_0) ∙ is)),
      )
]

-- what holds of all of two joined lists holds of all of each
pub parts_hold : {X : Type 0} (P : X → Type 0) (xs ys : List X) → All P (xs ++ ys) → All P xs × All P ys
parts_hold P xs ys all = (
  rw (← take-append_seam xs ys) (All-take P (length xs) (xs ++ ys) all),
  rw (← drop-append_seam xs ys) (All-drop P (length xs) (xs ++ ys) all),
)
