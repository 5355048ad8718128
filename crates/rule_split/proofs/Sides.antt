-- The two sides of a field, rule by rule.
use Rattle.std.proofs.Common.{◌≡◌, ℕ, ◌+◌, ◌-◌, ◌<◌, ◌++◌, List, [], ◌∷◌, length, take, filter, min, get_or, not, Bool}
use Rattle.std.proofs.Common.{true, false, cond, refl, ◌∙◌, inl, inr, nat_cmp, arith}
use Rattle.std.specs.List.{count_by}
use Rattle.std.specs.Ordering.{ord_min}
use Rattle.std.proofs.lemmas.Bool.{cases_lt, cases_eq, lt-ltb, le-ltb, eq-eqb, ne_eqb}
use Rattle.std.proofs.lemmas.List.{append-nil, length-append}
use Rattle.std.proofs.lemmas.List.Sums.{length-filter}
use Rattle.std.proofs.lemmas.List.FromFn.{length-map-range_with_len}
use Rattle.std.proofs.lemmas.List.Sorted.{length_permutation, IsPermutation-filter_both}
use Rattle.std.proofs.lemmas.List.Elements.{filter_more}
use Rattle.rule_set.specs.Rule.{RuleSetView}
use Rattle.rule_split.specs.Divide.{is_wild_in, wild_rules, bound_rules, smaller_side, smaller_sides}

-- one element more, or the same
one_more : {X : Type 0} (is : Bool) (xs : List X) (x : X) → xs ++ cond is (x ∷ []) [] ≡ cond is (xs ++ x ∷ []) xs
one_more true xs x = refl
one_more false xs x = append-nil xs

-- an element is added unless the test holds
one_less : {X : Type 0} (is : Bool) (xs : List X) (x : X) →
    xs ++ cond (not is) (x ∷ []) [] ≡ cond is xs (xs ++ x ∷ [])
one_less true xs x = append-nil xs
one_less false xs x = refl

module _ (set : RuleSetView) (group : List ℕ) (field count : ℕ) (within : count < length group) where
  -- the next rule of the group
  abbrev next : ℕ
  next = get_or group count 0

  -- one more rule joins the wild ones exactly if it is wild in the field
  pub wild_more : wild_rules set (take (count + 1) group) field
      ≡ cond (is_wild_in set field next) (wild_rules set (take count group) field ++ next ∷ [])
      (wild_rules set (take count group) field)
  unfolding wild_rules
  wild_more =
      filter_more (is_wild_in set field) group count 0 within
      ∙ one_more (is_wild_in set field next) (wild_rules set (take count group) field) next

  -- one more rule joins the bound ones exactly if it isn't wild in the field
  pub bound_more : bound_rules set (take (count + 1) group) field
      ≡ cond (is_wild_in set field next) (bound_rules set (take count group) field)
      (bound_rules set (take count group) field ++ next ∷ [])
  unfolding bound_rules
  bound_more =
      filter_more (λ number. not (is_wild_in set field number)) group count 0 within
      ∙ one_less (is_wild_in set field next) (bound_rules set (take count group) field) next

-- there is a number for each field
pub length-sides : (set : RuleSetView) (group : List ℕ) → length (smaller_sides set group) ≡ length set.layout
unfolding smaller_sides
length-sides set group = length-map-range_with_len (smaller_side set group) 0 (length set.layout)

-- of a group as many rules are wild in a field as are counted, and all others aren't
pub side_of_count : (set : RuleSetView) (group : List ℕ) (field wild : ℕ) →
    wild ≡ count_by (is_wild_in set field) group → smaller_side set group field ≡ min wild (length group - wild)
unfolding wild_rules bound_rules
side_of_count set group field wild is =
    let is_wild : ℕ → Bool = is_wild_in set field in
    let is_bound : ℕ → Bool = λ number. not (is_wild number) in
    omega (
      arith,
      is,
      length-filter is_wild group,
      length_permutation group (filter is_wild group ++ filter is_bound group)
          (IsPermutation-filter_both is_wild is_bound (λ number. refl) group),
      length-append (filter is_wild group) (filter is_bound group),
    )

-- the smaller one of two numbers, as the library says it
pub min_is : (a b : ℕ) → min a b ≡ ord_min nat_cmp a b
min_is a b = elim (cases_lt b a) [
  | inl below ↦ rw (lt-ltb b a below) (omega arith)
  | inr level ↦ elim (cases_eq b a) [
    | inl same ↦ rw (le-ltb b a level, eq-eqb b a same) (omega arith)
    | inr apart ↦ rw (le-ltb b a level, ne_eqb b a apart) (omega arith)
  ]
]
