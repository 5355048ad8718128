-- The rules at some places decide as the places themselves do.
use Rattle.std.proofs.Common.{◌≡◌, ℕ, zero, suc, ◌<◌, ◌&&◌, List, [], ◌∷◌, length, map, filter, get_or, Bool}
use Rattle.std.proofs.Common.{false, Option, Some, None, refl, sym, ap, ◌∙◌, inl, inr, arith, pos}
use Rattle.std.specs.Prelude.{slice_get}
use Rattle.std.specs.List.{AllByRecursion, find, range_with_len}
use Rattle.std.specs.Option.{option_map, option_map_or}
use Rattle.std.specs.Int.Signed.{le_z}
use Rattle.std.proofs.lemmas.Bool.{cases_Bool}
use Rattle.std.proofs.lemmas.List.{ext_get_or}
use Rattle.std.proofs.lemmas.List.FromFn.{get_or-map-range_with_len, length-map-range_with_len}
use Rattle.std.proofs.lemmas.List.Elements.{recursion_from_All}
use Rattle.std.proofs.lemmas.Option.{slice_get_past, slice_get_cases}
use Rattle.rule_set.specs.Rule.{RuleView, RuleSetView}
use Rattle.rule_set.specs.Winner.{applies, winner, userdata_at, verdict}
use Rattle.rule_set.specs.Among.{passes_at, priority_at, is_greatest_at, best_among}
use Rattle.rule_set.specs.Laws.{TheWinnerIsAmongAllPlaces}
use Rattle.covered_rules.specs.Covered.{rules_at, uncovered, uncovered_set}
use Rattle.covered_rules.specs.Laws.{TheWinnerIsUncovered, UncoveredRulesDecideAlike}
use Rattle.covered_rules.proofs.Staying.{places_rise}

-- each place has a rule
abbrev AreWithin : List RuleView → List ℕ → Type 0
AreWithin rules places = AllByRecursion (λ place. place < length rules) places

-- there is a rule for each place
pub count_at : (rules : List RuleView) (places : List ℕ) → AreWithin rules places →
    length (rules_at rules places) ≡ length places
count_at rules [] within = refl
count_at rules (place ∷ places) within = elim (slice_get_cases rules place).1 [
  | inl found ↦ rw found.2 (omega (arith, count_at rules places within.1))
  | inr past ↦ absurd (omega (arith, past.0, within.0))
]

-- and it is the one at the place
found_at : (rules : List RuleView) (places : List ℕ) → AreWithin rules places → (k : ℕ) →
    slice_get (rules_at rules places) k ≡ slice_get rules (get_or places k (length rules))
found_at rules [] within k = sym (slice_get_past rules (length rules) (omega arith))
found_at rules (place ∷ places) within zero = elim (slice_get_cases rules place).1 [
  | inl found ↦ rw found.2 refl
  | inr past ↦ absurd (omega (arith, past.0, within.0))
]
found_at rules (place ∷ places) within (suc k) = elim (slice_get_cases rules place).1 [
  | inl found ↦ rw found.2 (found_at rules places within.1 k)
  | inr past ↦ absurd (omega (arith, past.0, within.0))
]

-- a function that gives for each place of some rules one of the other rules where the same rule stands
module _ (rules some : List RuleView) (f : ℕ → ℕ) (same : (k : ℕ) → slice_get some k ≡ slice_get rules (f k))
    (test : RuleView → Bool) where
  -- the same pass
  passes_alike : (k : ℕ) → passes_at test rules (f k) ≡ passes_at test some k
  passes_alike k = ap (λ found. option_map_or test found false) (sym (same k))

  -- the priorities are the same
  priority_alike : (k : ℕ) → priority_at rules (f k) ≡ priority_at some k
  priority_alike k = ap (λ found. option_map_or (λ (rule : RuleView). rule.tag.priority) found (pos 0)) (sym (same k))

  -- so those that pass stand at the same places
  passing_alike : (ks : List ℕ) →
      filter (passes_at test rules) (map f ks) ≡ map f (filter (passes_at test some) ks)
  passing_alike [] = refl
  passing_alike (k ∷ ks) = rw (passes_alike k) (elim (cases_Bool (passes_at test some k)) [
    | inl e ↦ rw e (ap (λ others. f k ∷ others) (passing_alike ks))
    | inr e ↦ rw e (passing_alike ks)
  ])

  -- and the same are greatest
  greatest_alike : (ks : List ℕ) (k : ℕ) → is_greatest_at rules (map f ks) (f k) ≡ is_greatest_at some ks k
  greatest_alike [] k = refl
  greatest_alike (j ∷ ks) k = λ i. le_z (priority_alike j i) (priority_alike k i) && greatest_alike ks k i

  -- what is found by the one test is found by the other
  find_alike : (p q : ℕ → Bool) → ((k : ℕ) → p (f k) ≡ q k) → (ks : List ℕ) →
      find p (map f ks) ≡ option_map f (find q ks)
  find_alike p q alike [] = refl
  find_alike p q alike (k ∷ ks) = rw (alike k) (elim (cases_Bool (q k)) [
    | inl e ↦ rw e refl
    | inr e ↦ rw e (find_alike p q alike ks)
  ])

  -- so the best is the same
  pub best_alike : (ks : List ℕ) → best_among test rules (map f ks) ≡ option_map f (best_among test some ks)
  unfolding best_among
  best_alike ks =
      let passing : List ℕ = filter (passes_at test some) ks in
      ap (λ others. find (is_greatest_at rules others) others) (passing_alike ks)
      ∙ find_alike (is_greatest_at rules (map f passing)) (is_greatest_at some passing) (greatest_alike passing)
      passing

-- the numbers of a list are those at its places
at_places : (xs : List ℕ) (d : ℕ) → map (λ k. get_or xs k d) (range_with_len 0 (length xs)) ≡ xs
at_places xs d =
    let f : ℕ → ℕ = λ k. get_or xs k d in
    ext_get_or d (map f (range_with_len 0 (length xs))) xs (length-map-range_with_len f 0 (length xs))
    (λ i below. get_or-map-range_with_len f 0 (length xs) i i d
    (omega (arith, below, length-map-range_with_len f 0 (length xs))) (omega arith))

-- who found the same rule gives the same userdata
userdata_alike : (rules some : List RuleView) (f : ℕ → ℕ) → ((k : ℕ) → slice_get some k ≡ slice_get rules (f k)) →
    (found : Option ℕ) → userdata_at rules (option_map f found) ≡ userdata_at some found
userdata_alike rules some f same None = refl
userdata_alike rules some f same (Some k) =
    ap (λ at. option_map_or (λ (rule : RuleView). rule.tag.userdata) at 0) (sym (same k))

module _ (among_all : TheWinnerIsAmongAllPlaces) (is_uncovered : TheWinnerIsUncovered) (set : RuleSetView) where
  -- the places of uncovered rules
  abbrev places : List ℕ
  places = uncovered set.layout set.rules

  -- the place of an uncovered rule among all
  abbrev place_of : ℕ → ℕ
  place_of k = get_or places k (length set.rules)

  -- each has a rule
  within : AreWithin set.rules places
  within =
      recursion_from_All (λ place. place < length set.rules) places (places_rise.within set.layout set.rules)

  -- the same rule stands there
  same_rule : (k : ℕ) → slice_get (uncovered_set set).rules k ≡ slice_get set.rules (place_of k)
  same_rule k = found_at set.rules places within k

  -- the winner of all is the place of the winner of the uncovered
  winners_alike : (key : List ℕ) (category : ℕ) →
      winner set.layout set.rules key category
      ≡ option_map place_of (winner set.layout (uncovered_set set).rules key category)
  winners_alike key category =
      let test : RuleView → Bool = applies set.layout key category in
      let few : length places ≡ length (uncovered_set set).rules = sym (count_at set.rules places within) in
      is_uncovered set.layout set.rules key category
      ∙ ap (best_among test set.rules) (sym (at_places places (length set.rules)))
      ∙ best_alike set.rules (uncovered_set set).rules place_of same_rule test (range_with_len 0 (length places))
      ∙ ap (λ n. option_map place_of (best_among test (uncovered_set set).rules (range_with_len 0 n))) few
      ∙ ap (option_map place_of) (sym (among_all set.layout (uncovered_set set).rules key category))

  -- and so are the verdicts
  verdicts_alike : (key : List ℕ) (category : ℕ) →
      verdict set.layout (uncovered_set set).rules key category ≡ verdict set.layout set.rules key category
  verdicts_alike key category =
      sym (ap (userdata_at set.rules) (winners_alike key category)
      ∙ userdata_alike set.rules (uncovered_set set).rules place_of same_rule
      (winner set.layout (uncovered_set set).rules key category))

-- uncovered rules decide as all rules do
pub decide_alike : TheWinnerIsAmongAllPlaces → TheWinnerIsUncovered → UncoveredRulesDecideAlike
decide_alike among_all is_uncovered = record {
  wins = winners_alike among_all is_uncovered;
  verdicts = verdicts_alike among_all is_uncovered;
}
