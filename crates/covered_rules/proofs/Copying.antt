-- What is copied of some rules, as one more is.
use Rattle.std.proofs.Common.{◌≡◌, ℕ, ◌+◌, ◌<◌, ◌≤◌, ◌++◌, List, [], ◌∷◌, length, take, get_or, sym, ap, ◌∙◌, arith}
use Rattle.std.proofs.Common.{Option, Some, None}
use Rattle.std.specs.Prelude.{slice_get}
use Rattle.std.specs.List.{cons_option}
use Rattle.std.proofs.lemmas.List.{length-take, take_more}
use Rattle.std.proofs.lemmas.List.Elements.{filter_map-append}
use Rattle.table_sizes.specs.Sizes.{max_rules}
use Rattle.rule_set.specs.Rule.{RuleView, RuleSetView}
use Rattle.covered_rules.specs.Covered.{rules_at, uncovered}
use Rattle.covered_rules.proofs.Staying.{places_rise}

-- one more rule is copied
pub copied_more : (rules : List RuleView) (places : List ℕ) (k : ℕ) → k < length places →
    rules_at rules (take k places) ++ rules_at rules (get_or places k 0 ∷ []) ≡ rules_at rules (take (k + 1) places)
copied_more rules places k below =
    sym (filter_map-append (slice_get rules) (take k places) (get_or places k 0 ∷ []))
    ∙ ap (rules_at rules) (sym (take_more places k 0 below))

-- a rule more, if there is one
one_at_most : (found : Option RuleView) (rules : List RuleView) → length (cons_option found rules) ≤ length rules + 1
one_at_most None rules = omega arith
one_at_most (Some rule) rules = omega arith

-- no more rules stand at places than there are places
rules_at-few : (rules : List RuleView) (places : List ℕ) → length (rules_at rules places) ≤ length places
rules_at-few rules [] = omega arith
rules_at-few rules (place ∷ places) =
    omega (arith, rules_at-few rules places, one_at_most (slice_get rules place) (rules_at rules places))

-- so there is room for one more
pub room_left : (set : RuleSetView) (places : List ℕ) (k : ℕ) → k < length places →
    length places ≤ max_rules →
    length (rules_at set.rules (take k places)) < max_rules
room_left set places k below few =
    omega (arith, rules_at-few set.rules (take k places), length-take k places, below, few)

-- and each place has a rule
pub place_there : (set : RuleSetView) (places : List ℕ) (k : ℕ) → k < length places →
    places ≡ uncovered set.layout set.rules → get_or places k 0 < length set.rules
place_there set places k below are =
    (rw (← are) at (places_rise.within set.layout set.rules)) k 0 below
