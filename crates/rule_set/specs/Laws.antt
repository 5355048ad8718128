-- Laws of rules and winners, over the definitions alone.
use Rattle.std.specs.Prelude.{◌≡◌, ◌≢◌, ℕ, ◌<◌, ◌≤◌, ◌↔◌, ◌⊎◌, List, filter, Bool, true, false}
use Rattle.std.specs.Prelude.{◌&&◌, Some, None, length}
use Rattle.std.specs.List.{Contains, range_with_len}
use Rattle.std.specs.List.Sorted.{IsStrictlyIncreasing}
use Rattle.std.specs.Int.Signed.{le_z}
use Rattle.field_defs.specs.declared.field.FieldDef.{FieldDef}
use Rattle.field_defs.specs.declared.field.FieldValue.{FieldValue}
use Rattle.field_defs.specs.Lawful.{IsLayout}
use Rattle.rule_set.specs.declared.rule.RuleTag.{RuleTag}
use Rattle.rule_set.specs.Fault.{rule_fault}
use Rattle.rule_set.specs.Lawful.{IsLawfulRule}
use Rattle.rule_set.specs.Rule.{RuleView}
use Rattle.rule_set.specs.Winner.{winner}
use Rattle.rule_set.specs.Rank.{comes_below, rank_of}
use Rattle.rule_set.specs.Among.{passes_at, priority_at, best_among, winner_among}

-- A rule has no fault for a layout exactly where it is lawful as a whole.
abbrev pub FaultlessRulesAreLawful : Type 0
FaultlessRulesAreLawful =
    (layout : List FieldDef) (tag : RuleTag) (values : List FieldValue) → IsLayout layout →
    (rule_fault layout tag values ≡ None ↔ IsLawfulRule layout tag values)

-- The rule at the one place has a greater priority than that at the other, or the same priority and
-- an earlier place.
abbrev pub WinsOver : List RuleView → ℕ → ℕ → Type 0
WinsOver rules place other =
    (le_z (priority_at rules place) (priority_at rules other) ≡ false)
    ⊎ ((priority_at rules place ≡ priority_at rules other) × (place < other))

-- The place is among the places, its rule passes the test, and it wins over each other that passes.
pub record IsBest (test : RuleView → Bool) (rules : List RuleView) (places : List ℕ)
    (place : ℕ) : Type 0 where
  pub among : Contains places place
  pub passes : passes_at test rules place ≡ true
  pub wins : (other : ℕ) → Contains places other → passes_at test rules other ≡ true →
      other ≢ place →
      WinsOver rules place other

-- Among places that rise, the best is the one that wins over all others that pass, and there is
-- none exactly where no rule at the places passes.
pub record TheBestWinsOverAllOthers : Type 0 where
  pub best : (test : RuleView → Bool) (rules : List RuleView) (places : List ℕ) (place : ℕ) →
      IsStrictlyIncreasing places →
      (best_among test rules places ≡ Some place ↔ IsBest test rules places place)
  pub none : (test : RuleView → Bool) (rules : List RuleView) (places : List ℕ) →
      (best_among test rules places ≡ None ↔
      ((place : ℕ) → Contains places place → passes_at test rules place ≡ false))

-- The winner of a rule set is the winner among all places.
abbrev pub TheWinnerIsAmongAllPlaces : Type 0
TheWinnerIsAmongAllPlaces =
    (layout : List FieldDef) (rules : List RuleView) (key : List ℕ) (category : ℕ) →
    winner layout rules key category ≡ winner_among layout rules
    (range_with_len 0 (length rules)) key category

-- The best of the rules that pass two tests is the best by the second test of those that pass the
-- first.
abbrev pub TestsMayBeMadeInTurn : Type 0
TestsMayBeMadeInTurn =
    (first second : RuleView → Bool) (rules : List RuleView) (places : List ℕ) →
    best_among (λ rule. first rule && second rule) rules places
    ≡ best_among second rules (filter (passes_at first rules) places)

-- The ranks of a set are from 1 to the number of its rules and all different, and one is greater
-- than another exactly where the other rule comes below.
pub record RanksOrderRules : Type 0 where
  pub bounds : (rules : List RuleView) (place : ℕ) → place < length rules →
      (1 ≤ rank_of rules place) × (rank_of rules place ≤ length rules)
  pub order : (rules : List RuleView) (place other : ℕ) → place < length rules →
      other < length rules →
      (rank_of rules other < rank_of rules place ↔ comes_below rules place other ≡ true)
  pub distinct : (rules : List RuleView) (place other : ℕ) → place < length rules →
      other < length rules → place ≢ other → rank_of rules place ≢ rank_of rules other

-- The place is among the places, its rule passes the test, and each other that passes has a lower
-- rank.
pub record HasGreatestRank (test : RuleView → Bool) (rules : List RuleView) (places : List ℕ)
    (place : ℕ) : Type 0 where
  pub among : Contains places place
  pub passes : passes_at test rules place ≡ true
  pub below : (other : ℕ) → Contains places other → passes_at test rules other ≡ true →
      other ≢ place → rank_of rules other < rank_of rules place

-- Among places that rise, the best is the one of greatest rank among those that pass.
abbrev pub TheBestHasTheGreatestRank : Type 0
TheBestHasTheGreatestRank =
    (test : RuleView → Bool) (rules : List RuleView) (places : List ℕ) (place : ℕ) →
    IsStrictlyIncreasing places →
    (best_among test rules places ≡ Some place ↔ HasGreatestRank test rules places place)
