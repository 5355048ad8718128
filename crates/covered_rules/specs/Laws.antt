-- Laws of rules that are covered and of those that aren't, over the definitions alone.
use Rattle.std.specs.Prelude.{◌≡◌, ℕ, ◌<◌, List, All, length, slice_index_or, true}
use Rattle.std.specs.List.Sorted.{IsStrictlyIncreasing}
use Rattle.std.specs.Option.{option_map}
use Rattle.field_defs.specs.declared.field.FieldDef.{FieldDef}
use Rattle.rule_set.specs.Among.{passes_at, winner_among}
use Rattle.covered_rules.specs.Covered.{covers, uncovered, uncovered_set}
use Rattle.rule_set.specs.Rule.{RuleView, RuleSetView}
use Rattle.rule_set.specs.Winner.{applies, winner, verdict}

-- A covered rule applies only where its cover applies.
abbrev pub CoveredRulesApplyWithTheirCover : Type 0
CoveredRulesApplyWithTheirCover =
    (layout : List FieldDef) (rules : List RuleView) (key : List ℕ)
    (category place other : ℕ) → covers layout rules place other ≡ true →
    passes_at (applies layout key category) rules other ≡ true →
    passes_at (applies layout key category) rules place ≡ true

-- The places of uncovered rules rise, each has a rule, and there are some if there is a rule.
pub record UncoveredPlacesRise : Type 0 where
  pub rise : (layout : List FieldDef) (rules : List RuleView) →
      IsStrictlyIncreasing (uncovered layout rules)
  pub within : (layout : List FieldDef) (rules : List RuleView) →
      All (λ place. place < length rules) (uncovered layout rules)
  pub some : (layout : List FieldDef) (rules : List RuleView) → 0 < length rules →
      0 < length (uncovered layout rules)

-- The winner of a rule set is the winner among its uncovered rules.
abbrev pub TheWinnerIsUncovered : Type 0
TheWinnerIsUncovered =
    (layout : List FieldDef) (rules : List RuleView) (key : List ℕ) (category : ℕ) →
    winner layout rules key category
    ≡ winner_among layout rules (uncovered layout rules) key category

-- The set of the uncovered rules decides as the whole set does: the winner of the one is the rule
-- that is the winner of the other, and the verdict is the same.
pub record UncoveredRulesDecideAlike : Type 0 where
  pub wins : (set : RuleSetView) (key : List ℕ) (category : ℕ) →
      winner set.layout set.rules key category
      ≡ option_map
      (λ k. slice_index_or (uncovered set.layout set.rules) k (length set.rules))
      (winner set.layout (uncovered_set set).rules key category)
  pub verdicts : (set : RuleSetView) (key : List ℕ) (category : ℕ) →
      verdict set.layout (uncovered_set set).rules key category
      ≡ verdict set.layout set.rules key category
