-- Laws of groups of rules, over the definitions alone.
use Rattle.std.specs.Prelude.{◌≡◌, ◌↔◌, ℕ, List, All, length, map, Some, None}
use Rattle.std.specs.List.{Contains}
use Rattle.field_defs.specs.declared.field.FieldDef.{FieldDef}
use Rattle.rule_set.specs.Rule.{RuleView}
use Rattle.rule_set.specs.Among.{winner_among}
use Rattle.rule_set.specs.Winner.{winner}
use Rattle.rule_set.specs.Rank.{rank_of}
use Rattle.rule_set.specs.Groups.{IsPartition, rank_or_none, greatest}

-- the ranks of the groups' winners, and 0 for a group without one
abbrev pub winners_ranks : List FieldDef → List RuleView → List (List ℕ) → List ℕ → ℕ → List ℕ
winners_ranks layout rules groups key category =
    map (λ group. rank_or_none rules (winner_among layout rules group key category)) groups

-- The winner of all rules is the group's winner of greatest rank, and there is none exactly where
-- no group has one.
pub record TheGroupsWinnersDecide : Type 0 where
  pub rank : (layout : List FieldDef) (rules : List RuleView) (groups : List (List ℕ))
      (key : List ℕ) (category : ℕ) →
      IsPartition (length rules) groups →
      greatest (winners_ranks layout rules groups key category)
      ≡ rank_or_none rules (winner layout rules key category)
  pub wins : (layout : List FieldDef) (rules : List RuleView) (groups : List (List ℕ))
      (key : List ℕ) (category place : ℕ) (group : List ℕ) →
      IsPartition (length rules) groups → Contains groups group →
      winner_among layout rules group key category ≡ Some place →
      rank_of rules place ≡ greatest (winners_ranks layout rules groups key category) →
      winner layout rules key category ≡ Some place
  pub none : (layout : List FieldDef) (rules : List RuleView) (groups : List (List ℕ))
      (key : List ℕ) (category : ℕ) →
      IsPartition (length rules) groups →
      (winner layout rules key category ≡ None
      ↔ All (λ group. winner_among layout rules group key category ≡ None) groups)
