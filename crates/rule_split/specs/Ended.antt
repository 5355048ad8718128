-- A split that has ended, before it is known whether a table of its groups fits the budget.
use Rattle.std.specs.Prelude.{◌≡◌, ℕ, ◌≤◌, List, map}
use Rattle.rule_set.specs.Rule.{RuleSetView}
use Rattle.group_states.specs.Levels.{LevelsView, levels_of}
use Rattle.rule_split.specs.Split.{PlanView, groups_of, total_of}

-- a split as contracts see it: its total, the budget, and the merged states that are kept
pub record SplitView : Type 0 where
  pub total : ℕ
  pub budget : ℕ
  pub kept : List LevelsView

-- The split is that of the set under the budget. Where the total is within the budget, the merged
-- states of all groups are kept.
pub record IsSplit (set : RuleSetView) (budget : ℕ) (split : SplitView) : Type 0 where
  pub total_is : split.total ≡ total_of set budget
  pub budget_is : split.budget ≡ budget
  pub kept_are : split.total ≤ budget → split.kept ≡ map (levels_of set) (groups_of set budget)

-- the plan of what is kept
abbrev pub plan_in : SplitView → PlanView
plan_in split = record { levels = split.kept; total = split.total }
