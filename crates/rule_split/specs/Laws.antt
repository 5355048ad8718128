-- Laws of the split, over the definitions alone.
use Rattle.std.specs.Prelude.{◌≡◌, ℕ, ◌+◌, ◌≤◌, List, All, length, sum_by, Some}
use Rattle.std.specs.List.{Contains}
use Rattle.rule_set.specs.Rule.{RuleSetView}
use Rattle.rule_set.specs.Rank.{rank_of}
use Rattle.rule_set.specs.Among.{winner_among}
use Rattle.rule_set.specs.Winner.{winner}
use Rattle.rule_set.specs.Groups.{IsPartition, rank_or_none, greatest}
use Rattle.rule_set.specs.GroupLaws.{winners_ranks}
use Rattle.table_sizes.specs.Sizes.{max_tries, row_len}
use Rattle.group_states.specs.Levels.{IsGroup, LevelsView}
use Rattle.rule_split.specs.Split.{groups_of, total_of, plan_of}

-- The groups of a set together hold each rule once, each of them is one of the set, and there are
-- at most eight.
pub record GroupsHoldEachRuleOnce : Type 0 where
  pub once : (set : RuleSetView) (budget : ℕ) →
      IsPartition (length set.rules) (groups_of set budget)
  pub groups : (set : RuleSetView) (budget : ℕ) → All (IsGroup set) (groups_of set budget)
  pub few : (set : RuleSetView) (budget : ℕ) → length (groups_of set budget) ≤ max_tries

-- Where the total of a set is within the budget, it is the words of all groups and of one row.
abbrev pub TheTotalIsOfAllWords : Type 0
TheTotalIsOfAllWords =
    (set : RuleSetView) (budget : ℕ) → total_of set budget ≤ budget →
    total_of set budget
    ≡ row_len + sum_by (λ (levels : LevelsView). levels.words) (plan_of set budget).levels

-- The winner of all rules is the group's winner of greatest rank.
pub record TheWinnerHasTheGreatestRank : Type 0 where
  pub rank : (set : RuleSetView) (budget : ℕ) (key : List ℕ) (category : ℕ) →
      greatest (winners_ranks set.layout set.rules (groups_of set budget) key category)
      ≡ rank_or_none set.rules (winner set.layout set.rules key category)
  pub wins : (set : RuleSetView) (budget : ℕ) (key : List ℕ) (category place : ℕ)
      (group : List ℕ) → Contains (groups_of set budget) group →
      winner_among set.layout set.rules group key category ≡ Some place →
      rank_of set.rules place
      ≡ greatest (winners_ranks set.layout set.rules (groups_of set budget) key category) →
      winner set.layout set.rules key category ≡ Some place
