-- The law of filled tables, over the definitions alone.
use Rattle.std.specs.Prelude.{ℕ, ◌+◌, ◌<◌, ◌≤◌, List, All, length, sum_by}
use Rattle.field_defs.specs.Lawful.{IsLayout}
use Rattle.rule_set.specs.Rule.{RuleView, RuleSetView}
use Rattle.rule_set.specs.RuleSet.{IsRuleSet}
use Rattle.rule_set.specs.Groups.{IsPartition}
use Rattle.group_states.specs.Levels.{levels_of}
use Rattle.table_sizes.specs.Sizes.{max_tries, max_words, row_len}
use Rattle.flat_table.specs.Walk.{userdatas}
use Rattle.table_fill.specs.Filled.{filled}
use Rattle.table_fill.specs.Serves.{Serves}

-- how many words the groups take: those of each, and the row of no rule
abbrev pub words_needed : RuleSetView → List (List ℕ) → ℕ
words_needed set groups = row_len + sum_by (λ group. (levels_of set group).words) groups

-- A lawful rule set, and groups of its rules that hold each rule once, whose table isn't too large.
pub record CanBeFilled (set : RuleSetView) (groups : List (List ℕ)) : Type 0 where
  pub rules : IsRuleSet set
  pub layout : IsLayout set.layout
  pub userdata : All (λ (rule : RuleView). rule.tag.userdata < userdatas) set.rules
  pub partition : IsPartition (length set.rules) groups
  pub few : length groups ≤ max_tries
  pub size : words_needed set groups ≤ max_words

-- Whatever the groups are, the filled table answers for each key and category as the rules do.
abbrev pub FilledTablesDecide : Type 0
FilledTablesDecide =
    (set : RuleSetView) (groups : List (List ℕ)) → CanBeFilled set groups →
    Serves set (filled set groups)
