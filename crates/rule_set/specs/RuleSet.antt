-- What holds of every rule set.
use Rattle.std.specs.Prelude.{◌≡◌, ◌≤◌, length, All, None}
use Rattle.table_sizes.specs.Sizes.{max_rules}
use Rattle.rule_set.specs.Fault.{rule_fault}
use Rattle.rule_set.specs.Rule.{RuleView, RuleSetView}

-- each rule is lawful for the layout, and there are no more than a set holds
pub record IsRuleSet (set : RuleSetView) : Type 0 where
  pub lawful : All (λ (rule : RuleView). rule_fault set.layout rule.tag rule.fields ≡ None)
      set.rules
  pub few : length set.rules ≤ max_rules
