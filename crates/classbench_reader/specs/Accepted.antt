-- What holds of every rule file that is accepted.
use Rattle.std.specs.Prelude.{◌≡◌, ℕ, ◌<◌, ◌^◌, List, All, Ok}
use Rattle.field_defs.specs.Layout.{ip4_fields, ip6_fields}
use Rattle.rule_set.specs.Rule.{RuleView}
use Rattle.rule_set.specs.RuleSet.{IsRuleSet}
use Rattle.classbench_reader.specs.RuleFile.{RuleLists, rule_file_of}

-- The rules of each family are a rule set of its layout, and each userdata is a number of 32 bits.
pub record HoldsLawfulRules (lists : RuleLists) : Type 0 where
  pub ip4_rules : IsRuleSet (record { layout = ip4_fields; rules = lists.ip4 })
  pub ip6_rules : IsRuleSet (record { layout = ip6_fields; rules = lists.ip6 })
  pub ip4_userdata : All (λ (rule : RuleView). rule.tag.userdata < 2 ^ 32) lists.ip4
  pub ip6_userdata : All (λ (rule : RuleView). rule.tag.userdata < 2 ^ 32) lists.ip6

-- whatever the bytes are, the rules that they are read as are such
abbrev pub AcceptedRulesAreLawful : Type 0
AcceptedRulesAreLawful =
    (bytes : List ℕ) (lists : RuleLists) → rule_file_of bytes ≡ Ok lists → HoldsLawfulRules lists
