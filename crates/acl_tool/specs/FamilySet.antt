-- The rule sets of a rule file.
use Rattle.field_defs.specs.declared.field.Family.{Family}
use Rattle.field_defs.specs.declared.field.Family.TheVariants.{Ip4, Ip6}
use Rattle.field_defs.specs.Layout.{ip4_fields, ip6_fields}
use Rattle.rule_set.specs.Rule.{RuleSetView}
use Rattle.classbench_reader.specs.RuleFile.{RuleLists}

-- a rule set of a family
abbrev pub set_of : Family → RuleLists → RuleSetView
set_of Ip4 lists = record { layout = ip4_fields; rules = lists.ip4 }
set_of Ip6 lists = record { layout = ip6_fields; rules = lists.ip6 }
