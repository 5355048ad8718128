use Rattle.std.proofs.Common.{subst}
use Rattle.rule_set.specs.Rule.{RuleSetView}
use Rattle.classbench_reader.specs.RuleFile.{RuleLists}
use Rattle.acl_tool.specs.Built.{IsBuilt}
use Rattle.acl_tool.proofs.tables.build_tables.Goals as goal

pub returns-clause-built : goal.returns-clause-built
returns-clause-built c =
    let held : RuleSetView → RuleSetView → RuleLists = λ ip4 ip6. record { ip4 = ip4.rules; ip6 = ip6.rules } in
    subst (λ (lists : RuleLists). IsBuilt c.args.budget lists c.build_both.new.contexts.ip4.table
    c.build_both.new.contexts.ip6.table) (λ i. held (c.hold.ensures.set i) (c.hold-2.ensures.set i))
    c.in_ok-build_both.ensures.built
