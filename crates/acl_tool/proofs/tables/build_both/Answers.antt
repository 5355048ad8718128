use Rattle.std.proofs.Common.{subst}
use Rattle.field_defs.specs.Layout.{ip4_fields, ip6_fields}
use Rattle.rule_set.specs.Rule.{RuleSetView}
use Rattle.acl_tool.specs.Built.{BuildsTable}
use Rattle.acl_tool.specs.Held.{lists_held}
use Rattle.acl_tool.proofs.Making.{IsBuilt-both, set-is}
use Rattle.acl_tool.proofs.tables.build_both.Goals as goal

pub returns-clause-built : goal.returns-clause-built
returns-clause-built c =
    let contexts = c.args.contexts.now in
    let ip4 = set-is contexts.ip4.set ip4_fields c.requires.ip4 in
    let ip6 = set-is contexts.ip6.set ip6_fields c.requires.ip6 in
    IsBuilt-both c.args.budget (lists_held contexts) c.build.new.context.table c.build-2.new.context.table
    (subst (λ (set : RuleSetView). BuildsTable set c.args.budget c.build.new.context.table) ip4
    c.in_ok-build.ensures.ok)
    (subst (λ (set : RuleSetView). BuildsTable set c.args.budget c.build-2.new.context.table) ip6
    c.in_ok-build-2.ensures.ok)
