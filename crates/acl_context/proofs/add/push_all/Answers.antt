use Rattle.std.proofs.Common.{map, arith}
use Rattle.std.proofs.lemmas.List.{length-map}
use Rattle.acl_context.proofs.Refusals.{lawful_at, seen_at}
use Rattle.acl_context.proofs.add.push_all.Goals as goal

pub push_one-requires-clause-lawful : goal.push_one-requires-clause-lawful
push_one-requires-clause-lawful g c =
    let view = g.R.Given.view in
    let rules = c.args.rules.now in
    let place = c.loop-rule.rule-index in
    let rule = c.rule-item.result in
    rw c.loop-rule.invariant
    (lawful_at c.args.set.now.layout (map view rules) place (view rule) c.requires.lawful
    (omega (arith, length-map rules view, c.loop-rule-test.true))
    (seen_at view rules place rule c.loop-rule-test.true c.rule-item.is))
