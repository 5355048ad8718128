use Rattle.std.proofs.Common.{◌≡◌, Some, None, map, sym, ◌∙◌, arith}
use Rattle.std.proofs.lemmas.List.{length-map}
use Rattle.rule_set.specs.Fault.{rule_fault}
use Rattle.acl_context.proofs.Refusals.{first_from_start, first_from_more, first_from_here, first_from_end, seen_at}
use Rattle.acl_context.proofs.add.check_all.Goals as goal

pub loop-place-init : goal.loop-place-init
loop-place-init g c = sym (first_from_start c.args.layout.now (map g.R.Given.view c.args.rules.now))

pub returns-in-Err : goal.returns-in-Err
returns-in-Err g c =
    let view = g.R.Given.view in
    let rules = c.args.rules.now in
    let place = c.loop-place.place in
    let rule = c.index-rules-place.result in
    let fault : rule_fault c.args.layout.now (view rule).tag (view rule).fields ≡ Some c.in-Err.fault =
    sym (rw (c.in-Err.is, c.given_tag.ensures, c.given_fields.ensures) at c.check_rule.ensures) in
    sym (c.loop-place.invariant
    ∙ first_from_here c.args.layout.now (map view rules) place (view rule) c.in-Err.fault
    (omega (arith, length-map rules view, c.loop-place-test.true))
    (seen_at view rules place rule c.loop-place-test.true c.index-rules-place.is) fault)

pub loop-place-preserved : goal.loop-place-preserved
loop-place-preserved g c =
    let view = g.R.Given.view in
    let rules = c.args.rules.now in
    let place = c.loop-place.place in
    let rule = c.index-rules-place.result in
    let lawful : rule_fault c.args.layout.now (view rule).tag (view rule).fields ≡ None =
    sym (rw (c.in_default.is, c.given_tag.ensures, c.given_fields.ensures) at c.check_rule.ensures) in
    c.loop-place.invariant
    ∙ first_from_more c.args.layout.now (map view rules) place (view rule)
    (omega (arith, length-map rules view, c.loop-place-test.true))
    (seen_at view rules place rule c.loop-place-test.true c.index-rules-place.is) lawful

pub returns : goal.returns
returns g c =
    let view = g.R.Given.view in
    sym (c.loop-place.invariant
    ∙ first_from_end c.args.layout.now (map view c.args.rules.now) c.loop-place.place
    (omega (arith, length-map c.args.rules.now view, c.loop-place-test.false)))
