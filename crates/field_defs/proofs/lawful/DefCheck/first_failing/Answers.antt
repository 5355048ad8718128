use Rattle.std.proofs.Common.{length, sym, ◌∙◌, arith}
use Rattle.field_defs.specs.LayoutFault.{passes}
use Rattle.field_defs.proofs.Faultless.{from_start, from_more, from_here, from_end}
use Rattle.field_defs.proofs.lawful.DefCheck.first_failing.Goals as goal

pub loop-place-init : goal.loop-place-init
loop-place-init c = from_start (passes c.args.self c.args.defs.now) (length c.args.defs.now)

pub returns-then-not-passes : goal.returns-then-not-passes
returns-then-not-passes c = sym (c.loop-place.invariant
    ∙ from_here (passes c.args.self c.args.defs.now) c.loop-place.place (length c.args.defs.now) (omega arith)
    (sym c.passes.ensures ∙ c.if-not-passes.true))

pub loop-place-preserved : goal.loop-place-preserved
loop-place-preserved c = c.loop-place.invariant
    ∙ from_more (passes c.args.self c.args.defs.now) c.loop-place.place (length c.args.defs.now) (omega arith)
    (sym c.passes.ensures ∙ c.if-not-passes.false)

pub returns : goal.returns
returns c = sym (c.loop-place.invariant ∙ from_end (passes c.args.self c.args.defs.now) c.loop-place.place
    (length c.args.defs.now) (omega arith))
