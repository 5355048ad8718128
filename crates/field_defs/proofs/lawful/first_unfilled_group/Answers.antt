use Rattle.std.proofs.Common.{sym, ◌∙◌, arith}
use Rattle.field_defs.specs.LayoutFault.{is_filled_group, group_numbers}
use Rattle.field_defs.proofs.Faultless.{from_start, from_more, from_here, from_end}
use Rattle.field_defs.proofs.lawful.first_unfilled_group.Goals as goal

pub loop-group-init : goal.loop-group-init
loop-group-init c = from_start (is_filled_group c.args.later.now) group_numbers

pub returns-then-not-is_filled_group : goal.returns-then-not-is_filled_group
returns-then-not-is_filled_group c = sym (c.loop-group.invariant
    ∙ from_here (is_filled_group c.args.later.now) c.loop-group.group group_numbers (omega arith)
    (sym c.is_filled_group.ensures ∙ c.if-not-is_filled_group.true))

pub loop-group-preserved : goal.loop-group-preserved
loop-group-preserved c = c.loop-group.invariant
    ∙ from_more (is_filled_group c.args.later.now) c.loop-group.group group_numbers (omega arith)
    (sym c.is_filled_group.ensures ∙ c.if-not-is_filled_group.false)

pub returns : goal.returns
returns c = sym (c.loop-group.invariant ∙ from_end (is_filled_group c.args.later.now) c.loop-group.group group_numbers
    (omega arith))
