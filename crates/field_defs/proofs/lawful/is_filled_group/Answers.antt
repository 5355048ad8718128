use Rattle.std.proofs.Common.{arith}
use Rattle.field_defs.proofs.Groups.{counted_more, counted_other}
use Rattle.field_defs.proofs.lawful.is_filled_group.Goals as goal
use Rattle.field_defs.proofs.lawful.is_filled_group.Goals.{then-def-group, else-def-group}

pub overflow_add-bytes : goal.overflow_add-bytes
overflow_add-bytes c = omega (arith, c.loop-def.invariant.small)

pub loop-def-preserved : goal.loop-def-preserved
loop-def-preserved c = elim c.if-def-group.branch [
  | then-def-group w ↦
      rw (w.count-is, w.bytes-is, w.from-bytes.ensures)
      (counted_more c.args.later.now c.args.group c.loop-def.count c.loop-def.bytes c.loop-def.def-index _ (omega arith)
      (omega arith) w.if-def-group.true c.loop-def.invariant)
  | else-def-group w ↦
      rw (w.count-is, w.bytes-is)
      (counted_other c.args.later.now c.args.group c.loop-def.count c.loop-def.bytes c.loop-def.def-index _
      (omega arith) w.if-def-group.false c.loop-def.invariant)
]
