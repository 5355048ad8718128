-- the machine ran by the slots so far
use Rattle.flow_core.proofs.RanBy.{RanBy}
use Rattle.flow_core.proofs.schedule.run_schedule.Given as goal

abbrev pub invariant-loop-slot : goal.invariant-loop-slot
invariant-loop-slot g l = RanBy l.table l.keys g.row.W l.slots l.slot-index l.flows l.fn.scratch l.scratch
