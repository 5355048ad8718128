-- the entries so far are slots
use Rattle.std.proofs.Common.{◌<◌}
use Rattle.std.specs.List.{AllWithin}
use Rattle.tests_of_contexts.proofs.schedules.scheduled.Given as goal

abbrev pub invariant-loop-slot : goal.invariant-loop-slot
invariant-loop-slot g l = AllWithin (λ slot. slot < g.row.W) l.slots 0 l.slot-index
