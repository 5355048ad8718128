use Rattle.std.proofs.Common.{◌<◌, arith, length}
use Rattle.std.proofs.lemmas.List.Elements.{All-from_all_within, AllWithin-upto}
use Rattle.tests_of_contexts.proofs.schedules.scheduled.Goals as goal

pub run_schedule-requires-clause-slots : goal.run_schedule-requires-clause-slots
run_schedule-requires-clause-slots g c =
    let slots = c.args.slots.now in
    All-from_all_within (λ slot. slot < g.row.W) slots
    (AllWithin-upto (λ slot. slot < g.row.W) slots 0 c.loop-slot.slot-index (length slots)
    (omega (arith, c.loop-slot-test.false)) c.loop-slot.invariant)
