-- the machine may go on
use Rattle.std.specs.Prelude.{length}
use Rattle.flow_core.specs.Standing.{StandsOver}
use Rattle.tests_of_contexts.proofs.lanes.fourteen_turns.Given as goal

abbrev pub invariant-loop-turn : goal.invariant-loop-turn
invariant-loop-turn l = StandsOver l.table l.keys l.lanes (length l.scratch)
