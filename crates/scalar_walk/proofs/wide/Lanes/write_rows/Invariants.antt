-- the rows of the lanes so far are written
use Rattle.scalar_walk.specs.Wide.{AreWritten}
use Rattle.scalar_walk.proofs.wide.Lanes.write_rows.Given as goal

abbrev pub invariant-loop-lane : goal.invariant-loop-lane
invariant-loop-lane l = AreWritten l.self l.lane l.fn.rows l.rows
