-- the rows of the lanes so far are written
use Rattle.scalar_walk.proofs.Ended.{RowsTo}
use Rattle.scalar_walk.proofs.vectors.write_ends.Given as goal

abbrev pub invariant-loop-i : goal.invariant-loop-i
invariant-loop-i l = RowsTo l.lows l.fn.rows l.at l.i l.rows
