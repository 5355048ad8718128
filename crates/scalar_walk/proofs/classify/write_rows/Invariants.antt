-- the verdicts and the marks of the lanes so far
use Rattle.std.proofs.Common.{ℕ, get_or}
use Rattle.scalar_walk.specs.Rows.{row_verdicts, row_winners}
use Rattle.scalar_walk.proofs.Below.{PiecesTo}
use Rattle.scalar_walk.proofs.classify.write_rows.Given as goal

abbrev pub invariant-loop-lane : goal.invariant-loop-lane
invariant-loop-lane l =
    PiecesTo (λ (k : ℕ). row_verdicts l.rows l.asked.count (get_or l.reached k 0)) l.asked.count l.lane l.fn.verdicts
    l.verdicts
    × PiecesTo (λ (k : ℕ). row_winners l.rows l.asked.marks (get_or l.reached k 0)) l.asked.marks l.lane l.fn.won l.won
