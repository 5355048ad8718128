-- the marks of the first keys are written
use Rattle.std.proofs.Common.{ℕ}
use Rattle.scalar_walk.specs.Rows.{row_winners}
use Rattle.scalar_walk.proofs.Offered.{PiecesTo}
use Rattle.lane_walk.proofs.classify.mark_rows.Given as goal

abbrev pub invariant-loop-k : goal.invariant-loop-k
invariant-loop-k l = PiecesTo (λ (k : ℕ). row_winners l.scratch l.count k) l.count l.k l.fn.won l.won
