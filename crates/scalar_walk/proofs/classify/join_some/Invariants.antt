-- the verdicts and the marks of the keys so far
use Rattle.std.proofs.Common.{ℕ}
use Rattle.flat_table.specs.Batch.{key_at, key_verdicts}
use Rattle.scalar_walk.specs.Rows.{key_winners}
use Rattle.scalar_walk.proofs.Below.{PiecesTo}
use Rattle.scalar_walk.proofs.classify.join_some.Given as goal

abbrev pub invariant-loop-lane : goal.invariant-loop-lane
invariant-loop-lane g l =
    PiecesTo (λ (k : ℕ). key_verdicts l.table l.asked.count (key_at l.table l.keys k)) l.asked.count l.lane
    l.fn.verdicts l.verdicts
    × PiecesTo (λ (k : ℕ). key_winners l.table l.asked.marks (key_at l.table l.keys k)) l.asked.marks l.lane l.fn.won
    l.won
