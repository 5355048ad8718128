-- the marks so far
use Rattle.std.proofs.Common.{◌≡◌, ◌<◌, ℕ, not, ◌==◌, false, get_or, length}
use Rattle.table_sizes.specs.Sizes.{row_len}
use Rattle.scalar_walk.specs.Rows.{joined_rows}
use Rattle.scalar_walk.proofs.classify.mark_winners.Given as goal

abbrev pub invariant-loop-category : goal.invariant-loop-category
invariant-loop-category g l =
    (length l.won ≡ row_len) × ((k : ℕ) → k < l.category →
    get_or l.won k false ≡ not (joined_rows l.table.rows l.rows k == 0))
