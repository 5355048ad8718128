-- the marks so far
use Rattle.std.proofs.Common.{◌≡◌, ◌<◌, ◌==◌, ℕ, false, get_or, not}
use Rattle.std.specs.Prelude.{slice_index}
use Rattle.lane_walk.proofs.classify.mark_row.Given as goal

abbrev pub invariant-loop-category : goal.invariant-loop-category
invariant-loop-category l =
    (k : ℕ) → k < l.category → get_or l.won k false ≡ not (slice_index l.row k == 0)
