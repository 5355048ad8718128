-- the lanes so far have closed ranks; of those behind the kept ones the lanes so far are empty
use Rattle.std.proofs.Common.{◌≡◌, ℕ, ◌<◌, ◌≤◌}
use Rattle.std.specs.Prelude.{slice_index}
use Rattle.scalar_walk.specs.Lanes.{ended}
use Rattle.scalar_walk.specs.Wide.{AreClosed}
use Rattle.scalar_walk.proofs.wide.Lanes.close_ranks.Given as goal

abbrev pub invariant-loop-lane : goal.invariant-loop-lane
invariant-loop-lane l = AreClosed l.fn.self l.self l.lane l.kept l.fn.rows l.rows

abbrev pub invariant-loop-lane-2 : goal.invariant-loop-lane-2
invariant-loop-lane-2 l =
    AreClosed l.fn.self l.self l.left l.kept l.fn.rows l.rows
    × (l.kept ≤ l.lane)
    × ((j : ℕ) → l.kept ≤ j → j < l.lane → slice_index l.self.lows j ≡ ended)
