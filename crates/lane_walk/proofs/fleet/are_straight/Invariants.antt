-- the places so far stand one after the other
use Rattle.std.proofs.Common.{◌≡◌, ℕ, ◌+◌, ◌<◌}
use Rattle.std.specs.Prelude.{slice_index}
use Rattle.lane_walk.proofs.fleet.are_straight.Given as goal

abbrev pub invariant-loop-depth : goal.invariant-loop-depth
invariant-loop-depth l =
    (d : ℕ) → d < l.depth → slice_index l.places d ≡ slice_index l.places 0 + d
