-- the lanes so far are counted, each as at most 1
use Rattle.std.proofs.Common.{◌≡◌, ◌≤◌}
use Rattle.std.specs.Prelude.{nat_lt, slice_index, if◌then◌else◌}
use Rattle.scalar_walk.specs.Lanes.{ended, sum_below}
use Rattle.scalar_walk.proofs.wide.Lanes.ended.Given as goal

abbrev pub invariant-loop-lane : goal.invariant-loop-lane
invariant-loop-lane l =
    (l.count ≡ sum_below (λ j. if nat_lt (slice_index l.self.lows j) ended then 0 else 1) l.lane) × (l.count ≤ l.lane)
