-- the lanes so far begin at the root; the lanes so far have their keys
use Rattle.std.proofs.Common.{◌≡◌, ℕ, ◌<◌, ◌≤◌}
use Rattle.std.specs.Prelude.{slice_index}
use Rattle.scalar_walk.specs.Lanes.{lane_key}
use Rattle.scalar_walk.proofs.wide.Lanes.begin.Given as goal

abbrev pub invariant-loop-lane : goal.invariant-loop-lane
invariant-loop-lane l =
    ((j : ℕ) → j < l.lane → slice_index l.self.lows j ≡ l.low)
    × ((j : ℕ) → j < l.lane → slice_index l.self.highs j ≡ l.high)
    × ((j : ℕ) → l.lane ≤ j → slice_index l.self.lows j ≡ slice_index l.fn.self.lows j)
    × ((j : ℕ) → l.lane ≤ j → slice_index l.self.highs j ≡ slice_index l.fn.self.highs j)

abbrev pub invariant-loop-lane-2 : goal.invariant-loop-lane-2
invariant-loop-lane-2 l =
    (l.self.lows ≡ l.initial.self.lows)
    × (l.self.highs ≡ l.initial.self.highs)
    × ((j : ℕ) → j < l.lane → slice_index l.self.keys j ≡ lane_key l.count j)
