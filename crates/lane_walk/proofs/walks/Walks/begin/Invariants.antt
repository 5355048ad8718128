-- the first groups of four took what the fleet had for them
use Rattle.std.proofs.Common.{◌*◌, ◌<◌, ℕ}
use Rattle.lane_walk.specs.Fleet.{IsAcross}
use Rattle.lane_walk.proofs.walks.Walks.begin.Given as goal

abbrev pub invariant-loop-group : goal.invariant-loop-group
invariant-loop-group g l = (lane : ℕ) → lane < l.group * 4 → IsAcross l.keys l.fleet l.walks lane
