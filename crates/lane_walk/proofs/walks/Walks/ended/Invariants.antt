-- the bits are those of the first groups of four
use Rattle.std.proofs.Common.{◌*◌}
use Rattle.lane_walk.proofs.FleetSteps.{EndedTo}
use Rattle.lane_walk.proofs.walks.Walks.ended.Given as goal

abbrev pub invariant-loop-group : goal.invariant-loop-group
invariant-loop-group g l = EndedTo l.self l.empty (l.group * 4)
