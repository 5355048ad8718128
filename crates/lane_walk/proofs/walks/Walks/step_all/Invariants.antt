-- the first groups of four went on
use Rattle.std.proofs.Common.{◌*◌}
use Rattle.lane_walk.proofs.FleetSteps.{StepsTo}
use Rattle.lane_walk.proofs.walks.Walks.step_all.Given as goal

abbrev pub invariant-loop-group : goal.invariant-loop-group
invariant-loop-group g l = StepsTo l.words l.keys l.fleet l.fn.self l.self (l.group * 4)
