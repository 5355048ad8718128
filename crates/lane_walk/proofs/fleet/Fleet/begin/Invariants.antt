-- the first lanes walk the keys of their numbers
use Rattle.lane_walk.proofs.FleetSettles.{BeginsTo}
use Rattle.lane_walk.proofs.fleet.Fleet.begin.Given as goal

abbrev pub invariant-loop-lane : goal.invariant-loop-lane
invariant-loop-lane g l = BeginsTo l.fn.course l.lane l.fleet
