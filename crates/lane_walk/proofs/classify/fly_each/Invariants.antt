-- the machine made so many turns, and was not done before
use Rattle.std.proofs.Common.{◌-◌}
use Rattle.flow_core.specs.Machine.{most_steps}
use Rattle.lane_walk.specs.Turn.{AreNoted}
use Rattle.lane_walk.proofs.Batches.{Turned}
use Rattle.lane_walk.proofs.classify.fly_each.Given as goal

abbrev pub invariant-loop-lanes : goal.invariant-loop-lanes
invariant-loop-lanes g l =
    Turned l.table l.keys g.row.W l.turns l.lanes l.fn.scratch l.scratch l.taken l.initial.steps l.steps
    (AreNoted l.table l.keys l.lanes l.scratch)

abbrev pub decreases-loop-lanes : goal.decreases-loop-lanes
decreases-loop-lanes g l = most_steps l.table l.keys - l.turns
