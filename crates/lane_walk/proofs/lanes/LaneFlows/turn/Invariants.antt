-- the lanes so far were stepped
use Rattle.std.proofs.Common.{◌*◌}
use Rattle.lane_walk.specs.Turn.{StepsLanes}
use Rattle.lane_walk.proofs.lanes.LaneFlows.turn.Given as goal

abbrev pub invariant-loop-group : goal.invariant-loop-group
invariant-loop-group g l =
    StepsLanes l.table l.keys l.fn.self l.fn.scratch 0 (l.group * 4) l.self l.scratch l.busy
