-- the lanes so far were stepped
use Rattle.std.proofs.Common.{◌*◌}
use Rattle.lane_walk.specs.Turn.{NotesLanes}
use Rattle.lane_walk.proofs.lanes.LaneFlows.turn_noting.Given as goal

abbrev pub invariant-loop-group : goal.invariant-loop-group
invariant-loop-group g l =
    NotesLanes l.table l.keys l.fn.self l.fn.scratch 0 (l.group * 4) l.self l.scratch l.busy
