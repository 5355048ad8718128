-- the lanes so far were stepped
use Rattle.lane_walk.specs.Turn.{NotesLanes}
use Rattle.lane_walk.proofs.lanes.LaneFlows.take_four.Given as goal

abbrev pub invariant-loop-k : goal.invariant-loop-k
invariant-loop-k g l =
    NotesLanes l.table l.keys l.fn.self l.scratch l.first l.k l.self l.scratch 0
