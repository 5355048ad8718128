-- the lanes below one are settled
use Rattle.std.proofs.Common.{◌-◌}
use Rattle.lane_walk.specs.Fleet.{words_of}
use Rattle.lane_walk.proofs.FleetSettles.{SettlesOn}
use Rattle.lane_walk.proofs.fleet.Fleet.settle.Given as goal

abbrev pub invariant-loop-rest : goal.invariant-loop-rest
invariant-loop-rest g l = SettlesOn l.empty (words_of g.row.W l.lows l.highs) l.fn.self l.self
    l.fn.scratch l.scratch l.rest l.count

abbrev pub decreases-loop-rest : goal.decreases-loop-rest
decreases-loop-rest g l = g.row.W - l.count
