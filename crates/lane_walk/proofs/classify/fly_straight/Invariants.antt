-- the machine that the fleet shows made so many turns, and was not done before; each lane has its byte
use Rattle.std.proofs.Common.{◌-◌, ◌<◌, ℕ}
use Rattle.flow_core.specs.Machine.{flow_from_first, most_steps, turns}
use Rattle.lane_walk.specs.Fleet.{HasByte, fleet_of}
use Rattle.lane_walk.proofs.Batches.{Turned}
use Rattle.lane_walk.proofs.FleetBatches.{FleetKeeps}
use Rattle.lane_walk.proofs.classify.fly_straight.Given as goal

abbrev pub invariant-loop-words : goal.invariant-loop-words
invariant-loop-words g l = (Turned l.table l.keys g.row.W l.turns
    (flow_from_first l.table l.keys g.row.W (turns g.row.W l.turns)).machine l.fn.scratch l.scratch l.taken
    l.initial.steps l.steps
    (FleetKeeps l.table l.keys (flow_from_first l.table l.keys g.row.W (turns g.row.W l.turns)).machine
    (fleet_of l.walks l.fleet) l.scratch))
    × ((lane : ℕ) → lane < g.row.W → HasByte l.keys l.walks lane)

abbrev pub decreases-loop-words : goal.decreases-loop-words
decreases-loop-words g l = most_steps l.table l.keys - l.turns
