use Rattle.std.proofs.Common.{arith}
use Rattle.lane_walk.proofs.Held.{lane_lent}
use Rattle.lane_walk.proofs.NoteSteps.{job_noted, idle_noted}
use Rattle.lane_walk.proofs.lanes.LaneFlows.take_job.Goals as goal

pub returns-then-self : goal.returns-then-self
returns-then-self g c =
    let flights = c.self.inside.flights in
    let l = lane_lent flights c.self.view_is c.requires.stands c.requires.lane c.self.told in
    job_noted flights l c.requires.empty c.flight_of.result c.flight_of.ensures c.if-self.true c.stay_in.ensures.sound
    c.stay_in.ensures.stay

pub returns-else-self : goal.returns-else-self
returns-else-self g c =
    let flights = c.self.inside.flights in
    let l = lane_lent flights c.self.view_is c.requires.stands c.requires.lane c.self.told in
    idle_noted flights l c.requires.empty (omega (arith, c.if-self.false))
