use Rattle.std.proofs.Common.{arith}
use Rattle.lane_walk.proofs.Held.{lane_lent, job_begun, no_job}
use Rattle.lane_walk.proofs.lanes.LaneFlows.begin_job.Goals as goal

pub returns-then-self : goal.returns-then-self
returns-then-self g c =
    let flights = c.self.inside.flights in
    let l = lane_lent flights c.self.view_is c.requires.stands c.requires.lane c.self.told in
    job_begun flights l c.requires.empty c.flight_of.result c.flight_of.ensures c.if-self.true c.stay_in.ensures.sound
    c.stay_in.ensures.stay

pub returns-else-self : goal.returns-else-self
returns-else-self g c =
    let flights = c.self.inside.flights in
    let l = lane_lent flights c.self.view_is c.requires.stands c.requires.lane c.self.told in
    no_job flights l c.requires.empty (omega (arith, c.if-self.false))
