use Rattle.std.proofs.Common.{◌<◌, sym, ◌∙◌, arith, length}
use Rattle.lane_walk.specs.Turn.{no_one}
use Rattle.lane_walk.proofs.Held.{lane_on_way}
use Rattle.lane_walk.proofs.lanes.LaneFlows.read_lane.Goals as goal

pub byte_of-requires-clause-on_way : goal.byte_of-requires-clause-on_way
byte_of-requires-clause-on_way g c =
    let within : c.args.lane < length c.self.inside.flights = omega (arith, c.requires.lane, c.self.told) in
    let on_way = lane_on_way c.self.inside.flights c.self.view_is c.requires.stands.1 c.args.lane within no_one
    (sym c.is_end.ensures ∙ c.if-is_end.false) in
    (c.args.self.now.given, on_way)
