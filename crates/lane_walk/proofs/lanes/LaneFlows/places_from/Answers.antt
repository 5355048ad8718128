use Rattle.std.proofs.Common.{◌≡◌, ℕ, ◌+◌, lit<, arith, subst}
use Rattle.std.specs.Prelude.{slice_index, slice_index_or, None}
use Rattle.lane_walk.specs.Turn.{IsPlaceOf}
use Rattle.lane_walk.proofs.Landing.{place_of_lane, each_of_four}
use Rattle.lane_walk.proofs.lanes.LaneFlows.places_from.Goals as goal

pub returns : goal.returns
returns g c =
    let is = c.four_places.ensures in
    let stands = c.requires.stands.1 in
    let first : ℕ = c.args.first in
    let one = c.read_lane-one in
    let two = c.read_lane-two in
    let three = c.read_lane-three in
    let four = c.read_lane-four in
    let here : first ≡ first + 0 = omega arith in
    let goes = λ (lane k : ℕ). IsPlaceOf c.args.table.now c.args.keys.now
    (slice_index_or c.args.self.now.slots lane None) (slice_index c.four_places.result k) in
    each_of_four (λ k. goes (first + k) k)
    (subst (λ (lane : ℕ). goes lane 0) here
    (place_of_lane first one.result.0 one.result.1 stands one.ensures (is 0 (lit< tt))))
    (place_of_lane (first + 1) two.result.0 two.result.1 stands two.ensures (is 1 (lit< tt)))
    (place_of_lane (first + 2) three.result.0 three.result.1 stands three.ensures (is 2 (lit< tt)))
    (place_of_lane (first + 3) four.result.0 four.result.1 stands four.ensures (is 3 (lit< tt)))
