use Rattle.std.proofs.Common.{ℕ, List, subst}
use Rattle.lane_walk.specs.Fleet.{IsStraight}
use Rattle.lane_walk.proofs.fleet.is_straight.Goals as goal

pub returns : goal.returns
returns c = λ yes. subst (λ (places : List ℕ). IsStraight places) c.places.ensures.places (c.are_straight.ensures yes)
