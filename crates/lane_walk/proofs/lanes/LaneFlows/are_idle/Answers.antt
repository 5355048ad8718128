use Rattle.std.proofs.Common.{◌≡◌, ℕ, ◌+◌, ◌||◌, sym, ◌∙◌, arith, subst, false}
use Rattle.std.specs.Prelude.{None, slice_index_or}
use Rattle.std.proofs.lemmas.Bool.{or_parts}
use Rattle.lane_walk.specs.Turn.{is_busy}
use Rattle.lane_walk.proofs.Landing.{each_of_four}
use Rattle.lane_walk.proofs.Held.{not_true}
use Rattle.lane_walk.proofs.lanes.LaneFlows.are_idle.Goals as goal

pub returns : goal.returns
returns g c = λ idle.
    let first : ℕ = c.args.first in
    let here : first ≡ first + 0 = omega arith in
    let one = c.is_busy in
    let two = c.is_busy-2 in
    let three = c.is_busy-3 in
    let four = c.is_busy-4 in
    let P = λ (lane : ℕ). is_busy (slice_index_or c.args.self.now.slots lane None) ≡ false in
    let none = not_true (one.result || two.result || three.result || four.result) idle in
    let most = or_parts (one.result || two.result || three.result) four.result none in
    let some = or_parts (one.result || two.result) three.result most.0 in
    let few = or_parts one.result two.result some.0 in
    each_of_four (λ k. P (first + k)) (subst P here (sym one.ensures ∙ few.0)) (sym two.ensures ∙ few.1)
    (sym three.ensures ∙ some.1) (sym four.ensures ∙ most.1)
