use Rattle.std.proofs.Common.{◌<◌, ℕ, ap, sym, ◌∙◌, arith}
use Rattle.std.specs.Prelude.{slice_index}
use Rattle.lane_walk.specs.Fleet.{over_bit}
use Rattle.lane_walk.proofs.FleetWalks.{across_settled, steps_on, word_at}
use Rattle.lane_walk.proofs.LaneBits.{below_few}
use Rattle.lane_walk.proofs.fleet.Fleet.turn.Goals as goal

pub overflow_sub-result : goal.overflow_sub-result
overflow_sub-result g c = omega (arith, c.prepare-idle.ensures.count, below_few c.ended-empty.result g.row.W)

pub returns-clause-turns : goal.returns-clause-turns
returns-clause-turns g c =
    let bit = c.ended-empty.ensures.bits in
    let small : (i : ℕ) → slice_index c.args.keys.now i < 256 = λ i. omega (arith, c.type_inv.keys i) in
    record {
      empty = c.ended-empty.result;
      bits = λ lane below. bit lane below ∙ ap over_bit (sym (word_at c.args.walks.now below));
      steps = λ lane below clear. steps_on below c.args.self.now c.prepare-idle.new.self (c.step_all.ensures lane below)
          (c.requires.bytes lane below) small (sym (bit lane below) ∙ clear);
      settled = across_settled c.args.walks.now c.prepare-idle.ensures.settled
          (λ lane below set. (c.step_all.ensures lane below).across (sym (bit lane below) ∙ set));
      busy_is = omega (arith, c.prepare-idle.ensures.count, below_few c.ended-empty.result g.row.W);
    }

pub returns-clause-bytes : goal.returns-clause-bytes
returns-clause-bytes g c lane below = (c.step_all.ensures lane below).byte
