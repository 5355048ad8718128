use Rattle.std.proofs.Common.{◌≡◌, ◌*◌, ◌+◌, ◌%◌, ◌^◌, ◌<◌, ◌∙◌, ℕ, ap, arith, subst}
use Rattle.std.specs.Prelude.{slice_index, nat_lt, if◌then◌else◌}
use Rattle.std.specs.Int.{bit_at}
use Rattle.std.proofs.lemmas.Nat.{shl_whole}
use Rattle.scalar_walk.specs.Lanes.{ended, word_in}
use Rattle.lane_walk.specs.Fleet.{over_bit}
use Rattle.lane_walk.proofs.FleetSteps.{EndedTo, ended_more}
use Rattle.lane_walk.proofs.Turns.{lanes_few}
use Rattle.lane_walk.proofs.walks.Walks.ended.Goals as goal

pub loop-group-preserved : goal.loop-group-preserved
loop-group-preserved g c =
    let n : ℕ = c.loop-group.group * 4 in
    let more : n + 4 ≡ (c.loop-group.group + 1) * 4 = omega arith in
    let whole = shl_whole c.ends_in.result 4 n 64 c.ends_in.ensures.few
    (omega (arith, c.loop-group-test.true, lanes_few c.requires)) in
    let sum : c.ends_in.result * 2 ^ n + c.loop-group.empty ≡ c.loop-group.empty + c.ends_in.result * 2 ^ n % 2 ^ 64 =
    omega (arith, whole) in
    let bits : (k : ℕ) → k < 4 →
    bit_at c.ends_in.result k ≡ over_bit (word_in c.args.self.now.lows c.args.self.now.highs (n + k)) =
    λ k within.
    let half : slice_index c.four_of.result k ≡ word_in c.args.self.now.lows c.args.self.now.highs (n + k) % 2 ^ 32 =
    omega (arith, c.four_of.ensures.four k within, c.ends_in.ensures.small k within) in
    c.ends_in.ensures.bits k within ∙ ap (λ (low : ℕ). if nat_lt low ended then 0 else 1) half in
    subst (λ (m : ℕ). EndedTo c.args.self.now (c.loop-group.empty + c.ends_in.result * 2 ^ n % 2 ^ 64) m) more
    (subst (λ (mask : ℕ). EndedTo c.args.self.now mask (n + 4)) sum
    (ended_more c.loop-group.invariant c.ends_in.ensures.few bits))
