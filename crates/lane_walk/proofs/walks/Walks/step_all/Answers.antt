use Rattle.std.proofs.Common.{◌≡◌, ◌*◌, ◌+◌, ℕ, arith, subst}
use Rattle.lane_walk.proofs.FleetSteps.{StepsTo, steps_more}
use Rattle.lane_walk.proofs.walks.Walks.step_all.Goals as goal

pub loop-group-preserved : goal.loop-group-preserved
loop-group-preserved g c =
    let more : c.loop-group.group * 4 + 4 ≡ (c.loop-group.group + 1) * 4 = omega arith in
    subst (λ (n : ℕ). StepsTo c.args.words.now c.args.keys.now c.args.fleet.now c.args.self.now c.step.new.self n) more
    (steps_more c.loop-group.invariant c.step.ensures.steps c.step.ensures.others)
