use Rattle.std.proofs.Common.{◌≡◌, ◌*◌, ◌+◌, ◌-◌, ℕ, arith, subst, inl, inr}
use Rattle.std.proofs.lemmas.Bool.{cases_lt}
use Rattle.lane_walk.specs.Fleet.{IsAcross}
use Rattle.lane_walk.proofs.FleetSteps.{across_stays}
use Rattle.lane_walk.proofs.walks.Walks.begin.Goals as goal

pub loop-group-preserved : goal.loop-group-preserved
loop-group-preserved g c lane less =
    let n : ℕ = c.loop-group.group * 4 in
    elim (cases_lt lane n) [
      | inl before ↦ across_stays (c.loop-group.invariant lane before) (c.take.ensures.others lane (inl before))
      | inr past ↦ (
          let at : n + (lane - n) ≡ lane = omega (arith, past) in
          subst (IsAcross c.args.keys.now c.args.fleet.now c.take.new.self) at
          (c.take.ensures.takes (lane - n) (omega (arith, past, less)))
          )
    ]
