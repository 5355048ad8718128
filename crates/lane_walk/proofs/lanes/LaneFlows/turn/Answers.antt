use Rattle.std.proofs.Common.{◌≡◌, ℕ, ◌+◌, ◌*◌, List, ap, sym, ◌∙◌, arith, length, subst}
use Rattle.std.specs.Prelude.{Option, count_by}
use Rattle.std.proofs.lemmas.List.{length-map, take_all}
use Rattle.flow_core.specs.declared.flight.Flight.{Flight}
use Rattle.flow_core.specs.Machine.{Machine, state_of}
use Rattle.lane_walk.specs.Turn.{held_in, is_busy, flow_turn, StepsLanes}
use Rattle.lane_walk.proofs.Turns.{and_then, all_groups}
use Rattle.lane_walk.proofs.lanes.LaneFlows.turn.Goals as goal

pub loop-group-preserved : goal.loop-group-preserved
loop-group-preserved g c =
    let n : ℕ = c.loop-group.group * 4 in
    let from : n ≡ 0 + n = omega arith in
    let more : n + 4 ≡ (c.loop-group.group + 1) * 4 = omega arith in
    let table = c.args.table.now in
    let keys = c.args.keys.now in
    let step = c.step_each-busy in
    subst (λ (count : ℕ). StepsLanes table keys c.args.self.now c.args.scratch.now 0 count step.new.self
    step.new.scratch (c.loop-group.busy + step.result)) more
    (and_then c.loop-group.invariant
    (subst (λ (first : ℕ). StepsLanes table keys c.loop-group.self c.loop-group.scratch first 4 step.new.self
    step.new.scratch step.result) from step.ensures))

pub returns-clause-busy : goal.returns-clause-busy
returns-clause-busy g c =
    let slots = c.args.self.now.slots in
    let all : c.loop-group.group * 4 ≡ g.row.W = all_groups c.requires.lanes
    (ap (λ (flights : List Flight). length flights) c.as_slice-lanes.ensures ∙ c.self.told)
    c.loop-group.auto.group-end c.loop-group-test.false in
    let long : length slots ≡ g.row.W =
    ap (λ (machine : Machine). length machine.slots) (sym c.self.view_is)
    ∙ length-map c.self.inside.flights held_in ∙ c.self.told in
    c.loop-group.invariant.busy_is
    ∙ ap (λ (held : List (Option Flight)). count_by is_busy held)
    (take_all (c.loop-group.group * 4) slots (omega (arith, all, long)))

pub returns-clause-state : goal.returns-clause-state
returns-clause-state g c =
    let all : c.loop-group.group * 4 ≡ g.row.W = all_groups c.requires.lanes
    (ap (λ (flights : List Flight). length flights) c.as_slice-lanes.ensures ∙ c.self.told)
    c.loop-group.auto.group-end c.loop-group-test.false in
    c.loop-group.invariant.state
    ∙ ap (λ (n : ℕ). flow_turn c.args.table.now c.args.keys.now n
    (state_of c.args.table.now c.args.keys.now c.args.self.now c.args.scratch.now)) all
