use Rattle.std.proofs.Common.{◌≡◌, ℕ, ◌+◌, ◌*◌, List, ap, sym, ◌∙◌, arith, length, subst}
use Rattle.std.specs.Prelude.{Option, count_by}
use Rattle.std.specs.List.{range_with_len}
use Rattle.std.proofs.lemmas.List.{length-map, take_all}
use Rattle.flow_core.specs.declared.flight.Flight.{Flight}
use Rattle.flow_core.specs.Machine.{Machine}
use Rattle.lane_walk.specs.Turn.{held_in, is_busy, IsAfterRun, NotesLanes}
use Rattle.lane_walk.proofs.NoteSteps.{and_noted}
use Rattle.lane_walk.proofs.Turns.{all_groups}
use Rattle.lane_walk.proofs.lanes.LaneFlows.turn_noting.Goals as goal

pub loop-group-preserved : goal.loop-group-preserved
loop-group-preserved g c =
    let n : ℕ = c.loop-group.group * 4 in
    let from : n ≡ 0 + n = omega arith in
    let more : n + 4 ≡ (c.loop-group.group + 1) * 4 = omega arith in
    let table = c.args.table.now in
    let keys = c.args.keys.now in
    let step = c.note_group-busy in
    subst (λ (count : ℕ). NotesLanes table keys c.args.self.now c.args.scratch.now 0 count step.new.self
    step.new.scratch (c.loop-group.busy + step.result)) more
    (and_noted c.loop-group.invariant
    (subst (λ (first : ℕ). NotesLanes table keys c.loop-group.self c.loop-group.scratch first 4 step.new.self
    step.new.scratch step.result) from step.ensures))

pub returns-clause-busy : goal.returns-clause-busy
returns-clause-busy g c =
    let slots = c.args.self.now.slots in
    let all : c.loop-group.group * 4 ≡ g.row.W = all_groups c.requires.lanes
    (ap (λ (flights : List Flight). length flights) c.as_slice-lanes.ensures ∙ c.self.told)
    c.loop-group.auto.group-end c.loop-group-test.false in
    let long : length slots ≡ g.row.W =
    ap (λ (machine : Machine). length machine.slots) (sym c.self.view_is)
    ∙ length-map c.self.inside.flights held_in ∙ c.self.told in
    c.loop-group.invariant.busy_is
    ∙ ap (λ (held : List (Option Flight)). count_by is_busy held)
    (take_all (c.loop-group.group * 4) slots (omega (arith, all, long)))

pub returns-clause-machine : goal.returns-clause-machine
returns-clause-machine g c =
    let all : c.loop-group.group * 4 ≡ g.row.W = all_groups c.requires.lanes
    (ap (λ (flights : List Flight). length flights) c.as_slice-lanes.ensures ∙ c.self.told)
    c.loop-group.auto.group-end c.loop-group-test.false in
    subst (λ (n : ℕ). IsAfterRun c.args.table.now c.args.keys.now c.args.self.now (range_with_len 0 n)
    c.loop-group.self) all c.loop-group.invariant.machine
