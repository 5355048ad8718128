use Rattle.std.proofs.Common.{◌≡◌, ◌∙◌, arith, true, false}
use Rattle.flow_core.specs.Machine.{is_done}
use Rattle.lane_walk.proofs.Batches.{Flies, flies, turned_none, turned_more, taken_below, turns_few}
use Rattle.lane_walk.proofs.Batches.{rounds_are, all_taken, noted_all, words_fit, steps_fit}
use Rattle.lane_walk.proofs.Turns.{lanes_few, lanes_some}
use Rattle.lane_walk.proofs.classify.fly_each.Goals as goal

pub begin_noting-lanes-requires : goal.begin_noting-lanes-requires
begin_noting-lanes-requires g c = (
  omega (arith, lanes_few c.requires.lanes),
  (
    c.requires.lanes,
    record {
      whole = c.requires.fits.whole;
      few = c.requires.fits.few;
      room = omega arith;
    },
  ),
)

pub done-requires : goal.done-requires
done-requires g c = omega (arith, lanes_few c.requires.lanes)

pub turn_noting-busy-requires : goal.turn_noting-busy-requires
turn_noting-busy-requires g c =
    (omega (arith, lanes_few c.requires.lanes), (c.requires.lanes, c.loop-lanes.invariant.stands))

pub loop-lanes-init : goal.loop-lanes-init
loop-lanes-init g c = turned_none c.begin_noting-lanes.ensures.machine
    (c.begin_noting-lanes.ensures.stands _ c.requires.fits.room)

pub overflow_add-taken : goal.overflow_add-taken
overflow_add-taken g c =
    let f : Flies c.args.table.now c.args.keys.now =
    flies c.walks_go_step_by_step.ensures c.stay_in.ensures.stay c.stay_in.ensures.sound
    (λ i. omega (arith, c.type_inv.keys i)) in
    omega (
      arith,
      taken_below f c.loop-lanes.invariant (c.from-taken.ensures ∙ c.turn_noting-busy.ensures.busy),
      words_fit c.args.table.now c.args.keys.now c.requires.fits.few c.stay_in.ensures.few c.stay_in.ensures.short,
    )

pub overflow_add-turns : goal.overflow_add-turns
overflow_add-turns g c =
    let f : Flies c.args.table.now c.args.keys.now =
    flies c.walks_go_step_by_step.ensures c.stay_in.ensures.stay c.stay_in.ensures.sound
    (λ i. omega (arith, c.type_inv.keys i)) in
    let not_done : is_done c.loop-lanes.lanes ≡ false = cc (c.done.ensures, c.loop-lanes-test.true) in
    let rounds = c.every_schedule.ensures.rounds c.args.table.now c.args.keys.now g.row.W c.stay_in.ensures.sound
    f.bytes (lanes_some c.requires.lanes) in
    omega (
      arith,
      turns_few f c.loop-lanes.invariant not_done rounds,
      steps_fit c.args.table.now c.args.keys.now c.requires.fits.few c.stay_in.ensures.few c.stay_in.ensures.short,
    )

pub loop-lanes-preserved : goal.loop-lanes-preserved
loop-lanes-preserved g c =
    let f : Flies c.args.table.now c.args.keys.now =
    flies c.walks_go_step_by_step.ensures c.stay_in.ensures.stay c.stay_in.ensures.sound
    (λ i. omega (arith, c.type_inv.keys i)) in
    let not_done : is_done c.loop-lanes.lanes ≡ false = cc (c.done.ensures, c.loop-lanes-test.true) in
    turned_more f c.loop-lanes.invariant not_done record {
      machine = c.turn_noting-busy.ensures.machine;
      busy_is = c.from-taken.ensures ∙ c.turn_noting-busy.ensures.busy;
      len = c.turn_noting-busy.ensures.len;
      others = c.turn_noting-busy.ensures.others;
      stands = c.turn_noting-busy.ensures.stands;
      kept = c.turn_noting-busy.ensures.noted;
    } (omega (arith, c.raise_by.ensures, c.from-taken.ensures))

pub loop-lanes-smaller : goal.loop-lanes-smaller
loop-lanes-smaller g c =
    let f : Flies c.args.table.now c.args.keys.now =
    flies c.walks_go_step_by_step.ensures c.stay_in.ensures.stay c.stay_in.ensures.sound
    (λ i. omega (arith, c.type_inv.keys i)) in
    let not_done : is_done c.loop-lanes.lanes ≡ false = cc (c.done.ensures, c.loop-lanes-test.true) in
    let rounds = c.every_schedule.ensures.rounds c.args.table.now c.args.keys.now g.row.W c.stay_in.ensures.sound
    f.bytes (lanes_some c.requires.lanes) in
    omega (arith, turns_few f c.loop-lanes.invariant not_done rounds)

pub returns-clause-taken : goal.returns-clause-taken
returns-clause-taken g c =
    let f : Flies c.args.table.now c.args.keys.now =
    flies c.walks_go_step_by_step.ensures c.stay_in.ensures.stay c.stay_in.ensures.sound
    (λ i. omega (arith, c.type_inv.keys i)) in
    all_taken f c.loop-lanes.invariant (cc (c.done.ensures, c.loop-lanes-test.false))

pub returns-clause-steps : goal.returns-clause-steps
returns-clause-steps g c =
    let f : Flies c.args.table.now c.args.keys.now =
    flies c.walks_go_step_by_step.ensures c.stay_in.ensures.stay c.stay_in.ensures.sound
    (λ i. omega (arith, c.type_inv.keys i)) in
    let done : is_done c.loop-lanes.lanes ≡ true = cc (c.done.ensures, c.loop-lanes-test.false) in
    omega (arith, c.loop-lanes.invariant.counted, all_taken f c.loop-lanes.invariant done)

pub returns-clause-turns : goal.returns-clause-turns
returns-clause-turns g c =
    let f : Flies c.args.table.now c.args.keys.now =
    flies c.walks_go_step_by_step.ensures c.stay_in.ensures.stay c.stay_in.ensures.sound
    (λ i. omega (arith, c.type_inv.keys i)) in
    rounds_are f c.loop-lanes.invariant (cc (c.done.ensures, c.loop-lanes-test.false))

pub returns-clause-notes : goal.returns-clause-notes
returns-clause-notes g c = noted_all c.loop-lanes.invariant (cc (c.done.ensures, c.loop-lanes-test.false))

pub returns-clause-others : goal.returns-clause-others
returns-clause-others g c = c.loop-lanes.invariant.others

pub returns-clause-len : goal.returns-clause-len
returns-clause-len g c = c.loop-lanes.invariant.len
