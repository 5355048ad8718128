use Rattle.std.proofs.Common.{◌≡◌, ◌<◌, ◌≤◌, ◌∙◌, ap, sym, subst, arith, drop, length, List, ℕ, false}
use Rattle.flow_core.specs.Machine.{flow_from_first, is_done, turns}
use Rattle.lane_walk.specs.declared.fleet.Fleet.{Fleet}
use Rattle.lane_walk.specs.Fleet.{TurnsAll, fleet_of}
use Rattle.lane_walk.proofs.Batches.{Flies, flies, flown_here, turned_more, taken_below, turns_few}
use Rattle.lane_walk.proofs.Batches.{rounds_are, all_taken, words_fit, steps_fit}
use Rattle.lane_walk.proofs.FleetBatches.{begun_turned, fleet_done, fleet_turns, given_few}
use Rattle.lane_walk.proofs.FleetWalks.{across_begun, across_empty, words_long}
use Rattle.lane_walk.proofs.KeptLanes.{last_noted}
use Rattle.lane_walk.proofs.Turns.{lanes_few, lanes_some}
use Rattle.lane_walk.proofs.classify.fly_straight.Goals as goal

pub begin-fleet-requires : goal.begin-fleet-requires
begin-fleet-requires g c = (
  omega (arith, lanes_few c.requires.lanes),
  (c.course_of.ensures.few, (c.course_of.ensures.short, c.course_of.ensures.near)),
)

pub loop-words-init : goal.loop-words-init
loop-words-init g c =
    let f : Flies c.args.table.now c.args.keys.now =
    flies c.walks_go_step_by_step.ensures c.stay_in.ensures.stay c.stay_in.ensures.sound
    (λ i. omega (arith, c.type_inv.keys i)) in
    let across = c.begin-walks.ensures in (
      begun_turned f c.course_of.ensures c.requires.fits c.requires.bytes.0 c.requires.bytes.1
          c.begin-fleet.ensures.course c.begin-fleet.ensures.given
          (λ lane less.
          let below : lane < g.row.W = omega (arith, less, c.begin-fleet.ensures.given) in
          across_begun below (across lane below) (c.begin-fleet.ensures.begun lane less))
          (λ lane past below. across_empty below (across lane below) (c.begin-fleet.ensures.empty lane past below))
          c.begin-fleet.ensures.small,
      λ lane below. (across lane below).byte,
    )

pub done-requires : goal.done-requires
done-requires g c =
    (omega (arith, lanes_few c.requires.lanes), (omega (arith, lanes_few c.requires.lanes), c.requires.lanes))

pub turn-busy-requires : goal.turn-busy-requires
turn-busy-requires g c =
    let k = c.loop-words.invariant.0.kept in
    let few : c.loop-words.fleet.given ≤ c.loop-words.fleet.course.jobs =
    given_few c.walks_go_step_by_step.ensures c.stay_in.ensures.stay c.stay_in.ensures.sound
    (λ i. omega (arith, c.type_inv.keys i)) c.loop-words.invariant.0 in
    let room : c.loop-words.fleet.course.jobs ≤ length c.loop-words.scratch =
    omega (arith, k.course.jobs, c.requires.fits.room, c.loop-words.invariant.0.len) in (
      omega (arith, lanes_few c.requires.lanes),
      (
        omega (arith, lanes_few c.requires.lanes),
        (
          c.requires.lanes,
          (
            omega (arith, c.requires.words.0, ap (λ (words : List ℕ). length words) c.words-words.ensures),
            (
              omega (arith, c.requires.bytes.0),
              (
                k.course.few,
                (few, (k.course.short, (k.course.near, (k.small, (room, c.loop-words.invariant.1))))),
              ),
            ),
          ),
        ),
      ),
    )

pub overflow_add-taken : goal.overflow_add-taken
overflow_add-taken g c =
    let f : Flies c.args.table.now c.args.keys.now =
    flies c.walks_go_step_by_step.ensures c.stay_in.ensures.stay c.stay_in.ensures.sound
    (λ i. omega (arith, c.type_inv.keys i)) in
    let old : Fleet g.row.W = fleet_of c.loop-words.walks c.loop-words.fleet in
    let new : Fleet g.row.W = fleet_of c.turn-busy.new.walks c.turn-busy.new.self in
    let all : TurnsAll c.args.table.now.words c.args.keys.now old new
    c.loop-words.scratch c.turn-busy.new.scratch c.turn-busy.result =
    subst (λ (words : List ℕ). TurnsAll words c.args.keys.now old new
    c.loop-words.scratch c.turn-busy.new.scratch c.turn-busy.result) c.words-words.ensures c.turn-busy.ensures.turns in
    omega (
      arith,
      c.from-taken.ensures,
      taken_below f c.loop-words.invariant.0
          (fleet_turns f (λ i. omega (arith, c.type_inv.keys i)) c.requires.bytes.1
          c.loop-words.invariant.0 all).busy_is,
      words_fit c.args.table.now c.args.keys.now c.requires.fits.few c.stay_in.ensures.few c.stay_in.ensures.short,
    )

pub overflow_add-turns : goal.overflow_add-turns
overflow_add-turns g c =
    let f : Flies c.args.table.now c.args.keys.now =
    flies c.walks_go_step_by_step.ensures c.stay_in.ensures.stay c.stay_in.ensures.sound
    (λ i. omega (arith, c.type_inv.keys i)) in
    let not_done : is_done (flow_from_first c.args.table.now c.args.keys.now g.row.W
    (turns g.row.W c.loop-words.turns)).machine ≡ false =
    cc (
      c.done.ensures,
      c.loop-words-test.true,
      fleet_done f.stay c.loop-words.invariant.0.kept (flown_here f c.loop-words.invariant.0).flights
          (words_long c.loop-words.walks),
    ) in
    let rounds = c.every_schedule.ensures.rounds c.args.table.now c.args.keys.now g.row.W c.stay_in.ensures.sound
    f.bytes (lanes_some c.requires.lanes) in
    omega (
      arith,
      turns_few f c.loop-words.invariant.0 not_done rounds,
      steps_fit c.args.table.now c.args.keys.now c.requires.fits.few c.stay_in.ensures.few c.stay_in.ensures.short,
    )

pub loop-words-preserved : goal.loop-words-preserved
loop-words-preserved g c =
    let f : Flies c.args.table.now c.args.keys.now =
    flies c.walks_go_step_by_step.ensures c.stay_in.ensures.stay c.stay_in.ensures.sound
    (λ i. omega (arith, c.type_inv.keys i)) in
    let not_done : is_done (flow_from_first c.args.table.now c.args.keys.now g.row.W
    (turns g.row.W c.loop-words.turns)).machine ≡ false =
    cc (
      c.done.ensures,
      c.loop-words-test.true,
      fleet_done f.stay c.loop-words.invariant.0.kept (flown_here f c.loop-words.invariant.0).flights
          (words_long c.loop-words.walks),
    ) in
    let old : Fleet g.row.W = fleet_of c.loop-words.walks c.loop-words.fleet in
    let new : Fleet g.row.W = fleet_of c.turn-busy.new.walks c.turn-busy.new.self in
    let all : TurnsAll c.args.table.now.words c.args.keys.now old new
    c.loop-words.scratch c.turn-busy.new.scratch c.from-taken.result =
    subst (λ (words : List ℕ). TurnsAll words c.args.keys.now old new
    c.loop-words.scratch c.turn-busy.new.scratch c.from-taken.result) c.words-words.ensures
    (subst (λ (busy : ℕ). TurnsAll c.words-words.result.now c.args.keys.now old new
    c.loop-words.scratch c.turn-busy.new.scratch busy) (sym c.from-taken.ensures) c.turn-busy.ensures.turns) in (
      turned_more f c.loop-words.invariant.0 not_done
          (fleet_turns f (λ i. omega (arith, c.type_inv.keys i)) c.requires.bytes.1 c.loop-words.invariant.0 all)
          (omega (arith, c.raise_by.ensures, c.from-taken.ensures)),
      c.turn-busy.ensures.bytes,
    )

pub loop-words-smaller : goal.loop-words-smaller
loop-words-smaller g c =
    let f : Flies c.args.table.now c.args.keys.now =
    flies c.walks_go_step_by_step.ensures c.stay_in.ensures.stay c.stay_in.ensures.sound
    (λ i. omega (arith, c.type_inv.keys i)) in
    let not_done : is_done (flow_from_first c.args.table.now c.args.keys.now g.row.W
    (turns g.row.W c.loop-words.turns)).machine ≡ false =
    cc (
      c.done.ensures,
      c.loop-words-test.true,
      fleet_done f.stay c.loop-words.invariant.0.kept (flown_here f c.loop-words.invariant.0).flights
          (words_long c.loop-words.walks),
    ) in
    let rounds = c.every_schedule.ensures.rounds c.args.table.now c.args.keys.now g.row.W c.stay_in.ensures.sound
    f.bytes (lanes_some c.requires.lanes) in
    omega (arith, turns_few f c.loop-words.invariant.0 not_done rounds)

pub note_last-requires : goal.note_last-requires
note_last-requires g c = (
  omega (arith, lanes_few c.requires.lanes),
  (
    omega (arith, lanes_few c.requires.lanes),
    (
      c.requires.lanes,
      (
        c.loop-words.invariant.0.kept.small,
        omega (arith, c.loop-words.invariant.0.kept.course.jobs, c.requires.fits.room, c.loop-words.invariant.0.len),
      ),
    ),
  ),
)

pub returns-clause-taken : goal.returns-clause-taken
returns-clause-taken g c =
    let f : Flies c.args.table.now c.args.keys.now =
    flies c.walks_go_step_by_step.ensures c.stay_in.ensures.stay c.stay_in.ensures.sound
    (λ i. omega (arith, c.type_inv.keys i)) in
    all_taken f c.loop-words.invariant.0 (cc (
      c.done.ensures,
      c.loop-words-test.false,
      fleet_done f.stay c.loop-words.invariant.0.kept (flown_here f c.loop-words.invariant.0).flights
          (words_long c.loop-words.walks),
    ))

pub returns-clause-steps : goal.returns-clause-steps
returns-clause-steps g c =
    let f : Flies c.args.table.now c.args.keys.now =
    flies c.walks_go_step_by_step.ensures c.stay_in.ensures.stay c.stay_in.ensures.sound
    (λ i. omega (arith, c.type_inv.keys i)) in
    omega (
      arith,
      c.loop-words.invariant.0.counted,
      all_taken f c.loop-words.invariant.0 (cc (
        c.done.ensures,
        c.loop-words-test.false,
        fleet_done f.stay c.loop-words.invariant.0.kept (flown_here f c.loop-words.invariant.0).flights
            (words_long c.loop-words.walks),
      )),
    )

pub returns-clause-turns : goal.returns-clause-turns
returns-clause-turns g c =
    let f : Flies c.args.table.now c.args.keys.now =
    flies c.walks_go_step_by_step.ensures c.stay_in.ensures.stay c.stay_in.ensures.sound
    (λ i. omega (arith, c.type_inv.keys i)) in
    rounds_are f c.loop-words.invariant.0 (cc (
      c.done.ensures,
      c.loop-words-test.false,
      fleet_done f.stay c.loop-words.invariant.0.kept (flown_here f c.loop-words.invariant.0).flights
          (words_long c.loop-words.walks),
    ))

pub returns-clause-notes : goal.returns-clause-notes
returns-clause-notes g c =
    let f : Flies c.args.table.now c.args.keys.now =
    flies c.walks_go_step_by_step.ensures c.stay_in.ensures.stay c.stay_in.ensures.sound
    (λ i. omega (arith, c.type_inv.keys i)) in
    last_noted c.requires.one c.loop-words.invariant.0.stands.jobs (cc (
      c.done.ensures,
      c.loop-words-test.false,
      fleet_done f.stay c.loop-words.invariant.0.kept (flown_here f c.loop-words.invariant.0).flights
          (words_long c.loop-words.walks),
    ))
    c.loop-words.invariant.0.kept.kept c.note_last.ensures

pub returns-clause-others : goal.returns-clause-others
returns-clause-others g c =
    subst (λ (m : ℕ). drop m c.note_last.new.scratch ≡ drop m c.loop-words.scratch)
    c.loop-words.invariant.0.kept.course.jobs c.note_last.ensures.past
    ∙ c.loop-words.invariant.0.others

pub returns-clause-len : goal.returns-clause-len
returns-clause-len g c = c.note_last.ensures.len ∙ c.loop-words.invariant.0.len
