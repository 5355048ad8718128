use Rattle.std.proofs.Common.{◌≡◌, ℕ, ◌/◌, ◌<◌, ◌≤◌, List, ap, ◌∙◌, arith, length, take, true}
use Rattle.std.specs.Prelude.{flat_map}
use Rattle.std.proofs.lemmas.List.Elements.{All-get_or, All-from_get_or}
use Rattle.flat_table.specs.Batch.{keys_in}
use Rattle.flow_core.specs.Rows.{row_verdicts}
use Rattle.flow_core.specs.Laws.{AreBytes}
use Rattle.flow_core.specs.Machine.{is_done, flow_from_first}
use Rattle.flow_core.proofs.RanBy.{ran_none, ran_more, done_is, rows_are}
use Rattle.flow_core.proofs.Runs.{from_first}
use Rattle.flow_core.proofs.Ends.{all_joined}
use Rattle.flow_core.proofs.Enough.{done_enough}
use Rattle.flow_core.proofs.Verdicts.{verdicts_of_rows}
use Rattle.flow_core.proofs.schedule.run_schedule.Goals as goal

pub loop-slot-init : goal.loop-slot-init
loop-slot-init g c = ran_none c.begin-flows.ensures.state c.begin-flows.ensures.stands c.begin-flows.ensures.rows

pub step_slot-requires : goal.step_slot-requires
step_slot-requires g c =
    let in' = All-get_or (λ slot. slot < g.row.W) c.args.slots.now c.loop-slot.slot-index 0 c.loop-slot-test.true
    c.requires.slots in (
      omega (arith, c.requires.few),
      (omega (arith, in', c.from.ensures), c.loop-slot.invariant.stands),
    )

pub loop-slot-preserved : goal.loop-slot-preserved
loop-slot-preserved g c =
    ran_more c.loop-slot.invariant c.loop-slot-test.true c.from.ensures c.step_slot.ensures.step
    c.step_slot.ensures.others c.step_slot.ensures.stands

pub returns-then-not-done-clause-done : goal.returns-then-not-done-clause-done
returns-then-not-done-clause-done g c =
    let all : length c.args.slots.now ≤ c.loop-slot.slot-index = omega (arith, c.loop-slot-test.false) in
    let is = done_is c.loop-slot.invariant all in
    cc (is, c.done.ensures, c.if-not-done.true)

pub returns-then-not-done-clause-rows : goal.returns-then-not-done-clause-rows
returns-then-not-done-clause-rows g c =
    let all : length c.args.slots.now ≤ c.loop-slot.slot-index = omega (arith, c.loop-slot-test.false) in
    rows_are c.loop-slot.invariant all

pub returns-then-not-done-clause-others : goal.returns-then-not-done-clause-others
returns-then-not-done-clause-others g c = c.loop-slot.invariant.others

pub returns-then-not-done-clause-enough : goal.returns-then-not-done-clause-enough
returns-then-not-done-clause-enough g c enough =
    let all : length c.args.slots.now ≤ c.loop-slot.slot-index = omega (arith, c.loop-slot-test.false) in
    let is = done_is c.loop-slot.invariant all in
    let bytes : AreBytes c.args.keys.now = All-from_get_or (λ byte. byte < 256) c.args.keys.now 0
    (λ i below. omega (arith, c.type_inv.keys i)) in
    let done = done_enough c.args.table.now c.args.keys.now c.stay_in.ensures.stay c.stay_in.ensures.sound bytes
    g.row.W c.args.slots.now c.requires.slots c.requires.some enough in
    absurd (cc (is, done, c.done.ensures, c.if-not-done.true))

pub write_verdicts-requires-clause-keys : goal.write_verdicts-requires-clause-keys
write_verdicts-requires-clause-keys g c = omega (
  arith,
  c.loop-slot.invariant.stands.fits.room,
  ap (λ (k : ℕ). length c.args.keys.now / k) c.key_len.ensures.value,
)

pub returns-clause-done : goal.returns-clause-done
returns-clause-done g c =
    let all : length c.args.slots.now ≤ c.loop-slot.slot-index = omega (arith, c.loop-slot-test.false) in
    let is = done_is c.loop-slot.invariant all in
    cc (is, c.done.ensures, c.if-not-done.false)

pub returns-clause-verdicts : goal.returns-clause-verdicts
returns-clause-verdicts g c _ =
    let table = c.args.table.now in
    let keys = c.args.keys.now in
    let count = c.args.cats.count in
    let all : length c.args.slots.now ≤ c.loop-slot.slot-index = omega (arith, c.loop-slot-test.false) in
    let is = done_is c.loop-slot.invariant all in
    let last = flow_from_first table keys g.row.W c.args.slots.now in
    let bytes : AreBytes keys = All-from_get_or (λ byte. byte < 256) keys 0
    (λ i below. omega (arith, c.type_inv.keys i)) in
    let done : is_done last.machine ≡ true = cc (is, c.done.ensures, c.if-not-done.false) in
    let flown = from_first table keys c.stay_in.ensures.stay c.stay_in.ensures.sound bytes g.row.W c.args.slots.now
    c.requires.slots in
    let n : length keys / c.key_len.result ≡ keys_in table keys =
    ap (λ (k : ℕ). length keys / k) c.key_len.ensures.value in
    c.write_verdicts.ensures
    ∙ (λ i. flat_map (row_verdicts (c.count.ensures.value i)) (take (n i) c.loop-slot.scratch))
    ∙ ap (λ (rows : List (List ℕ)). flat_map (row_verdicts count) rows) (rows_are c.loop-slot.invariant all)
    ∙ verdicts_of_rows table keys count (omega (arith, c.count.ensures.bound, c.count.ensures.value)) last.rows
    (all_joined table keys last flown done)

pub returns-clause-rows : goal.returns-clause-rows
returns-clause-rows g c =
    let all : length c.args.slots.now ≤ c.loop-slot.slot-index = omega (arith, c.loop-slot-test.false) in
    rows_are c.loop-slot.invariant all

pub returns-clause-others : goal.returns-clause-others
returns-clause-others g c = c.loop-slot.invariant.others
