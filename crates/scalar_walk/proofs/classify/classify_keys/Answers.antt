use Rattle.std.proofs.Common.{◌≡◌, ◌*◌, ◌/◌, ℕ, length, arith, sym, ap, ◌∙◌}
use Rattle.flat_table.specs.Batch.{key_verdicts, keys_in}
use Rattle.list_lemmas.proofs.Parts.{part_len}
use Rattle.scalar_walk.proofs.Batches.{all_written, classified_none, its_transitions, keys_fit, keys_more}
use Rattle.scalar_walk.proofs.Batches.{one_piece_of, room_fits}
use Rattle.scalar_walk.specs.Rows.{key_winners}
use Rattle.scalar_walk.proofs.Below.{fold_is_sum, pieces_are}
use Rattle.scalar_walk.proofs.classify.classify_keys.Goals as goal

pub loop-k-init : goal.loop-k-init
loop-k-init g c = (
  classified_none c.args.table.now c.args.keys.now c.args.asked.count c.args.asked.marks 0 c.args.out.now
      c.args.won.now c.args.steps.now (omega arith),
  omega arith,
)

pub loop-k-preserved : goal.loop-k-preserved
loop-k-preserved g c =
    let w = c.classify_part-taken.ensures in (
      keys_more c.loop-k.invariant.0 c.key_len-key_len.ensures.value
          record {
            verdicts_are = w.verdicts ∙ pieces_are _ c.next_keys-m.result;
            winners_are = w.won ∙ pieces_are _ c.next_keys-m.result;
            taken_is = w.taken ∙ sym (fold_is_sum _ c.next_keys-m.result);
            most = w.bound;
            counted = w.steps;
          },
      omega (arith, c.next_keys-m.ensures.within),
    )

pub returns-then-keys-key_len-clause-verdicts : goal.returns-then-keys-key_len-clause-verdicts
returns-then-keys-key_len-clause-verdicts g c =
    let size = c.key_len-key_len.ensures in
    c.classify_alone.ensures.verdicts
    ∙ one_piece_of c.args.table.now c.args.keys.now (omega (arith, size.some, size.value))
    (omega (arith, c.if-keys-key_len.true, size.value))
    (key_verdicts c.args.table.now c.args.asked.count)

pub returns-then-keys-key_len-clause-won : goal.returns-then-keys-key_len-clause-won
returns-then-keys-key_len-clause-won g c =
    let size = c.key_len-key_len.ensures in
    c.classify_alone.ensures.won
    ∙ one_piece_of c.args.table.now c.args.keys.now (omega (arith, size.some, size.value))
    (omega (arith, c.if-keys-key_len.true, size.value))
    (key_winners c.args.table.now c.args.asked.marks)

pub returns-then-keys-key_len-clause-taken : goal.returns-then-keys-key_len-clause-taken
returns-then-keys-key_len-clause-taken g c =
    let size = c.key_len-key_len.ensures in
    c.classify_alone.ensures.taken
    ∙ its_transitions c.args.table.now c.args.keys.now (omega (arith, size.some, size.value))
    (omega (arith, c.if-keys-key_len.true, size.value))

pub returns-then-keys-key_len-clause-steps : goal.returns-then-keys-key_len-clause-steps
returns-then-keys-key_len-clause-steps g c =
    let size = c.key_len-key_len.ensures in
    let only = its_transitions c.args.table.now c.args.keys.now (omega (arith, size.some, size.value))
    (omega (arith, c.if-keys-key_len.true, size.value)) in
    omega (arith, c.classify_alone.ensures.steps, only)

pub returns-clause-verdicts : goal.returns-clause-verdicts
returns-clause-verdicts g c =
    let n = keys_in c.args.table.now c.args.keys.now in
    let all : c.loop-k.k ≡ n =
    omega (
      arith,
      c.loop-k-test.false,
      c.loop-k.invariant.1,
      ap (λ (size : ℕ). length c.args.keys.now / size) c.key_len-key_len.ensures.value,
    ) in
    all_written c.loop-k.invariant.0.verdicts all c.requires.fits.room_fits

pub returns-clause-won : goal.returns-clause-won
returns-clause-won g c =
    let n = keys_in c.args.table.now c.args.keys.now in
    let all : c.loop-k.k ≡ n =
    omega (
      arith,
      c.loop-k-test.false,
      c.loop-k.invariant.1,
      ap (λ (size : ℕ). length c.args.keys.now / size) c.key_len-key_len.ensures.value,
    ) in
    all_written c.loop-k.invariant.0.winners all c.requires.marks_room

pub overflow_mul-part : goal.overflow_mul-part
overflow_mul-part g c =
    let fits = keys_fit (length c.args.keys.now) c.key_len-key_len.result c.loop-k.k c.next_keys-m.result
    c.next_keys-m.ensures.within in
    omega (arith, fits)

pub overflow_mul-part-in-loop-k : goal.overflow_mul-part-in-loop-k
overflow_mul-part-in-loop-k g c =
    let fits = keys_fit (length c.args.keys.now) c.key_len-key_len.result c.loop-k.k c.next_keys-m.result
    c.next_keys-m.ensures.within in
    omega (arith, fits)

pub slice_bounds-part-start : goal.slice_bounds-part-start
slice_bounds-part-start g c =
    let fits = keys_fit (length c.args.keys.now) c.key_len-key_len.result c.loop-k.k c.next_keys-m.result
    c.next_keys-m.ensures.within in
    omega (arith, fits)

pub slice_bounds-part-end : goal.slice_bounds-part-end
slice_bounds-part-end g c =
    let fits = keys_fit (length c.args.keys.now) c.key_len-key_len.result c.loop-k.k c.next_keys-m.result
    c.next_keys-m.ensures.within in
    omega (arith, fits)

pub overflow_mul-verdicts : goal.overflow_mul-verdicts
overflow_mul-verdicts g c =
    let fits = room_fits (length c.args.keys.now) c.key_len-key_len.result c.args.asked.count (length c.loop-k.out)
    c.loop-k.k c.next_keys-m.result c.key_len-key_len.ensures.value c.loop-k.auto.out c.requires.fits.room_fits
    c.next_keys-m.ensures.within in
    omega (arith, fits)

pub overflow_mul-verdicts-in-loop-k : goal.overflow_mul-verdicts-in-loop-k
overflow_mul-verdicts-in-loop-k g c =
    let fits = room_fits (length c.args.keys.now) c.key_len-key_len.result c.args.asked.count (length c.loop-k.out)
    c.loop-k.k c.next_keys-m.result c.key_len-key_len.ensures.value c.loop-k.auto.out c.requires.fits.room_fits
    c.next_keys-m.ensures.within in
    omega (arith, fits)

pub slice_bounds-verdicts-start : goal.slice_bounds-verdicts-start
slice_bounds-verdicts-start g c =
    let fits = room_fits (length c.args.keys.now) c.key_len-key_len.result c.args.asked.count (length c.loop-k.out)
    c.loop-k.k c.next_keys-m.result c.key_len-key_len.ensures.value c.loop-k.auto.out c.requires.fits.room_fits
    c.next_keys-m.ensures.within in
    omega (arith, fits)

pub slice_bounds-verdicts-end : goal.slice_bounds-verdicts-end
slice_bounds-verdicts-end g c =
    let fits = room_fits (length c.args.keys.now) c.key_len-key_len.result c.args.asked.count (length c.loop-k.out)
    c.loop-k.k c.next_keys-m.result c.key_len-key_len.ensures.value c.loop-k.auto.out c.requires.fits.room_fits
    c.next_keys-m.ensures.within in
    omega (arith, fits)

pub overflow_mul-marked : goal.overflow_mul-marked
overflow_mul-marked g c =
    let fits = room_fits (length c.args.keys.now) c.key_len-key_len.result c.args.asked.marks (length c.loop-k.won)
    c.loop-k.k c.next_keys-m.result c.key_len-key_len.ensures.value c.loop-k.auto.won c.requires.marks_room
    c.next_keys-m.ensures.within in
    omega (arith, fits)

pub overflow_mul-marked-in-loop-k : goal.overflow_mul-marked-in-loop-k
overflow_mul-marked-in-loop-k g c =
    let fits = room_fits (length c.args.keys.now) c.key_len-key_len.result c.args.asked.marks (length c.loop-k.won)
    c.loop-k.k c.next_keys-m.result c.key_len-key_len.ensures.value c.loop-k.auto.won c.requires.marks_room
    c.next_keys-m.ensures.within in
    omega (arith, fits)

pub slice_bounds-marked-start : goal.slice_bounds-marked-start
slice_bounds-marked-start g c =
    let fits = room_fits (length c.args.keys.now) c.key_len-key_len.result c.args.asked.marks (length c.loop-k.won)
    c.loop-k.k c.next_keys-m.result c.key_len-key_len.ensures.value c.loop-k.auto.won c.requires.marks_room
    c.next_keys-m.ensures.within in
    omega (arith, fits)

pub slice_bounds-marked-end : goal.slice_bounds-marked-end
slice_bounds-marked-end g c =
    let fits = room_fits (length c.args.keys.now) c.key_len-key_len.result c.args.asked.marks (length c.loop-k.won)
    c.loop-k.k c.next_keys-m.result c.key_len-key_len.ensures.value c.loop-k.auto.won c.requires.marks_room
    c.next_keys-m.ensures.within in
    omega (arith, fits)

pub classify_part-taken-requires-clause-keys : goal.classify_part-taken-requires-clause-keys
classify_part-taken-requires-clause-keys g c =
    let fits = keys_fit (length c.args.keys.now) c.key_len-key_len.result c.loop-k.k c.next_keys-m.result
    c.next_keys-m.ensures.within in
    part_len c.args.keys.now c.loop-k.k c.next_keys-m.result c.key_len-key_len.result fits
    ∙ ap (λ (len : ℕ). c.next_keys-m.result * len) c.key_len-key_len.ensures.value

pub classify_part-taken-requires-clause-room : goal.classify_part-taken-requires-clause-room
classify_part-taken-requires-clause-room g c =
    let fits = room_fits (length c.args.keys.now) c.key_len-key_len.result c.args.asked.count (length c.loop-k.out)
    c.loop-k.k c.next_keys-m.result c.key_len-key_len.ensures.value c.loop-k.auto.out c.requires.fits.room_fits
    c.next_keys-m.ensures.within in
    part_len c.loop-k.out c.loop-k.k c.next_keys-m.result c.args.asked.count fits

pub classify_part-taken-requires-clause-marks_room : goal.classify_part-taken-requires-clause-marks_room
classify_part-taken-requires-clause-marks_room g c =
    let fits = room_fits (length c.args.keys.now) c.key_len-key_len.result c.args.asked.marks (length c.loop-k.won)
    c.loop-k.k c.next_keys-m.result c.key_len-key_len.ensures.value c.loop-k.auto.won c.requires.marks_room
    c.next_keys-m.ensures.within in
    part_len c.loop-k.won c.loop-k.k c.next_keys-m.result c.args.asked.marks fits
