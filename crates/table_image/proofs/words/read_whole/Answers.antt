use Rattle.std.proofs.Common.{ℕ, ◌+◌, ◌*◌, ◌-◌, ◌∙◌, sym, ap, arith, Ok, length, take}
use Rattle.std.proofs.lemmas.Result.{err_from_is_err_and}
use Rattle.std.proofs.lemmas.List.{take_more_set, length-take-le, take_all, length-set}
use Rattle.flat_table.specs.Sound.{is_sound_word}
use Rattle.table_image.specs.declared.load_fault.ImageKind.TheVariants.{Unsound}
use Rattle.table_image.specs.ImageReading.{numbers_after}
use Rattle.table_image.proofs.Loops.{number_read, number_refused, numbers_end}
use Rattle.table_image.proofs.Portions.{field_whole, number_after}
use Rattle.table_image.proofs.words.read_whole.Goals as goal

pub returns-in_err-word-clause-fault : goal.returns-in_err-word-clause-fault
returns-in_err-word-clause-fault c =
    let l = c.loop-i in
    let len = length-take-le l.i l.words (omega (arith, l.invariant.len)) in
    let at : ℕ = c.args.from + 8 * l.i in
    let here = c.network_u64_at-word.ensures ∙ number_after c.args.bytes.now c.split_at.result.1.now c.args.from
    (8 * l.i) 8
    c.split_at.ensures.back in
    let whole = field_whole 8 c.args.bytes.now at c.network_u64_at-word.result (omega (arith, l.invariant.len)) here in
    let failed = err_from_is_err_and c.from_residual.result c.from_residual.ensures.1 in
    rw (failed.1, failed.2) (l.invariant.rest
    ∙ number_refused Unsound 8 (λ _. is_sound_word c.args.rows c.args.next) c.args.bytes.now c.args.from
    (length c.args.words.now - l.i) (length c.args.words.now - (l.i + 1)) at (take l.i l.words)
    (omega (arith, l.invariant.len))
    (omega (arith, len)) c.network_u64_at-word.result c.in_err-word.field-0.0 whole (sym c.in_err-word.ensures))

pub loop-i-preserved : goal.loop-i-preserved
loop-i-preserved c =
    let l = c.loop-i in
    let len = length-take-le l.i l.words (omega (arith, l.invariant.len)) in
    let at : ℕ = c.args.from + 8 * l.i in
    let here = c.network_u64_at-word.ensures ∙ number_after c.args.bytes.now c.split_at.result.1.now c.args.from
    (8 * l.i) 8
    c.split_at.ensures.back in
    let whole = field_whole 8 c.args.bytes.now at c.network_u64_at-word.result (omega (arith, l.invariant.len)) here in
    let more = take_more_set l.words l.i c.in_ok-word.word (omega (arith, l.invariant.len)) in
    record {
      rest = l.invariant.rest
          ∙ number_read Unsound 8 (λ _. is_sound_word c.args.rows c.args.next) c.args.bytes.now c.args.from
          (length c.args.words.now - l.i) (length c.args.words.now - (l.i + 1)) at (take l.i l.words)
          (omega (arith, l.invariant.len))
          (omega (arith, len)) c.network_u64_at-word.result c.in_ok-word.word whole (sym c.in_ok-word.ensures)
          ∙ ap (numbers_after Unsound 8 (λ _. is_sound_word c.args.rows c.args.next) c.args.bytes.now c.args.from
          (length c.args.words.now - (l.i + 1))) (sym more);
      len = length-set l.words l.i c.in_ok-word.word ∙ l.invariant.len;
      begun = omega (arith, l.invariant.begun);
    }

pub returns-clause-words : goal.returns-clause-words
returns-clause-words c =
    let l = c.loop-i in
    l.invariant.rest
    ∙ numbers_end Unsound 8 (λ _. is_sound_word c.args.rows c.args.next) c.args.bytes.now c.args.from
    (length c.args.words.now - l.i)
    (take l.i l.words) (omega (arith, l.invariant.len))
    ∙ ap Ok (take_all l.i l.words (omega (arith, l.invariant.len)))
