use Rattle.std.proofs.Common.{ℕ, List, ◌-◌, ◌∙◌, arith}
use Rattle.std.proofs.lemmas.Result.{err_from_is_err_and}
use Rattle.flat_table.specs.Sound.{is_sound_word}
use Rattle.table_image.specs.declared.load_fault.ImageKind.TheVariants.{Unsound}
use Rattle.table_image.specs.ImageReading.{Reading, numbers_after}
use Rattle.table_image.proofs.Loops.{numbers_end, fault_of_both, fault_of_same}
use Rattle.table_image.proofs.Portions.{portion_read, two_portions}
use Rattle.table_image.proofs.words.read_level.Goals as goal

pub returns-in_err-read_portion-clause-fault : goal.returns-in_err-read_portion-clause-fault
returns-in_err-read_portion-clause-fault c =
    let l = c.loop-portion in
    let read : ℕ → List ℕ → Reading (List ℕ) =
    numbers_after Unsound 8 (λ _. is_sound_word c.args.rows c.args.next) c.args.bytes.now c.args.from in
    let some : ℕ = c.min-some.result in
    let failed = err_from_is_err_and c.from_residual.result c.from_residual.ensures.1 in
    rw (failed.1, failed.2) (fault_of_same _ _ _
    (l.invariant.rest ∙ two_portions Unsound 8 (λ _. is_sound_word c.args.rows c.args.next) c.args.bytes.now c.args.from
    l.left some l.words.items (omega (arith, c.min-some.ensures)))
    (fault_of_both (read some l.words.items) (read (l.left - some)) c.in_err-read_portion.field-0.0
    c.in_err-read_portion.ensures.fault))

pub loop-portion-preserved : goal.loop-portion-preserved
loop-portion-preserved c =
    let l = c.loop-portion in
    let some : ℕ = c.min-some.result in
    record {
      rest = l.invariant.rest
          ∙ portion_read Unsound 8 (λ _. is_sound_word c.args.rows c.args.next) c.args.bytes.now c.args.from l.left some
          l.words.items (omega (arith, c.min-some.ensures)) c.read_portion.new.words.items
          c.in_ok-read_portion.ensures.words;
      len = omega (arith, c.in_ok-read_portion.ensures.len, l.invariant.len, c.min-some.ensures);
      few = omega (arith, l.invariant.few);
      turns = omega (arith, l.invariant.turns, c.min-some.ensures);
      inside = c.in_ok-read_portion.ensures.inside;
    }

pub returns-clause-words : goal.returns-clause-words
returns-clause-words c =
    let l = c.loop-portion in
    l.invariant.rest
    ∙ numbers_end Unsound 8 (λ _. is_sound_word c.args.rows c.args.next) c.args.bytes.now c.args.from l.left
    l.words.items
    (omega (arith, l.invariant.turns))
