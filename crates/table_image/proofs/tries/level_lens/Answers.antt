use Rattle.std.proofs.Common.{◌≡◌, ◌+◌, ◌-◌, ◌∙◌, ◌∷◌, [], sym, ap, arith, length, sum}
use Rattle.std.specs.Prelude.{nat_le}
use Rattle.std.proofs.lemmas.Result.{err_from_is_err_and}
use Rattle.std.proofs.lemmas.List.{length_push}
use Rattle.std.proofs.lemmas.List.Sums.{sum_by-append}
use Rattle.std.proofs.lemmas.Bool.{leb-true}
use Rattle.table_sizes.specs.Sizes.{max_words}
use Rattle.table_image.specs.declared.load_fault.ImageKind.TheVariants.{TooMany}
use Rattle.table_image.specs.ImageReading.{checked, numbers_after, level_fits}
use Rattle.table_image.proofs.Readings.{of_check}
use Rattle.table_image.proofs.Loops.{number_read, number_cut, number_refused, numbers_end}
use Rattle.table_image.proofs.tries.level_lens.Goals as goal

pub returns-in_err-len-clause-fault : goal.returns-in_err-len-clause-fault
returns-in_err-len-clause-fault c =
    let failed = err_from_is_err_and c.from_residual.result c.from_residual.ensures.1 in
    rw (failed.1, failed.2) (c.loop-level.invariant.rest
    ∙ number_cut TooMany 4 (level_fits c.args.taken) c.args.bytes.now c.args.from (c.args.depth - c.loop-level.level)
    (c.args.depth - (c.loop-level.level + 1)) c.loop-level.at c.loop-level.lens.items (omega arith) (omega arith)
    c.in_err-len.field-0.0 (sym c.in_err-len.ensures.number))

pub returns-in_err-len-2-clause-fault : goal.returns-in_err-len-2-clause-fault
returns-in_err-len-2-clause-fault c =
    let failed = err_from_is_err_and c.from_residual-in_err-len-2.result c.from_residual-in_err-len-2.ensures.1 in
    let passes : c.level_fits.result ≡ level_fits c.args.taken c.loop-level.lens.items c.in_ok-len.len =
    c.level_fits.ensures ∙ ap (λ words. nat_le (words + c.in_ok-len.len) max_words) c.loop-level.invariant.words in
    rw (failed.1, failed.2) (c.loop-level.invariant.rest
    ∙ number_refused TooMany 4 (level_fits c.args.taken) c.args.bytes.now c.args.from
    (c.args.depth - c.loop-level.level)
    (c.args.depth - (c.loop-level.level + 1)) c.loop-level.at c.loop-level.lens.items (omega arith) (omega arith)
    c.in_ok-len.len c.in_err-len-2.field-0.0 (sym c.in_ok-len.ensures.number)
    (ap (λ b. checked b TooMany c.loop-level.at c.in_ok-len.len) (sym passes) ∙ sym c.in_err-len-2.ensures))

pub loop-level-preserved : goal.loop-level-preserved
loop-level-preserved c =
    let passes : c.level_fits.result ≡ level_fits c.args.taken c.loop-level.lens.items c.in_ok-len.len =
    c.level_fits.ensures ∙ ap (λ words. nat_le (words + c.in_ok-len.len) max_words) c.loop-level.invariant.words in
    let passed = of_check c.level_fits.result TooMany c.loop-level.at c.in_ok-len.len c.in_ok-len-2.len
    (sym c.in_ok-len-2.ensures) in
    let few = leb-true (c.loop-level.words + c.in_ok-len.len) max_words (sym c.level_fits.ensures ∙ passed.0) in
    let items = c.in_ok-push.ensures in
    let total = ap sum items ∙ sum_by-append (λ n. n) c.loop-level.lens.items (c.in_ok-len-2.len ∷ []) in
    record {
      rest = c.loop-level.invariant.rest
          ∙ number_read TooMany 4 (level_fits c.args.taken) c.args.bytes.now c.args.from
          (c.args.depth - c.loop-level.level)
          (c.args.depth - (c.loop-level.level + 1)) c.loop-level.at c.loop-level.lens.items (omega arith) (omega arith)
          c.in_ok-len.len c.in_ok-len-2.len (sym c.in_ok-len.ensures.number)
          (ap (λ b. checked b TooMany c.loop-level.at c.in_ok-len.len) (sym passes) ∙ sym c.in_ok-len-2.ensures)
          ∙ ap (numbers_after TooMany 4 (level_fits c.args.taken) c.args.bytes.now c.args.from
          (c.args.depth - (c.loop-level.level + 1))) (sym items);
      words = omega (arith, total, c.loop-level.invariant.words);
      few = omega (arith, few, passed.1);
      count = ap length items ∙ length_push c.loop-level.lens.items c.in_ok-len-2.len ∙ omega arith;
      place = omega arith;
      inside = c.in_ok-len.ensures.inside;
    }

pub returns-clause-lens : goal.returns-clause-lens
returns-clause-lens c =
    c.loop-level.invariant.rest
    ∙ numbers_end TooMany 4 (level_fits c.args.taken) c.args.bytes.now c.args.from (c.args.depth - c.loop-level.level)
    c.loop-level.lens.items (omega arith)
