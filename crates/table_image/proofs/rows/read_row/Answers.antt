use Rattle.std.proofs.Common.{◌+◌, ◌-◌, ◌∙◌, sym, ap, arith, Ok, take}
use Rattle.std.proofs.lemmas.Result.{err_from_is_err_and}
use Rattle.std.proofs.lemmas.List.{take_more_set, length-take-le, take_all, length-set}
use Rattle.table_sizes.specs.Sizes.{row_len}
use Rattle.table_image.specs.Spelling.{is_row_word}
use Rattle.table_image.specs.declared.load_fault.ImageKind.TheVariants.{RowForm}
use Rattle.table_image.specs.ImageReading.{checked, numbers_after}
use Rattle.table_image.proofs.Loops.{number_read, number_cut, number_refused, numbers_end}
use Rattle.table_image.proofs.rows.read_row.Goals as goal

pub returns-in_err-word-clause-fault : goal.returns-in_err-word-clause-fault
returns-in_err-word-clause-fault c =
    let l = c.loop-category in
    let len = length-take-le l.category l.row (omega (arith, l.invariant.len)) in
    let failed = err_from_is_err_and c.from_residual.result c.from_residual.ensures.1 in
    rw (failed.1, failed.2) (l.invariant.rest
    ∙ number_cut RowForm 8 (λ _. is_row_word c.args.rules) c.args.bytes.now c.args.from (row_len - l.category)
    (row_len - (l.category + 1)) l.at (take l.category l.row) (omega arith) (omega (arith, len, l.invariant.place))
    c.in_err-word.field-0.0 (sym c.in_err-word.ensures.number))

pub returns-in_err-word-2-clause-fault : goal.returns-in_err-word-2-clause-fault
returns-in_err-word-2-clause-fault c =
    let l = c.loop-category in
    let len = length-take-le l.category l.row (omega (arith, l.invariant.len)) in
    let failed = err_from_is_err_and c.from_residual-in_err-word-2.result c.from_residual-in_err-word-2.ensures.1 in
    rw (failed.1, failed.2) (l.invariant.rest
    ∙ number_refused RowForm 8 (λ _. is_row_word c.args.rules) c.args.bytes.now c.args.from (row_len - l.category)
    (row_len - (l.category + 1)) l.at (take l.category l.row) (omega arith) (omega (arith, len, l.invariant.place))
    c.in_ok-word.word c.in_err-word-2.field-0.0 (sym c.in_ok-word.ensures.number)
    (ap (λ b. checked b RowForm l.at c.in_ok-word.word) (sym c.is_row_word.ensures) ∙ sym c.in_err-word-2.ensures))

pub loop-category-preserved : goal.loop-category-preserved
loop-category-preserved c =
    let l = c.loop-category in
    let len = length-take-le l.category l.row (omega (arith, l.invariant.len)) in
    let more = take_more_set l.row l.category c.in_ok-word-2.word (omega (arith, l.invariant.len)) in
    record {
      rest = l.invariant.rest
          ∙ number_read RowForm 8 (λ _. is_row_word c.args.rules) c.args.bytes.now c.args.from (row_len - l.category)
          (row_len - (l.category + 1)) l.at (take l.category l.row) (omega arith)
          (omega (arith, len, l.invariant.place))
          c.in_ok-word.word c.in_ok-word-2.word (sym c.in_ok-word.ensures.number)
          (ap (λ b. checked b RowForm l.at c.in_ok-word.word) (sym c.is_row_word.ensures) ∙ sym c.in_ok-word-2.ensures)
          ∙ ap (numbers_after RowForm 8 (λ _. is_row_word c.args.rules) c.args.bytes.now c.args.from
          (row_len - (l.category + 1))) (sym more);
      len = length-set l.row l.category c.in_ok-word-2.word ∙ l.invariant.len;
      place = omega (arith, l.invariant.place);
      inside = c.in_ok-word.ensures.inside;
    }

pub returns-clause-row : goal.returns-clause-row
returns-clause-row c =
    let l = c.loop-category in
    l.invariant.rest
    ∙ numbers_end RowForm 8 (λ _. is_row_word c.args.rules) c.args.bytes.now c.args.from (row_len - l.category)
    (take l.category l.row) (omega arith)
    ∙ ap Ok (take_all l.category l.row (omega (arith, l.invariant.len)))
