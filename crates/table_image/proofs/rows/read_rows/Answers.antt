use Rattle.std.proofs.Common.{◌≡◌, ℕ, List, ◌+◌, ◌*◌, ◌-◌, ◌∙◌, ◌++◌, ◌∷◌, [], sym, ap, arith, length, refl, drop, length-drop}
use Rattle.std.proofs.lemmas.Result.{err_from_is_err_and}
use Rattle.std.proofs.lemmas.List.{length_push}
use Rattle.table_sizes.specs.Sizes.{row_len}
use Rattle.table_image.specs.Spelling.{is_row_word}
use Rattle.table_image.specs.declared.load_fault.ImageKind.TheVariants.{RowForm}
use Rattle.table_image.specs.declared.load_fault.LoadFault.TheVariants.{Image}
use Rattle.table_image.specs.ImageReading.{Reading, numbers, rows_after, row_bytes, no_rule}
use Rattle.table_image.proofs.Readings.{both}
use Rattle.table_image.proofs.Loops.{fault_of_both, row_more, rows_end}
use Rattle.table_image.proofs.rows.read_rows.Goals as goal

pub returns-in_err-words-clause-fault : goal.returns-in_err-words-clause-fault
returns-in_err-words-clause-fault c =
    let l = c.loop-row in
    let front : List (List ℕ) = drop 1 l.rows.items in
    let read : ℕ → Reading (List ℕ) = λ at. numbers RowForm 8 (λ _. is_row_word c.args.rules) c.args.bytes.now at
    row_len in
    let place : c.args.from + row_bytes * length front ≡ l.at =
    omega (arith, length-drop 1 l.rows.items, l.invariant.len, l.invariant.place) in
    let failed = err_from_is_err_and c.from_residual-in_err-words.result c.from_residual-in_err-words.ensures.1 in
    rw (failed.1, failed.2) (l.invariant.rest
    ∙ row_more c.args.rules c.args.bytes.now c.args.from (c.args.count - l.row) (c.args.count - (l.row + 1)) front
    (omega arith)
    ∙ fault_of_both (read (c.args.from + row_bytes * length front))
    (λ row. rows_after c.args.rules c.args.bytes.now c.args.from (c.args.count - (l.row + 1)) (front ++ row ∷ []))
    (Image c.in_err-words.field-0.0) (ap read place ∙ c.in_err-words.ensures.fault))

pub loop-row-preserved : goal.loop-row-preserved
loop-row-preserved c =
    let l = c.loop-row in
    let front : List (List ℕ) = drop 1 l.rows.items in
    let words : List ℕ = c.in_ok-words.words in
    let now : List (List ℕ) = c.push-in-loop-row.new.list.items in
    let read : ℕ → Reading (List ℕ) = λ at. numbers RowForm 8 (λ _. is_row_word c.args.rules) c.args.bytes.now at
    row_len in
    let place : c.args.from + row_bytes * length front ≡ l.at =
    omega (arith, length-drop 1 l.rows.items, l.invariant.len, l.invariant.place) in
    let whole : now ≡ no_rule ∷ (front ++ words ∷ []) = c.in_ok-push-2.ensures
    ∙ ap (λ rows. rows ++ words ∷ []) l.invariant.first in
    let back : drop 1 now ≡ front ++ words ∷ [] = ap (drop 1) whole in
    record {
      first = whole ∙ ap (λ rows. no_rule ∷ rows) (sym back);
      rest = l.invariant.rest
          ∙ row_more c.args.rules c.args.bytes.now c.args.from (c.args.count - l.row) (c.args.count - (l.row + 1)) front
          (omega arith)
          ∙ both (read (c.args.from + row_bytes * length front))
          (λ row. rows_after c.args.rules c.args.bytes.now c.args.from (c.args.count - (l.row + 1)) (front ++ row ∷ []))
          words _
          (ap read place ∙ c.in_ok-words.ensures.row) refl
          ∙ ap (rows_after c.args.rules c.args.bytes.now c.args.from (c.args.count - (l.row + 1))) (sym back);
      len = ap length c.in_ok-push-2.ensures ∙ length_push l.rows.items words ∙ omega (arith, l.invariant.len);
      place = omega (arith, l.invariant.place);
      inside = c.in_ok-words.ensures.inside;
    }

pub returns-clause-rows : goal.returns-clause-rows
returns-clause-rows c =
    let l = c.loop-row in
    l.invariant.rest ∙ rows_end c.args.rules c.args.bytes.now c.args.from (c.args.count - l.row) (drop 1 l.rows.items)
    (omega arith)
