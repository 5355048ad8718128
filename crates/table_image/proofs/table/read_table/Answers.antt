use Rattle.std.proofs.Common.{◌≡◌, ℕ, List, ◌+◌, ◌*◌, ◌∙◌, [], ◌∷◌, sym, ap, arith, Ok, length, drop, length-drop}
use Rattle.std.proofs.Math.Path.{subst}
use Rattle.std.proofs.lemmas.Result.{err_from_is_err_and}
use Rattle.flat_table.specs.Table.{TableView}
use Rattle.flat_table.specs.Sound.{sound_fault}
use Rattle.table_image.specs.ImageReading.{Counts, TriesView, TableRead, rows_after, row_bytes, no_rule}
use Rattle.table_image.specs.Loading.{IsFaultOf, counts_of, tries_of}
use Rattle.table_image.proofs.Fields.{are_bytes}
use Rattle.table_image.proofs.TableSteps.{counts_fault, tries_fault, tries_levels, words_fault, rows_fault, all_read, read_sound}
use Rattle.table_image.proofs.table.read_table.Goals as goal

pub returns-in_err-counts-clause-fault : goal.returns-in_err-counts-clause-fault
returns-in_err-counts-clause-fault c =
    let failed = err_from_is_err_and c.from_residual.result c.from_residual.ensures.1 in
    rw (failed.1, failed.2) (counts_fault c.args.version c.args.family c.args.key_len c.args.bytes.now c.args.at
    c.in_err-counts.field-0.0 c.in_err-counts.ensures.err)

pub returns-in_err-tries-clause-fault : goal.returns-in_err-tries-clause-fault
returns-in_err-tries-clause-fault c =
    let failed = err_from_is_err_and c.from_residual-in_err-tries.result c.from_residual-in_err-tries.ensures.1 in
    rw (failed.1, failed.2) (tries_fault c.args.version c.args.family c.args.key_len c.args.bytes.now c.args.at
    (counts_of c.in_ok-counts.counts) c.in_ok-counts.ensures.ok c.in_err-tries.field-0.0 c.in_err-tries.ensures.fault)

pub read_words-requires-clause-levels : goal.read_words-requires-clause-levels
read_words-requires-clause-levels c =
    tries_levels c.args.version c.args.family c.args.key_len c.args.bytes.now c.args.at
    (counts_of c.in_ok-counts.counts)
    c.in_ok-counts.ensures.ok (tries_of c.in_ok-tries.tries) c.in_ok-tries.ensures.tries
    (are_bytes c.args.bytes.now (λ k. omega (arith, c.type_inv.bytes k))) c.in_ok-counts.ensures.rows

pub returns-in_err-words-clause-fault : goal.returns-in_err-words-clause-fault
returns-in_err-words-clause-fault c =
    let failed = err_from_is_err_and c.from_residual-in_err-words.result c.from_residual-in_err-words.ensures.1 in
    rw (failed.1, failed.2) (words_fault c.args.version c.args.family c.args.key_len c.args.bytes.now c.args.at
    (counts_of c.in_ok-counts.counts) c.in_ok-counts.ensures.ok (tries_of c.in_ok-tries.tries)
    c.in_ok-tries.ensures.tries
    c.in_err-words.field-0.0 c.in_err-words.ensures.fault)

pub returns-in_err-rows-clause-fault : goal.returns-in_err-rows-clause-fault
returns-in_err-rows-clause-fault c =
    let from : c.in_ok-tries.tries.end + 8 * c.len.result ≡ c.in_ok-tries.tries.end + 8 * length
    c.in_ok-words.words.items =
    omega (arith, c.len.ensures, c.in_ok-words.words.ok.0) in
    let fault = subst (λ n. IsFaultOf (rows_after c.in_ok-counts.counts.rules c.args.bytes.now n
    c.in_ok-counts.counts.rows [])
    c.in_err-rows.field-0.0) from c.in_err-rows.ensures.fault in
    let failed = err_from_is_err_and c.from_residual-in_err-rows.result c.from_residual-in_err-rows.ensures.1 in
    rw (failed.1, failed.2) (rows_fault c.args.version c.args.family c.args.key_len c.args.bytes.now c.args.at
    (counts_of c.in_ok-counts.counts) c.in_ok-counts.ensures.ok (tries_of c.in_ok-tries.tries)
    c.in_ok-tries.ensures.tries
    c.in_ok-words.words.items c.in_ok-words.ensures.words c.in_err-rows.field-0.0 fault)

-- the table of these rows
abbrev with_rows : Counts → TriesView → ℕ → List ℕ → List (List ℕ) → TableView
with_rows counts tries key_len words rows = record {
  key_len = key_len;
  rules = counts.rules;
  kept = tries.kept;
  roots = tries.roots;
  level_lens = tries.level_lens;
  words = words;
  rows = rows;
}

pub from_sound-table-requires : goal.from_sound-table-requires
from_sound-table-requires c =
    let from : c.in_ok-tries.tries.end + 8 * c.len.result ≡ c.in_ok-tries.tries.end + 8 * length
    c.in_ok-words.words.items =
    omega (arith, c.len.ensures, c.in_ok-words.words.ok.0) in
    let rows : rows_after c.in_ok-counts.counts.rules c.args.bytes.now
    (c.in_ok-tries.tries.end + 8 * length c.in_ok-words.words.items)
    c.in_ok-counts.counts.rows [] ≡ Ok (drop 1 c.in_ok-rows.rows.items) =
    ap (λ n. rows_after c.in_ok-counts.counts.rules c.args.bytes.now n c.in_ok-counts.counts.rows []) (sym from)
    ∙ c.in_ok-rows.ensures.rows in
    ap (λ rs. sound_fault (with_rows (counts_of c.in_ok-counts.counts) (tries_of c.in_ok-tries.tries) c.args.key_len
    c.in_ok-words.words.items rs)) c.in_ok-rows.ensures.first
    ∙ read_sound c.args.version c.args.family c.args.key_len c.args.bytes.now c.args.at
    (counts_of c.in_ok-counts.counts) c.in_ok-counts.ensures.ok (tries_of c.in_ok-tries.tries)
    c.in_ok-tries.ensures.tries
    c.in_ok-words.words.items c.in_ok-words.ensures.words (drop 1 c.in_ok-rows.rows.items) rows
    (are_bytes c.args.bytes.now (λ k. omega (arith, c.type_inv.bytes k))) c.requires.key

pub returns-clause-table : goal.returns-clause-table
returns-clause-table c =
    let from : c.in_ok-tries.tries.end + 8 * c.len.result ≡ c.in_ok-tries.tries.end + 8 * length
    c.in_ok-words.words.items =
    omega (arith, c.len.ensures, c.in_ok-words.words.ok.0) in
    let rows : rows_after c.in_ok-counts.counts.rules c.args.bytes.now
    (c.in_ok-tries.tries.end + 8 * length c.in_ok-words.words.items)
    c.in_ok-counts.counts.rows [] ≡ Ok (drop 1 c.in_ok-rows.rows.items) =
    ap (λ n. rows_after c.in_ok-counts.counts.rules c.args.bytes.now n c.in_ok-counts.counts.rows []) (sym from)
    ∙ c.in_ok-rows.ensures.rows in
    let counts : Counts = counts_of c.in_ok-counts.counts in
    let tries : TriesView = tries_of c.in_ok-tries.tries in
    let words : List ℕ = c.in_ok-words.words.items in
    let all : List (List ℕ) = c.in_ok-rows.rows.items in
    let end : tries.end + 8 * length words + row_bytes * length (drop 1 all) ≡ tries.end + 8 * c.len.result + 128
    * counts.rows =
    omega (arith, from, length-drop 1 all, c.in_ok-rows.ensures.count) in
    let table : with_rows counts tries c.args.key_len words (no_rule ∷ drop 1 all) ≡ c.from_sound-table.result =
    ap (with_rows counts tries c.args.key_len words) (sym c.in_ok-rows.ensures.first)
    ∙ sym c.from_sound-table.ensures in
    all_read c.args.version c.args.family c.args.key_len c.args.bytes.now c.args.at counts c.in_ok-counts.ensures.ok
    tries
    c.in_ok-tries.ensures.tries words c.in_ok-words.ensures.words (drop 1 all) rows
    ∙ ap (λ (t : TableView). Ok (read_to t (tries.end + 8 * length words + row_bytes * length (drop 1 all)))) table
    ∙ ap (λ (e : ℕ). Ok (read_to c.from_sound-table.result e)) end
  where
    read_to : TableView → ℕ → TableRead
    read_to table end = record { table = table; end = end }
