-- The rows of a table are read exactly where they are spelled and their words name rules.
use Rattle.std.proofs.Common.{◌≡◌, ℕ, zero, suc, ◌+◌, ◌*◌, ◌^◌, List, [], ◌∷◌, ◌++◌, length, drop}
use Rattle.std.proofs.Common.{refl, sym, ap, ◌∙◌, arith, true, length-append, append_assoc, Ok}
use Rattle.std.specs.Prelude.{◌==◌, nat_lt}
use Rattle.std.specs.List.{list_all, flat_map}
use Rattle.std.proofs.lemmas.List.{append-nil, length_push}
use Rattle.std.proofs.lemmas.Bool.{and_parts, and_from, eq-eqb, eqb-true}
use Rattle.table_sizes.specs.Sizes.{row_len}
use Rattle.table_image.specs.declared.load_fault.ImageKind.TheVariants.{RowForm}
use Rattle.table_image.specs.Spelling.{long, all_spelled, is_row_word, is_row}
use Rattle.table_image.specs.ImageReading.{numbers, rows_after, row_bytes}
use Rattle.table_image.proofs.Fields.{AreBytes}
use Rattle.list_lemmas.proofs.Rests.{after, joined}
use Rattle.table_image.proofs.Readings.{of_both, both}
use Rattle.table_image.proofs.NumbersRead.{fits, numbers_read, numbers_spelled, length-all_spelled, tested_all}
use Rattle.table_image.proofs.NumbersRead.{all_tested}

-- what was read of rows after the first ones
pub record RowsAt (rules : ℕ) (bytes : List ℕ) (from count : ℕ) (first all : List (List ℕ)) : Type 0 where
  pub more : List (List ℕ)
  pub are : all ≡ first ++ more
  pub count_is : length more ≡ count
  pub text : drop (from + row_bytes * length first) bytes
      ≡ flat_map (all_spelled long) more ++ drop (from + row_bytes * (length first + count)) bytes
  pub ranked : list_all (list_all (is_row_word rules)) more ≡ true
  pub typed : list_all is_row more ≡ true

-- rows that were read stand in the bytes, and their words name rules
pub rows_read : (rules : ℕ) (bytes : List ℕ) (from count : ℕ) (first all : List (List ℕ)) → AreBytes bytes →
    rows_after rules bytes from count first ≡ Ok all → RowsAt rules bytes from count first all
unfolding rows_after
rows_read rules bytes from zero first all are e =
    let same : first ≡ all = cc in
    record {
      more = [];
      are = sym same ∙ sym (append-nil first);
      count_is = refl;
      text = ap (λ k. drop (from + row_bytes * k) bytes) (omega arith);
      ranked = refl;
      typed = refl;
    }
rows_read rules bytes from (suc count) first all are e =
    let at : ℕ = from + row_bytes * length first in
    let parts = of_both (numbers RowForm long (λ _. is_row_word rules) bytes at row_len)
    (λ row. rows_after rules bytes from count (first ++ row ∷ [])) all e in
    let row : List ℕ = parts.0 in
    let here = numbers_read RowForm long (λ _. is_row_word rules) bytes at row_len [] row are parts.1 in
    let rest = rows_read rules bytes from count (first ++ row ∷ []) all are parts.2 in
    let len : length (first ++ row ∷ []) ≡ length first + 1 = length_push first row in
    let text : drop at bytes ≡ all_spelled long row ++ drop (from + row_bytes * length (first ++ row ∷ [])) bytes =
    ap (λ k. drop k bytes) (omega arith) ∙ here.text
    ∙ ap (λ xs. all_spelled long xs ++ drop (at + long * (0 + row_len)) bytes) (sym here.are)
    ∙ ap (λ k. all_spelled long row ++ drop k bytes) (omega (arith, len)) in
    let back : drop (from + row_bytes * length (first ++ row ∷ [])) bytes
    ≡ flat_map (all_spelled long) rest.more ++ drop (from + row_bytes * (length first + suc count)) bytes =
    rest.text ∙ ap (λ k. flat_map (all_spelled long) rest.more ++ drop (from + row_bytes * k) bytes)
    (omega (arith, len)) in
    let wide : is_row row ≡ true =
    and_from (length row == row_len) (list_all (λ word. nat_lt word (2 ^ 64)) row)
    (eq-eqb (length row) row_len (ap length here.are ∙ here.count_is)) (ap (list_all (fits long)) here.are
    ∙ here.small) in
    record {
      more = row ∷ rest.more;
      are = rest.are ∙ append_assoc first (row ∷ []) rest.more;
      count_is = ap suc rest.count_is;
      text = joined (drop at bytes) (all_spelled long row) (flat_map (all_spelled long) rest.more) _ _ text back;
      ranked = and_from (list_all (is_row_word rules) row) _
          (ap (list_all (is_row_word rules)) here.are ∙ tested_all (is_row_word rules) [] here.more here.pass)
          rest.ranked;
      typed = and_from (is_row row) (list_all is_row rest.more) wide rest.typed;
    }

-- the bytes of some rows
pub length-rows : (rows : List (List ℕ)) → list_all is_row rows ≡ true →
    length (flat_map (all_spelled long) rows) ≡ row_bytes * length rows
length-rows [] typed = refl
length-rows (row ∷ rows) typed =
    let parts = and_parts (is_row row) (list_all is_row rows) typed in
    let wide = and_parts (length row == row_len) (list_all (λ word. nat_lt word (2 ^ 64)) row) parts.0 in
    length-append (all_spelled long row) (flat_map (all_spelled long) rows)
    ∙ omega (arith, length-rows rows parts.1, length-all_spelled long row, eqb-true (length row) row_len wide.0)

-- rows that are spelled, and whose words name rules, are read
pub rows_spelled : (rules : ℕ) (bytes : List ℕ) (from : ℕ) (first more : List (List ℕ)) (rest : List ℕ) →
    drop (from + row_bytes * length first) bytes ≡ flat_map (all_spelled long) more ++ rest →
    list_all (list_all (is_row_word rules)) more ≡ true → list_all is_row more ≡ true →
    rows_after rules bytes from (length more) first ≡ Ok (first ++ more)
unfolding rows_after
rows_spelled rules bytes from first [] rest e ranked typed = ap Ok (sym (append-nil first))
rows_spelled rules bytes from first (row ∷ more) rest e ranked typed =
    let at : ℕ = from + row_bytes * length first in
    let ranks = and_parts (list_all (is_row_word rules) row) (list_all (list_all (is_row_word rules)) more) ranked in
    let parts = and_parts (is_row row) (list_all is_row more) typed in
    let wide = and_parts (length row == row_len) (list_all (λ word. nat_lt word (2 ^ 64)) row) parts.0 in
    let count : length row ≡ row_len = eqb-true (length row) row_len wide.0 in
    let others : List ℕ = flat_map (all_spelled long) more ++ rest in
    let text : drop at bytes ≡ all_spelled long row ++ others =
    e ∙ append_assoc (all_spelled long row) (flat_map (all_spelled long) more) rest in
    let none : List ℕ = [] in
    let text_at : drop (at + long * length none) bytes ≡ all_spelled long row ++ others =
    ap (λ k. drop k bytes) (omega arith) ∙ text in
    let here : numbers RowForm long (λ _. is_row_word rules) bytes at row_len ≡ Ok row =
    ap (λ n. numbers RowForm long (λ _. is_row_word rules) bytes at n) (sym count)
    ∙ numbers_spelled RowForm long (λ _. is_row_word rules) bytes at [] row others (omega arith) text_at wide.1
    (all_tested (is_row_word rules) [] row ranks.0) in
    let len : length (first ++ row ∷ []) ≡ length first + 1 = length_push first row in
    let back : drop (from + row_bytes * length (first ++ row ∷ [])) bytes ≡ others =
    ap (λ k. drop k bytes) (omega (arith, len, length-all_spelled long row, count))
    ∙ after at bytes (all_spelled long row) others text in
    both (numbers RowForm long (λ _. is_row_word rules) bytes at row_len)
    (λ r. rows_after rules bytes from (length more) (first ++ r ∷ [])) row _ here
    (rows_spelled rules bytes from (first ++ row ∷ []) more rest back ranks.1 parts.1
    ∙ ap Ok (append_assoc first (row ∷ []) more))
