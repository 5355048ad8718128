-- The rows of the last spans of a box, field by field.
use Rattle.std.proofs.Common.{◌≡◌, ℕ, suc, ◌+◌, ◌-◌, ◌<◌, List, [], ◌∷◌, length, drop, get_or, refl, sym, ap, ◌∙◌, arith}
use Rattle.std.specs.List.{AllZip}
use Rattle.std.proofs.Math.Seq.{drop-cons}
use Rattle.std.proofs.lemmas.List.{drop_all}
use Rattle.list_lemmas.proofs.Elements.{length-AllZip}
use Rattle.field_defs.specs.declared.field.FieldDef.{FieldDef}
use Rattle.field_defs.specs.declared.field.FieldValue.{FieldValue}
use Rattle.list_chains.specs.declared.span.Span.{Span}
use Rattle.list_chains.specs.Spans.{IsFieldSpan}
use Rattle.list_chains.specs.Values.{span_values, each_before, box_rows}
use Rattle.list_chains.proofs.LawfulRows.{rows_grow}

-- no spans have one row without values
pub rows_at_end : (layout : List FieldDef) (box : List Span) → AllZip IsFieldSpan layout box →
    [] ∷ [] ≡ box_rows (drop (length layout - 0) layout) (drop (length layout - 0) box)
rows_at_end layout box fits =
    let same = length-AllZip IsFieldSpan layout box fits in
    rw (drop_all (length layout - 0) layout (omega arith), drop_all (length layout - 0) box (omega (arith, same))) refl

-- the rows from a place on are those after it, with each value of its span before them
pub rows_at : (layout : List FieldDef) (box : List Span) (place : ℕ) (d : FieldDef) (s : Span) →
    AllZip IsFieldSpan layout box → place < length layout →
    box_rows (drop place layout) (drop place box)
    ≡ each_before (span_values (get_or layout place d) (get_or box place s))
    (box_rows (drop (suc place) layout) (drop (suc place) box))
rows_at layout box place d s fits within =
    let same = length-AllZip IsFieldSpan layout box fits in
    rw (drop-cons layout place d within, drop-cons box place s (omega (arith, same, within))) refl

-- the place of a turn, and of the one before
pub turn_places : (count gone : ℕ) → gone < count →
    (count - (gone + 1) ≡ count - 1 - gone) × (suc (count - 1 - gone) ≡ count - gone)
turn_places count gone below = (omega (arith, below), omega (arith, below))

-- a turn makes the rows from the place before on
pub more_rows : (layout : List FieldDef) (box : List Span) (gone : ℕ) (d : FieldDef) (s : Span)
    (values : List FieldValue) (rests : List (List FieldValue)) → AllZip IsFieldSpan layout box → gone < length layout →
    values ≡ span_values (get_or layout (length layout - 1 - gone) d) (get_or box (length layout - 1 - gone) s) →
    rests ≡ box_rows (drop (length layout - gone) layout) (drop (length layout - gone) box) →
    each_before values rests
    ≡ box_rows (drop (length layout - (gone + 1)) layout) (drop (length layout - (gone + 1)) box)
more_rows layout box gone d s values rests fits below its rest =
    let turn = turn_places (length layout) gone below in
    let place = length layout - 1 - gone in
    let after = rest ∙ ap (λ k. box_rows (drop k layout) (drop k box)) (sym turn.1) in
    (λ i. each_before (its i) (after i))
    ∙ sym (rows_at layout box place d s fits (omega (arith, below)))
    ∙ ap (λ k. box_rows (drop k layout) (drop k box)) (sym turn.0)

-- and no box has more of them than there are in all
pub rows_above : (layout : List FieldDef) (box : List Span) (gone most : ℕ) (rows : List (List FieldValue)) →
    AllZip IsFieldSpan layout box →
    rows ≡ box_rows (drop (length layout - (gone + 1)) layout) (drop (length layout - (gone + 1)) box) →
    most < length rows → most < length (box_rows layout box)
rows_above layout box gone most rows fits is above =
    let all = rows_grow (length layout - (gone + 1)) layout box fits in
    let many = ap (λ rs. length rs) is in
    omega (arith, all, many, above)
