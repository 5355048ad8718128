-- Rows that are made zero, one after the other.
use Rattle.std.proofs.Common.{◌≡◌, ℕ, ◌+◌, ◌<◌, ◌≤◌, List, [], ◌∷◌, ◌++◌, sym, ap, ◌∙◌, arith, length, set, drop}
use Rattle.std.proofs.Common.{append_assoc, length-append, length-drop}
use Rattle.std.specs.Prelude.{replicate}
use Rattle.std.proofs.lemmas.List.{drop_more, length-replicate, replicate-append-replicate, set_at}
use Rattle.flow_core.specs.Rows.{zero_row, cleared}

-- one row more
pub cleared_more : (rows : List (List ℕ)) (k : ℕ) → k < length rows →
    set (cleared k rows) k zero_row ≡ cleared (k + 1) rows
cleared_more rows k within =
    let zeros : List (List ℕ) = replicate k zero_row in
    let rest : List (List ℕ) = drop (k + 1) rows in
    ap (λ (after : List (List ℕ)). set (zeros ++ after) k zero_row) (drop_more rows k [] within)
    ∙ set_at zeros _ rest zero_row k (length-replicate k zero_row)
    ∙ sym (append_assoc zeros (zero_row ∷ []) rest)
    ∙ ap (λ (before : List (List ℕ)). before ++ rest) (replicate-append-replicate k 1 zero_row)

-- they are as many as before
pub cleared_len : (k : ℕ) (rows : List (List ℕ)) → k ≤ length rows → length (cleared k rows) ≡ length rows
cleared_len k rows few = omega (
  arith,
  length-append (replicate k zero_row) (drop k rows),
  length-replicate k zero_row,
  length-drop k rows,
  few,
)
