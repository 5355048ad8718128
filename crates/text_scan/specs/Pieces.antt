-- Pieces of 16 bits that were read from an address so far.
use Rattle.std.specs.Prelude.{ℕ, ◌+◌, ◌*◌, List, length}
use Rattle.std.specs.List.{fold}
use Rattle.text_scan.specs.declared.pieces.Pieces.{Pieces}

-- the same with more pieces after them
abbrev pub with_pieces : Pieces → List ℕ → Pieces
with_pieces before more = record {
  count = before.count + length more;
  value = fold (λ n x. n * 65536 + x) before.value more;
}

-- the pieces of a list, from none on
abbrev pub pieces_from : List ℕ → Pieces
pieces_from pieces = with_pieces (record { count = 0; value = 0 }) pieces
