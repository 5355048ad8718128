-- What a part leads to byte by byte, as pieces of neighbouring bytes.
use Rattle.std.specs.Prelude.{◌≡◌, ℕ, ◌+◌, ◌<◌, ◌≤◌, ◌==◌, List, [], ◌∷◌, length, get_or, nat_le, false}
use Rattle.std.specs.Prelude.{Option, if◌then◌else◌}
use Rattle.state_parts.specs.declared.pieces.Piece.{Piece}
use Rattle.state_parts.specs.declared.target.Target.{Target}
use Rattle.state_parts.specs.Keys.{KeyAt, same_pair}
use Rattle.state_parts.specs.Target.{Leads, Grows, HasEntry}

-- what a byte leads to: the first piece that ends with it or after it
abbrev pub number_at : List Piece → ℕ → ℕ
number_at [] byte = 0
number_at (piece ∷ pieces) byte =
    if nat_le byte piece.last then piece.to else number_at pieces byte

-- The pieces part the bytes from the one to before the other.
abbrev pub Covers : ℕ → List Piece → ℕ → Type 0
Covers first [] end = first ≡ end
Covers first (piece ∷ pieces) end = (first ≤ piece.last) × Covers (piece.last + 1) pieces end

-- what stands past the last piece
abbrev pub no_piece : Piece
no_piece = record { last = 0; to = 0 }

-- Neighbours lead to different numbers.
abbrev pub AreApart : List Piece → Type 0
AreApart pieces = (k : ℕ) → k + 1 < length pieces →
    ((get_or pieces k no_piece).to == (get_or pieces (k + 1) no_piece).to) ≡ false

-- The pieces say where each byte leads from a part.
abbrev pub PiecesLead : (ℕ → ℕ → Option ℕ) → List (ℕ × ℕ) → Target → ℕ → List Piece → Type 0
PiecesLead step pairs target part pieces =
    (byte : ℕ) → byte < 256 → Leads (step byte) pairs target part (number_at pieces byte)

-- Further bytes up to the last lead to the number, and neighbours to one number are one piece.
pub record Pushed (old new : List Piece) (last to : ℕ) : Type 0 where
  pub covers : (first : ℕ) → Covers 0 old first → first ≤ last → Covers 0 new (last + 1)
  pub before : (first byte : ℕ) → Covers 0 old first → first ≤ last → byte < first →
      number_at new byte ≡ number_at old byte
  pub here : (first byte : ℕ) → Covers 0 old first → first ≤ byte → byte ≤ last →
      number_at new byte ≡ to
  pub apart : AreApart old → AreApart new

-- The pieces are those of a pair, where the two lists of pieces are those of its parts. Neighbours
-- to one number are one piece.
pub record Merges (old new : Target) (one other pieces : List Piece) : Type 0 where
  pub grows : Grows old new
  pub entries : (entry : ℕ) → HasEntry new entry → HasEntry old entry
  pub covers : Covers 0 pieces 256
  pub apart : AreApart pieces
  pub leads : (step : ℕ → ℕ → Option ℕ) (pairs : List (ℕ × ℕ)) (left right part : ℕ) →
      KeyAt same_pair pairs (left, right) part → 0 < left → 0 < right →
      PiecesLead step pairs old left one → PiecesLead step pairs old right other →
      PiecesLead step pairs new part pieces
