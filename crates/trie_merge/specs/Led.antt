-- Where entries and parts lead from one place.
use Rattle.std.specs.Prelude.{◌≡◌, ℕ, ◌+◌, ◌<◌, ◌≤◌, List, [], length, true, Option, Some, ◌⊎◌}
use Rattle.std.specs.Prelude.{slice_index_or}
use Rattle.state_parts.specs.declared.pieces.Piece.{Piece}
use Rattle.state_parts.specs.declared.target.Target.{Target}
use Rattle.state_parts.specs.Keys.{has_entry}
use Rattle.state_parts.specs.Target.{count, Grows, HasEntry, IsFoundIn}
use Rattle.state_parts.specs.Pieces.{number_at, Covers, PiecesLead}
use Rattle.group_states.specs.Entry.{ColumnView, entry_step}

-- what a byte of the place makes of an entry
abbrev pub step_of : ColumnView → ℕ → ℕ → Option ℕ
step_of column byte entry = entry_step column entry byte

-- Some byte makes the one entry the other.
abbrev pub IsAfter : ColumnView → ℕ → ℕ → Type 0
IsAfter column entry after =
    (byte : ℕ) × (byte < 256) × (entry_step column entry byte ≡ Some after)

-- The pieces say what each byte makes of an entry.
pub record EntryLed (column : ColumnView) (entry : ℕ) (old new : Target) (pieces : List Piece) :
    Type 0 where
  pub grows : Grows old new
  pub entries : (other : ℕ) → HasEntry new other → HasEntry old other ⊎ IsAfter column entry other
  pub covers : Covers 0 pieces 256
  pub found : (byte : ℕ) → byte < 256 →
      IsFoundIn new (entry_step column entry byte) (number_at pieces byte)
  pub within : (byte : ℕ) → byte < 256 → number_at pieces byte ≤ count new

-- An entry among the pairs becomes the other.
abbrev pub ComesFrom : ColumnView → List (ℕ × ℕ) → ℕ → Type 0
ComesFrom column pairs after =
    (entry : ℕ) × (has_entry pairs entry ≡ true) × IsAfter column entry after

-- The pieces say where each byte leads from a part.
pub record PartLed (column : ColumnView) (pairs : List (ℕ × ℕ)) (part : ℕ) (old new : Target)
    (pieces : List Piece) : Type 0 where
  pub grows : Grows old new
  pub entries : (other : ℕ) → HasEntry new other → HasEntry old other ⊎ ComesFrom column pairs other
  pub covers : Covers 0 pieces 256
  pub leads : PiecesLead (step_of column) pairs new part pieces

-- The pieces of the first parts say where each byte leads from them.
pub record StepsLed (column : ColumnView) (pairs : List (ℕ × ℕ)) (target : Target)
    (steps : List (List Piece)) : Type 0 where
  pub few : length steps ≤ length pairs
  pub covers : (k : ℕ) → k < length steps → Covers 0 (slice_index_or steps k []) 256
  pub leads : (k : ℕ) → k < length steps →
      PiecesLead (step_of column) pairs target (k + 1) (slice_index_or steps k [])

-- So they do once more parts are worked out.
pub record AllLed (column : ColumnView) (pairs : List (ℕ × ℕ)) (old new : Target)
    (steps : List (List Piece)) : Type 0 where
  pub grows : Grows old new
  pub entries : (other : ℕ) → HasEntry new other → HasEntry old other ⊎ ComesFrom column pairs other
  pub led : StepsLed column pairs new steps
