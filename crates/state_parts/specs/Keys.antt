-- Keys that are numbered in the order in which they come. Number 0 stands for nothing, and the
-- first key has number 1.
use Rattle.std.specs.Prelude.{◌≡◌, ℕ, ◌+◌, ◌<◌, ◌≤◌, ◌==◌, ◌&&◌, List, length, slice_index_or}
use Rattle.std.specs.Prelude.{Bool, true}
use Rattle.std.specs.List.{list_any, position_or_len}

-- The key is among the keys, and this is its number.
pub record KeyAt {X : Type 0} (same : X → X → Bool) (keys : List X) (key : X) (number : ℕ) : Type 0
  where
    pub there : list_any (same key) keys ≡ true
    pub at : number ≡ position_or_len (same key) keys + 1

-- two pairs of numbers are one
abbrev pub same_pair : ℕ × ℕ → ℕ × ℕ → Bool
same_pair one other = one.0 == other.0 && one.1 == other.1

-- The parts are lower than the pair that is made of them, and there. A pair whose left part is 0 is
-- an entry.
abbrev pub AreLower : List (ℕ × ℕ) → Type 0
AreLower pairs = (k : ℕ) → k < length pairs → 0 < (slice_index_or pairs k (0, 0)).0 →
    ((slice_index_or pairs k (0, 0)).0 ≤ k) × (0 < (slice_index_or pairs k (0, 0)).1)
    × ((slice_index_or pairs k (0, 0)).1 ≤ k)

-- No pair stands twice.
abbrev pub AreDistinct : List (ℕ × ℕ) → Type 0
AreDistinct pairs = (k : ℕ) → k < length pairs →
    KeyAt same_pair pairs (slice_index_or pairs k (0, 0)) (k + 1)

-- the entry is among the pairs
abbrev pub has_entry : List (ℕ × ℕ) → ℕ → Bool
has_entry pairs entry = list_any (same_pair (0, entry)) pairs
