-- Pairs that are found by buckets: a bucket names its last pair, and each pair the one before it.
-- Number 0 is no pair, and the first pair has number 1.
use Rattle.std.specs.Prelude.{◌≡◌, ℕ, ◌+◌, ◌-◌, ◌*◌, ◌/◌, ◌%◌, ◌^◌, ◌<◌, ◌≤◌, ◌==◌, List, length}
use Rattle.std.specs.Prelude.{slice_index_or, false}
use Rattle.state_parts.specs.declared.pair_set.Linked.{Linked}
use Rattle.state_parts.specs.Keys.{same_pair}

-- the pairs in the order in which they come
pub record PairSetView : Type 0 where
  pub keys : List (ℕ × ℕ)

-- the pair
abbrev pub pair_in : Linked → ℕ × ℕ
pair_in linked = (linked.left, linked.right)

-- the tile of that place, of so many tiles
unfoldable pub tile_of : ℕ × ℕ → ℕ → ℕ
tile_of place tiles =
    (place.0 * 4294967296 + place.1) * 11400714819323198485 % 2 ^ 64 * tiles / 2 ^ 64

-- the bucket of a pair, where there are so many: one of the 64 of its tile
unfoldable pub bucket_of : ℕ × ℕ → ℕ → ℕ
bucket_of pair buckets =
    tile_of (pair.0 / 64, pair.1 / 64) (buckets / 64) * 64 + (pair.0 * 11 + pair.1) % 64

-- what stands past the last pair
abbrev pub no_pair : Linked
no_pair = record { left = 0; right = 0; before = 0 }

-- the bucket of the pair at a place
abbrev pub bucket_at : List Linked → ℕ → ℕ → ℕ
bucket_at all buckets k = bucket_of (pair_in (slice_index_or all k no_pair)) buckets

-- Of the pairs before an end the number is that of the last one in the bucket, or 0.
pub record IsLast (all : List Linked) (buckets bucket end number : ℕ) : Type 0 where
  pub within : number ≤ end
  pub its : 0 < number → bucket_at all buckets (number - 1) ≡ bucket
  pub none : (k : ℕ) → number ≤ k → k < end → (bucket_at all buckets k == bucket) ≡ false

-- Each bucket names its last pair, and each pair the one before it in its bucket.
pub record AreLinked (all : List Linked) (heads : List ℕ) : Type 0 where
  pub some : 64 ≤ length heads
  pub last : (bucket : ℕ) → bucket < length heads →
      IsLast all (length heads) bucket (length all) (slice_index_or heads bucket 0)
  pub before : (k : ℕ) → k < length all →
      IsLast all (length heads) (bucket_at all (length heads) k) k
      (slice_index_or all k no_pair).before

-- No pair from a number on, counted from 0, is that one.
abbrev pub NoneFrom : List Linked → ℕ × ℕ → ℕ → Type 0
NoneFrom all pair first = (k : ℕ) → first ≤ k → k < length all →
    same_pair pair (pair_in (slice_index_or all k no_pair)) ≡ false
