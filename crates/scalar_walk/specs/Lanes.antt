-- Four walks at once, a lane for each: lane i of each vector is that of walk i.
use Rattle.std.specs.Prelude.{◌≡◌, ◌⊎◌, ℕ, zero, suc, ◌+◌, ◌-◌, ◌*◌, ◌^◌, ◌<◌, ◌≤◌, min, List, slice_index}
use Rattle.std.specs.Prelude.{flat_map, nat_lt, ◌&&◌, if◌then◌else◌}
use Rattle.std.specs.List.{range_with_len}

-- the word whose low and high halves lane i of two vectors has
abbrev pub word_in : List ℕ → List ℕ → ℕ → ℕ
word_in lows highs i = slice_index lows i + 2 ^ 32 * slice_index highs i

-- how many bytes are read at once: one, or a group of four
abbrev pub IsGroupLen : ℕ → Type 0
IsGroupLen count = (count ≡ 1) ⊎ (count ≡ 4)

-- the key that a lane walks of so many: its own, or the last where there are no more
abbrev pub lane_key : ℕ → ℕ → ℕ
lane_key count lane = min lane (count - 1)

-- how many of four lanes, from one on, have a key of their own
abbrev pub own_lanes : ℕ → ℕ → ℕ
own_lanes count first = min (count - first) 4

-- so many fours of lanes, at most four, have a lane for each of so many keys
pub record HasLanes (fours count : ℕ) : Type 0 where
  pub some : 0 < count
  pub few : fours ≤ 4
  pub enough : count ≤ 4 * fours

-- there is room, for sixteen or for sixty-four, for so many keys that are walked together
pub record HasRoom (room count : ℕ) : Type 0 where
  pub of : (room ≡ 16) ⊎ (room ≡ 64)
  pub few : count ≤ room

-- the sum of a function over the numbers below n
unfoldable pub sum_below : (ℕ → ℕ) → ℕ → ℕ
sum_below f zero = 0
sum_below f (suc n) = sum_below f n + f n

-- the low half of the least word that ends a walk
abbrev pub ended : ℕ
ended = 2 ^ 31

-- a low half is that of a word that ends a walk
abbrev pub IsEnded : ℕ → Type 0
IsEnded low = (ended ≤ low) × (low < 2 ^ 32)

-- after n of so many places all are read, or the walks of a four, if it is one of so many, have
-- ended
abbrev pub HaveEnded : ℕ → ℕ → ℕ → ℕ → List ℕ → Type 0
HaveEnded places n four fours lows = (places ≤ n) ⊎ (four < fours → (i : ℕ) → i < 4 →
    IsEnded (slice_index lows i))

-- 1 if the lane is one of the first of so many, and its low half is that of a word on the way
abbrev pub counts : List ℕ → ℕ → ℕ → ℕ
counts lows own lane = if nat_lt lane own && nat_lt (slice_index lows lane) ended then 1 else 0

-- what the first of four lanes, so many, took together
unfoldable pub counted : List ℕ → ℕ → ℕ
counted taken own = sum_below (λ lane. if nat_lt lane own then slice_index taken lane else 0) 4

-- what a function gives for each number below n, one after the other
unfoldable pub pieces_below : {A : Type 0} → (ℕ → List A) → ℕ → List A
pieces_below f n = flat_map f (range_with_len 0 n)
