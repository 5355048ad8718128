-- Up to sixty-four walks, each in a lane, and what it means to give lanes other places.
use Rattle.std.specs.Prelude.{◌≡◌, ◌⊎◌, ℕ, ◌<◌, ◌≤◌, ◌%◌, List, [], length, slice_index, slice_index_or}
use Rattle.std.specs.Prelude.{if◌then◌else◌}
use Rattle.flat_table.specs.Word.{indexes, is_match}
use Rattle.scalar_walk.specs.declared.wide.Lanes.{Lanes}
use Rattle.scalar_walk.specs.Lanes.{ended, sum_below, word_in}

-- so many keys are some, and each has a lane
pub record HaveLanes (count : ℕ) : Type 0 where
  pub some : 0 < count
  pub few : count ≤ 64

-- the word at which the walk of a lane stands
abbrev pub word_of : Lanes → ℕ → ℕ
word_of lanes j = word_in lanes.lows lanes.highs j

-- the number of its key
abbrev pub number_of : Lanes → ℕ → ℕ
number_of lanes j = slice_index lanes.keys j

-- number i of those of four f
abbrev pub in_four : List (List ℕ) → ℕ → ℕ → ℕ
in_four numbers f i = slice_index (slice_index_or numbers f []) i

-- 1 if the walk of a lane is on its way
abbrev pub goes : Lanes → ℕ → ℕ
goes lanes j = if is_match (word_of lanes j) then 0 else 1

-- how many of so many lanes are on their way
abbrev pub going : Lanes → ℕ → ℕ
going lanes count = sum_below (goes lanes) count

-- what four numbers are together
abbrev pub together : List ℕ → ℕ
together numbers = sum_below (slice_index numbers) 4

-- lane j of some lanes has the walk that lane i of others has
pub record HasWalk (old : Lanes) (i : ℕ) (new : Lanes) (j : ℕ) : Type 0 where
  pub low : slice_index new.lows j ≡ slice_index old.lows i
  pub high : slice_index new.highs j ≡ slice_index old.highs i
  pub key : number_of new j ≡ number_of old i

-- a row is the one that a lane of the first so many names which walks the key of this number
pub record IsNamed (lanes : Lanes) (count key row : ℕ) : Type 0 where
  pub lane : ℕ
  pub there : lane < count
  pub walks : number_of lanes lane ≡ key
  pub names : row ≡ slice_index lanes.lows lane % indexes

-- The first of the lanes, so many, have written the rows that they name, and the others stay: at
-- the number of its key stands a row that a lane with that key names.
pub record AreWritten (lanes : Lanes) (count : ℕ) (old new : List ℕ) : Type 0 where
  pub len : length new ≡ length old
  pub each : (j : ℕ) → j < count →
      IsNamed lanes count (number_of lanes j) (slice_index new (number_of lanes j))
  pub only : (k : ℕ) →
      IsNamed lanes count k (slice_index new k) ⊎ (slice_index new k ≡ slice_index old k)

-- The first of the lanes, so many, have written their rows and closed ranks: those on their way
-- have the first places, and what is summed over keys stays if it is 0 for those that have ended.
pub record AreClosed (old new : Lanes) (count kept : ℕ) (before rows : List ℕ) : Type 0 where
  pub few : kept ≤ count
  pub written : AreWritten old count before rows
  pub from : (j : ℕ) → j < kept → (i : ℕ) × (i < count) × HasWalk old i new j
  pub to : (i : ℕ) → i < count → slice_index old.lows i < ended →
      (j : ℕ) × (j < kept) × HasWalk old i new j
  pub others : (j : ℕ) → count ≤ j → HasWalk old j new j
  pub keys : (j : ℕ) → j < count → (i : ℕ) × (i < count) × (number_of new j ≡ number_of old i)
  pub sums : (f : ℕ → ℕ) →
      ((i : ℕ) → i < count → ended ≤ slice_index old.lows i → f (number_of old i) ≡ 0) →
      sum_below (λ j. f (number_of new j)) kept ≡ sum_below (λ i. f (number_of old i)) count
