-- What lanes keep over a table of one trie whose places stand one after the other, and what a
-- turn makes of it.
use Rattle.std.specs.Prelude.{◌≡◌, ℕ, zero, suc, ◌+◌, ◌*◌, ◌%◌, ◌^◌, ◌<◌, ◌≤◌, ◌⊎◌, List, []}
use Rattle.std.specs.Prelude.{length, drop, set}
use Rattle.std.specs.Prelude.{nat_lt, slice_index, slice_index_or, true, if◌then◌else◌}
use Rattle.std.specs.Prelude.{map}
use Rattle.std.specs.List.{range_with_len}
use Rattle.std.specs.Int.{bit_at}
use Rattle.flat_table.specs.Table.{TableView, places_of}
use Rattle.flat_table.specs.Walk.{root_of}
use Rattle.flat_table.specs.Word.{is_node, next_place}
use Rattle.flat_table.specs.Batch.{keys_in}
use Rattle.scalar_walk.specs.Lanes.{ended, word_in}
use Rattle.table_sizes.specs.Groups.{max_key_len}
use Rattle.table_sizes.specs.Sizes.{max_keys}
use Rattle.lane_walk.specs.declared.fleet.Course.{Course}
use Rattle.lane_walk.specs.declared.fleet.Fleet.{Fleet}
use Rattle.lane_walk.specs.declared.walks.Walks.{Walks}

-- the places stand one after the other
abbrev pub IsStraight : List ℕ → Type 0
IsStraight places =
    (depth : ℕ) → depth < length places → slice_index places depth ≡ slice_index places 0 + depth

-- what lanes go by over the table and keys
pub record IsCourse (table : TableView) (keys : List ℕ) (course : Course) : Type 0 where
  pub one : length table.roots ≡ 1
  pub straight : IsStraight (places_of table 0)
  pub jobs : course.jobs ≡ keys_in table keys
  pub few : course.jobs ≤ max_keys
  pub len : course.len ≡ table.key_len
  pub short : course.len ≤ max_key_len
  pub first : course.first ≡ slice_index (places_of table 0) 0
  pub near : course.first < 2 ^ 16
  pub root : course.root ≡ root_of table 0

-- how many of the bits below n are set
unfoldable pub set_below : ℕ → ℕ → ℕ
set_below mask zero = 0
set_below mask (suc n) = set_below mask n + bit_at mask n

-- 1 if the low half of the word is that of a match, and so it ends a walk
abbrev pub over_bit : ℕ → ℕ
over_bit word = if nat_lt (word % 2 ^ 32) ended then 0 else 1

-- what is noted for a key
abbrev pub noted_of : List (List ℕ) → ℕ → ℕ
noted_of rows key = slice_index (slice_index_or rows key []) 0

-- a lane takes the word after its own by the byte at its place, if there are these, and then reads
-- the next byte
pub record TakesNext (words bytes : List ℕ) (word at new_word new_at : ℕ) : Type 0 where
  pub word_is : is_node word ≡ true → at < length bytes →
      next_place word (slice_index bytes at) < length words →
      new_word ≡ slice_index words (next_place word (slice_index bytes at))
  pub place : new_at ≡ (at + 1) % 2 ^ 32

-- the first words of these low and high halves, so many
abbrev pub words_of : ℕ → List ℕ → List ℕ → List ℕ
words_of n lows highs = map (λ lane. word_in lows highs lane) (range_with_len 0 n)

-- ---- fleets of so many lanes
module _ {W : ℕ} where
  -- the lane of a fleet takes its next word
  abbrev pub StepsOn : List ℕ → List ℕ → Fleet W → Fleet W → ℕ → Type 0
  StepsOn words bytes old new lane = TakesNext words bytes (slice_index old.words lane)
      (slice_index old.ats lane) (slice_index new.words lane) (slice_index new.ats lane)

  -- the lane with the walk of the next job, at the root
  abbrev pub set_out : Fleet W → ℕ → Fleet W
  set_out old lane = record {
    course = old.course;
    given = old.given + 1;
    words = set old.words lane old.course.root;
    ats = set old.ats lane ((old.given * old.course.len + old.course.first) % 2 ^ 32);
    keys = set old.keys lane old.given;
  }

  -- the lane with this word again
  abbrev pub with_word : Fleet W → ℕ → ℕ → Fleet W
  with_word old lane word = record {
    course = old.course;
    given = old.given;
    words = set old.words lane word;
    ats = old.ats;
    keys = old.keys;
  }

  -- the row that an empty lane names is noted, and it takes the next job; or none is left
  pub record SettlesLane (lane word : ℕ) (old new : Fleet W) (rows now : List (List ℕ))
      : Type 0 where
    pub job : old.given < old.course.jobs → new ≡ set_out old lane
    pub noted : old.given < old.course.jobs →
        now ≡ set rows (slice_index old.keys lane)
        (set (slice_index_or rows (slice_index old.keys lane) []) 0 word)
    pub number : old.given < old.course.jobs →
        noted_of now (slice_index old.keys lane) ≡ word
    pub idle : old.course.jobs ≤ old.given → new ≡ with_word old lane word
    pub same : old.course.jobs ≤ old.given → now ≡ rows

  -- the lane stands at the root of the walk of this key
  pub record IsBegun (now : Fleet W) (lane key : ℕ) : Type 0 where
    pub word : slice_index now.words lane ≡ now.course.root
    pub at : slice_index now.ats lane ≡ (key * now.course.len + now.course.first) % 2 ^ 32
    pub key_is : slice_index now.keys lane ≡ key

  -- The first lanes of those that the mask says were empty with these words, and went on from one
  -- fleet, were settled: each noted its word and took a job, or keeps its word.
  pub record SettledTo (mask n : ℕ) (words : List ℕ) (from now : Fleet W)
      (rows new : List (List ℕ)) : Type 0 where
    pub some : from.given + set_below mask n ≤ from.course.jobs →
        now.given ≡ from.given + set_below mask n
    pub all : from.course.jobs ≤ from.given + set_below mask n →
        now.given ≡ from.course.jobs
    pub course : now.course ≡ from.course
    pub walks : (lane : ℕ) → (bit_at mask lane ≡ 0) ⊎ (n ≤ lane) →
        slice_index now.keys lane ≡ slice_index from.keys lane
    pub begins : (lane : ℕ) → lane < n → bit_at mask lane ≡ 1 →
        from.given + set_below mask lane < from.course.jobs →
        IsBegun now lane (from.given + set_below mask lane)
    pub rests : (lane : ℕ) → lane < n → bit_at mask lane ≡ 1 →
        from.course.jobs ≤ from.given + set_below mask lane →
        (slice_index now.words lane ≡ slice_index words lane)
        × (slice_index now.keys lane ≡ slice_index from.keys lane)
    pub noted : (lane : ℕ) → lane < n → bit_at mask lane ≡ 1 →
        from.given + set_below mask lane < from.course.jobs →
        (other : ℕ) × (other < n) × (bit_at mask other ≡ 1)
        × (slice_index from.keys other ≡ slice_index from.keys lane)
        × (noted_of new (slice_index from.keys lane) ≡ slice_index words other)
    pub others : (key : ℕ) → (noted_of new key ≡ noted_of rows key)
        ⊎ ((from.given < from.course.jobs) × ((lane : ℕ) × (lane < n) × (bit_at mask lane ≡ 1)
        × (slice_index from.keys lane ≡ key) × (noted_of new key ≡ slice_index words lane)))
    pub small : (lane : ℕ) → lane < W → slice_index now.keys lane < from.course.jobs
    pub len : length new ≡ length rows
    pub past : drop from.course.jobs new ≡ drop from.course.jobs rows

  -- each lane that was not empty took a word, and those that were, which a mask says, were settled
  pub record TurnsAll (words bytes : List ℕ) (old new : Fleet W) (rows now : List (List ℕ))
      (busy : ℕ) : Type 0 where
    pub empty : ℕ
    pub bits : (lane : ℕ) → lane < W →
        bit_at empty lane ≡ over_bit (slice_index old.words lane)
    pub steps : (lane : ℕ) → lane < W → bit_at empty lane ≡ 0 → StepsOn words bytes old new lane
    pub settled : SettledTo empty W old.words old new rows now
    pub busy_is : busy + set_below empty W ≡ W

  -- ---- their walks

  -- the words at which they stand
  abbrev pub words_in : Walks W → List ℕ
  words_in walks = words_of W walks.lows walks.highs

  -- the fleet as its walks go: their words, and the places of the bytes that they read next
  abbrev pub fleet_of : Walks W → Fleet W → Fleet W
  fleet_of walks fleet = record {
    course = fleet.course;
    given = fleet.given;
    words = words_in walks;
    ats = walks.ats;
    keys = fleet.keys;
  }

  -- the lane has the byte at its place, if there is one
  abbrev pub HasByte : List ℕ → Walks W → ℕ → Type 0
  HasByte bytes walks lane = slice_index walks.ats lane < length bytes →
      slice_index walks.bytes lane ≡ slice_index bytes (slice_index walks.ats lane)

  -- the lane took what the fleet had for it
  pub record IsAcross (bytes : List ℕ) (fleet : Fleet W) (new : Walks W) (lane : ℕ) : Type 0 where
    pub word_is : word_in new.lows new.highs lane ≡ slice_index fleet.words lane
    pub place : slice_index new.ats lane ≡ slice_index fleet.ats lane
    pub byte : HasByte bytes new lane

  -- the lane took the word after its own by its byte, if there is this, and reads the next byte; or
  -- it was empty, and took what the fleet had for it
  pub record GoesOn (words bytes : List ℕ) (fleet : Fleet W) (old new : Walks W) (lane : ℕ)
      : Type 0 where
    pub word_is : over_bit (word_in old.lows old.highs lane) ≡ 0 →
        is_node (word_in old.lows old.highs lane) ≡ true →
        slice_index old.bytes lane < 256 →
        next_place (word_in old.lows old.highs lane) (slice_index old.bytes lane) < length words →
        word_in new.lows new.highs lane ≡ slice_index words
        (next_place (word_in old.lows old.highs lane) (slice_index old.bytes lane))
    pub place : over_bit (word_in old.lows old.highs lane) ≡ 0 →
        slice_index new.ats lane ≡ (slice_index old.ats lane + 1) % 2 ^ 32
    pub across : over_bit (word_in old.lows old.highs lane) ≡ 1 → IsAcross bytes fleet new lane
    pub byte : HasByte bytes new lane

  -- the lane stands where it stood
  pub record StaysIn (old new : Walks W) (lane : ℕ) : Type 0 where
    pub low : slice_index new.lows lane ≡ slice_index old.lows lane
    pub high : slice_index new.highs lane ≡ slice_index old.highs lane
    pub place : slice_index new.ats lane ≡ slice_index old.ats lane
    pub byte : slice_index new.bytes lane ≡ slice_index old.bytes lane

-- each lane that was used notes its word, and nothing else is noted
pub record NotesLast (used jobs : ℕ) (words keys_of : List ℕ) (rows new : List (List ℕ))
    : Type 0 where
  pub noted : (lane : ℕ) → lane < used → (other : ℕ) × (other < used)
      × (slice_index keys_of other ≡ slice_index keys_of lane)
      × (noted_of new (slice_index keys_of lane) ≡ slice_index words other)
  pub others : (key : ℕ) → (noted_of new key ≡ noted_of rows key)
      ⊎ ((lane : ℕ) × (lane < used) × (slice_index keys_of lane ≡ key)
      × (noted_of new key ≡ slice_index words lane))
  pub len : length new ≡ length rows
  pub past : drop jobs new ≡ drop jobs rows
