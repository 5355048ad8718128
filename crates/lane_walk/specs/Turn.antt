-- A turn of all slots of a flow machine, which a walk by lanes takes at once.
use Rattle.std.specs.Prelude.{◌≡◌, ℕ, ◌+◌, ◌<◌, ◌⊎◌, List, [], count_by, not, Option, Some, None, Bool}
use Rattle.std.specs.Prelude.{length, take, drop, if◌then◌else◌, true, false, slice_index_or}
use Rattle.std.specs.Prelude.{slice_index, All, IfSome, map}
use Rattle.std.specs.List.{range_with_len}
use Rattle.flat_table.specs.Table.{TableView}
use Rattle.flow_core.specs.declared.flight.Flight.{Flight}
use Rattle.flat_table.specs.Word.{index_of, is_match, is_node, next_place}
use Rattle.table_sizes.specs.Sizes.{row_len}
use Rattle.flat_table.specs.Walk.{greatest, walk_row}
use Rattle.flat_table.specs.Batch.{key_at, keys_in}
use Rattle.flow_core.specs.Rows.{noted_in}
use Rattle.flow_core.specs.Jobs.{Job, job_at}
use Rattle.flow_core.specs.Machine.{Machine, FlowState, state_of, flow_run, is_empty, byte_of}
use Rattle.flow_core.specs.Standing.{StandsOver, job_of}
use Rattle.flow_core.specs.Invariant.{IsInWalk}

-- how many lanes there may be
abbrev pub IsLanes : ℕ → Type 0
IsLanes width = (width ≡ 4) ⊎ (width ≡ 8) ⊎ (width ≡ 16)

-- the slot holds a flight
abbrev pub is_busy : Option Flight → Bool
is_busy held = not (is_empty held)

-- how many slots hold one
abbrev pub busy_slots : Machine → ℕ
busy_slots machine = count_by is_busy machine.slots

-- the state after a step of each of so many slots, in order
abbrev pub flow_turn : TableView → List ℕ → ℕ → FlowState → FlowState
flow_turn table keys width old = flow_run table keys old (range_with_len 0 width)

-- ---- what lanes keep

-- the slot of which a lane keeps this: it is empty where the word is a match
abbrev pub held_in : Flight → Option Flight
held_in flight = if is_match flight.word then None else Some flight

-- a lane keeps no word but a match and such as lead to nodes
abbrev pub EndsOrLeads : Flight → Type 0
EndsOrLeads flight = is_match flight.word ≡ false → is_node flight.word ≡ true

-- the flight of no lane
abbrev pub no_one : Flight
no_one = record { key = 0; trie = 0; depth = 0; word = 0 }

-- four slots hold a flight each, from one on
abbrev pub AreBusy : Machine → ℕ → Type 0
AreBusy machine first =
    (k : ℕ) → k < 4 → is_busy (slice_index_or machine.slots (first + k) None) ≡ true

-- four slots are empty, from one on
abbrev pub AreIdle : Machine → ℕ → Type 0
AreIdle machine first =
    (k : ℕ) → k < 4 → is_busy (slice_index_or machine.slots (first + k) None) ≡ false

-- the word and the byte are those by which the slot goes on, if it is busy
abbrev pub GoesBy : TableView → List ℕ → Option Flight → ℕ → ℕ → Type 0
GoesBy table keys held word byte =
    IfSome held (λ flight. (word ≡ flight.word) × (byte ≡ byte_of table keys flight))

-- the place is that of the word that the slot takes next, if it is busy
abbrev pub IsPlaceOf : TableView → List ℕ → Option Flight → ℕ → Type 0
IsPlaceOf table keys held place =
    IfSome held (λ flight. place ≡ next_place flight.word (byte_of table keys flight))

-- the flight came to a word that a lane may keep, and there is a row for a match and for its key
pub record HasCome (table : TableView) (flight : Flight) (rows : ℕ) : Type 0 where
  pub lawful : EndsOrLeads flight
  pub row : is_match flight.word ≡ true → index_of flight.word < length table.rows
  pub key : flight.key < rows

-- there is a place for the note of the flight's word
pub record HasRoom (flight : Flight) (rows : ℕ) : Type 0 where
  pub key : flight.key < rows
  pub trie : flight.trie < row_len

-- so many slots were stepped, from one on and in order, and the later ones hold what they held
pub record StepsLanes (table : TableView) (keys : List ℕ) (before : Machine) (old : List (List ℕ))
    (from count : ℕ) (now : Machine) (rows : List (List ℕ)) (busy : ℕ) : Type 0 where
  pub state : state_of table keys now rows
      ≡ flow_run table keys (state_of table keys before old) (range_with_len from count)
  pub stands : StandsOver table keys now (length rows)
  pub others : drop (keys_in table keys) rows ≡ drop (keys_in table keys) old
  pub later : drop (from + count) now.slots ≡ drop (from + count) before.slots
  pub busy_is : busy ≡ count_by is_busy (take count (drop from before.slots))

-- ---- lanes that note the words to which their walks come

-- a job is on its way in a slot
abbrev pub IsHeldIn : List (Option Flight) → Job → Type 0
IsHeldIn slots job = (lane : ℕ) × (flight : Flight)
    × (slice_index_or slots lane None ≡ Some flight) × (job_of flight ≡ job)

-- a word that names the row which its walk reaches is noted: in the row of its key, as the word of
-- its trie; and there is such a row
abbrev pub IsNotedAs : TableView → List ℕ → List (List ℕ) → Job → Type 0
IsNotedAs table keys rows job = (index_of (slice_index (slice_index_or rows job.key []) job.trie)
    ≡ walk_row table job.trie (key_at table keys job.key))
    × (walk_row table job.trie (key_at table keys job.key) < length table.rows)

-- each busy slot holds a walk as far as it went, and each job given out is on its way, or its row
-- is noted
pub record AreNoted (table : TableView) (keys : List ℕ) (machine : Machine) (rows : List (List ℕ))
    : Type 0 where
  pub flights : All (λ held. IfSome held (IsInWalk table keys machine.given)) machine.slots
  pub each : (n : ℕ) → n < machine.given →
      IsHeldIn machine.slots (job_at table n) ⊎ IsNotedAs table keys rows (job_at table n)

-- the word of a flight is noted, and stands there
pub record Notes (flight : Flight) (word : ℕ) (old new : List (List ℕ)) : Type 0 where
  pub rows : new ≡ noted_in flight.key flight.trie word old
  pub number : slice_index (slice_index_or new flight.key []) flight.trie ≡ word

-- the words of four flights are noted, from one on and in order
pub record NotesFour (flights : List Flight) (first : ℕ) (old new : List (List ℕ)) : Type 0 where
  pub one : List (List ℕ)
  pub two : List (List ℕ)
  pub three : List (List ℕ)
  pub first_is : Notes (slice_index_or flights first no_one)
      (slice_index_or flights first no_one).word old one
  pub second_is : Notes (slice_index_or flights (first + 1) no_one)
      (slice_index_or flights (first + 1) no_one).word one two
  pub third_is : Notes (slice_index_or flights (first + 2) no_one)
      (slice_index_or flights (first + 2) no_one).word two three
  pub fourth_is : Notes (slice_index_or flights (first + 3) no_one)
      (slice_index_or flights (first + 3) no_one).word three new

-- the machine after a step of each of so many slots, in order, whatever the rows of its state are
abbrev pub IsAfterRun : TableView → List ℕ → Machine → List ℕ → Machine → Type 0
IsAfterRun table keys before slots now = (rows : List (List ℕ)) → now
    ≡ (flow_run table keys (record { machine = before; rows = rows }) slots).machine

-- So many slots were stepped, from one on and in order, and the later ones hold what they held. The
-- words to which walks came are noted.
pub record NotesLanes (table : TableView) (keys : List ℕ) (before : Machine)
    (old : List (List ℕ)) (from count : ℕ) (now : Machine) (rows : List (List ℕ)) (busy : ℕ)
    : Type 0 where
  pub machine : IsAfterRun table keys before (range_with_len from count) now
  pub stands : StandsOver table keys now (length rows)
  pub len : length rows ≡ length old
  pub others : drop (keys_in table keys) rows ≡ drop (keys_in table keys) old
  pub later : drop (from + count) now.slots ≡ drop (from + count) before.slots
  pub busy_is : busy ≡ count_by is_busy (take count (drop from before.slots))
  pub noted : AreNoted table keys before old → AreNoted table keys now rows

-- of each key and trie the row is noted, and it is one of the table
pub record AreAllNoted (table : TableView) (keys : List ℕ) (rows : List (List ℕ)) : Type 0 where
  pub each : (key trie : ℕ) → key < keys_in table keys → trie < length table.roots →
      index_of (slice_index (slice_index_or rows key []) trie)
      ≡ walk_row table trie (key_at table keys key)
  pub there : (key trie : ℕ) → key < keys_in table keys → trie < length table.roots →
      index_of (slice_index (slice_index_or rows key []) trie) < length table.rows

-- each word of the row is the greatest over the rows that the first words name
pub record IsRowOf (table : TableView) (noted : List ℕ) (tries : ℕ) (row : List ℕ) : Type 0 where
  pub len : length row ≡ row_len
  pub words : (category : ℕ) → category < row_len → slice_index row category
      ≡ greatest (map (λ trie. slice_index
      (slice_index_or table.rows (index_of (slice_index noted trie)) []) category)
      (range_with_len 0 tries))

-- the first rows are so made of the old ones
abbrev pub AreRowsOf : TableView → List (List ℕ) → ℕ → List (List ℕ) → Type 0
AreRowsOf table old keys new = (k : ℕ) → k < keys →
    IsRowOf table (slice_index_or old k []) (length table.roots) (slice_index_or new k [])
