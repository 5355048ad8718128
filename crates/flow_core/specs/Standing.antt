-- Which machines may be stepped over a table, keys and rows.
use Rattle.std.specs.Prelude.{◌≡◌, ℕ, ◌+◌, ◌*◌, ◌<◌, ◌≤◌, List, [], length, take, true, false, IfSome}
use Rattle.std.specs.Prelude.{Contains, All, Option, Some, None, if◌then◌else◌, slice_index_or}
use Rattle.flat_table.specs.Word.{index_of, is_match}
use Rattle.flat_table.specs.Table.{TableView, level_of, places_of}
use Rattle.flat_table.specs.Sound.{leads_into}
use Rattle.table_sizes.specs.Sizes.{max_keys}
use Rattle.flat_table.specs.Batch.{keys_in}
use Rattle.flow_core.specs.declared.flight.Flight.{Flight}
use Rattle.flow_core.specs.Jobs.{Job, jobs_of, job_count}
use Rattle.flow_core.specs.Rows.{joined_into}
use Rattle.flow_core.specs.Machine.{Machine, moved_to}

-- the most slots that a machine has
abbrev pub most_slots : ℕ
most_slots = 16

-- the bytes are whole keys of the table, not too many, and there is a row for each
pub record BatchFits (table : TableView) (keys : List ℕ) (rows : ℕ) : Type 0 where
  pub whole : length keys ≡ keys_in table keys * table.key_len
  pub few : keys_in table keys ≤ max_keys
  pub room : keys_in table keys ≤ rows

-- the job that the flight is of
abbrev pub job_of : Flight → Job
job_of flight = record { key = flight.key; trie = flight.trie }

-- the flight is of one of the jobs given out, and its word leads to a node that lies whole in the
-- level of its trie at its depth
pub record IsOnWay (table : TableView) (keys : List ℕ) (given : ℕ) (flight : Flight) : Type 0 where
  pub job : Contains (take given (jobs_of table keys)) (job_of flight)
  pub depth : flight.depth < length (places_of table flight.trie)
  pub word : leads_into (level_of table flight.trie flight.depth) flight.word ≡ true

-- there are as many jobs as pairs of a key and a trie, the lengths fit, and so is each flight
pub record StandsOver (table : TableView) (keys : List ℕ) (machine : Machine) (rows : ℕ)
    : Type 0 where
  pub jobs : machine.jobs ≡ job_count table keys
  pub fits : BatchFits table keys rows
  pub flights : All (λ held. IfSome held (IsOnWay table keys machine.given)) machine.slots

-- the word after the flight's names a row of the table, or leads into the next level
pub record LeadsOnward (table : TableView) (flight : Flight) (word : ℕ) : Type 0 where
  pub row : is_match word ≡ true → index_of word < length table.rows
  pub depth : is_match word ≡ false → flight.depth + 1 < length (places_of table flight.trie)
  pub level : is_match word ≡ false →
      leads_into (level_of table flight.trie (flight.depth + 1)) word ≡ true

-- what a slot holds that held the flight, after the flight's next word: nothing after a match
abbrev pub held_after : Flight → ℕ → Option Flight
held_after flight word = if is_match word then None else Some (moved_to word flight)

-- the rows then: after a match the row that it names is joined into that of the flight's key
abbrev pub rows_after : TableView → Flight → ℕ → List (List ℕ) → List (List ℕ)
rows_after table flight word rows =
    if is_match word
    then joined_into flight.key (slice_index_or table.rows (index_of word) []) rows
    else rows
