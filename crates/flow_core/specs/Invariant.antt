-- What holds of every state that a flow machine comes to.
use Rattle.std.specs.Prelude.{◌≡◌, ℕ, ◌<◌, ◌≤◌, ◌==◌, List, [], length, take, filter, map, All, IfSome}
use Rattle.std.specs.Prelude.{Bool, true, false, not, ◌&&◌, Option, Some, None, slice_index}
use Rattle.std.specs.Prelude.{slice_index_or}
use Rattle.std.specs.List.{list_any}
use Rattle.table_sizes.specs.Sizes.{row_len}
use Rattle.flat_table.specs.Table.{TableView}
use Rattle.flat_table.specs.Walk.{greatest, walk_row, word_after}
use Rattle.flat_table.specs.Batch.{key_at, keys_in}
use Rattle.flow_core.specs.declared.flight.Flight.{Flight}
use Rattle.flow_core.specs.Jobs.{Job, jobs_of, job_count}
use Rattle.flow_core.specs.Machine.{Machine, FlowState}
use Rattle.flow_core.specs.Standing.{job_of, IsOnWay}

-- two jobs are one: of the same key and the same trie
abbrev pub same_job : Job → Job → Bool
same_job one other = one.key == other.key && one.trie == other.trie

-- the slot holds a flight of the job
abbrev pub holds : Job → Option Flight → Bool
holds job None = false
holds job (Some flight) = same_job job (job_of flight)

-- some slot does
abbrev pub is_held : List (Option Flight) → Job → Bool
is_held slots job = list_any (holds job) slots

-- the job is of the key, and no slot holds it
abbrev pub is_ended : List (Option Flight) → ℕ → Job → Bool
is_ended slots key job = job.key == key && not (is_held slots job)

-- the ended jobs of the key: those that were given out and that no slot holds
abbrev pub ended_jobs : TableView → List ℕ → Machine → ℕ → List Job
ended_jobs table keys machine key =
    filter (is_ended machine.slots key) (take machine.given (jobs_of table keys))

-- the word of the category in the row that the walk of the job reaches
abbrev pub word_reached : TableView → List ℕ → ℕ → Job → ℕ
word_reached table keys category job = slice_index
    (slice_index_or table.rows (walk_row table job.trie (key_at table keys job.key)) []) category

-- the flight may go on, and stands at the word of its walk before the next key byte
pub record IsInWalk (table : TableView) (keys : List ℕ) (given : ℕ) (flight : Flight) : Type 0 where
  pub on_way : IsOnWay table keys given flight
  pub word : flight.word ≡ word_after table flight.trie (key_at table keys flight.key) flight.depth

-- No more jobs are given out than there are. Each busy slot holds a job given out, and the word of
-- its walk. No two slots hold the same job, so that each job given out is ended or in exactly one
-- slot. Each word of a key's row is the greatest over the ended jobs of that key.
pub record IsFlown (table : TableView) (keys : List ℕ) (state : FlowState) : Type 0 where
  pub jobs : state.machine.jobs ≡ job_count table keys
  pub few : state.machine.given ≤ job_count table keys
  pub flights : All (λ held. IfSome held (IsInWalk table keys state.machine.given))
      state.machine.slots
  pub once : (job : Job) (one other : ℕ) →
      holds job (slice_index_or state.machine.slots one None) ≡ true →
      holds job (slice_index_or state.machine.slots other None) ≡ true → one ≡ other
  pub len : length state.rows ≡ keys_in table keys
  pub rows : (key category : ℕ) → key < keys_in table keys → category < row_len →
      slice_index (slice_index_or state.rows key []) category
      ≡ greatest (map (word_reached table keys category) (ended_jobs table keys state.machine key))
