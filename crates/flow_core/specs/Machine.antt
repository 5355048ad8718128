-- The flow machine: slots in which walks go on at once, one word of one slot at each step.
use Rattle.std.specs.Prelude.{◌≡◌, ℕ, ◌+◌, ◌*◌, ◌<◌, nat_le, List, [], take, set, replicate}
use Rattle.std.specs.Prelude.{flat_map, fold, slice_index, slice_index_or, slice_get}
use Rattle.std.specs.Prelude.{Bool, true, false, ◌&&◌, if◌then◌else◌, Option, Some, None}
use Rattle.std.specs.List.{range_with_len, list_all}
use Rattle.flat_table.specs.Word.{index_of, is_match, next_word}
use Rattle.flat_table.specs.Table.{TableView, places_of}
use Rattle.flat_table.specs.Walk.{root_of}
use Rattle.flat_table.specs.Batch.{key_at, keys_in}
use Rattle.flow_core.specs.declared.flight.Flight.{Flight}
use Rattle.flow_core.specs.Jobs.{Job, jobs_of, job_count}
use Rattle.flow_core.specs.Rows.{zero_row, joined_into}

-- a flow machine without the rows: how many jobs there are, how many of them were given out, and
-- for each slot the flight that it holds, or none
pub record Machine : Type 0 where
  pub jobs : ℕ
  pub given : ℕ
  pub slots : List (Option Flight)

-- the whole state of a flow machine: a row for each key beside it
pub record FlowState : Type 0 where
  pub machine : Machine
  pub rows : List (List ℕ)

-- the state of a machine whose rows are the first of these, one for each key
abbrev pub state_of : TableView → List ℕ → Machine → List (List ℕ) → FlowState
state_of table keys machine rows =
    record { machine = machine; rows = take (keys_in table keys) rows }

-- ---- where it begins and ends

-- no job is given out, all slots are empty
abbrev pub first_machine : TableView → List ℕ → ℕ → Machine
first_machine table keys width =
    record { jobs = job_count table keys; given = 0; slots = replicate width None }

-- and all rows are zero
abbrev pub first_state : TableView → List ℕ → ℕ → FlowState
first_state table keys width = record {
  machine = first_machine table keys width;
  rows = replicate (keys_in table keys) zero_row;
}

-- the slot holds no flight
abbrev pub is_empty : Option Flight → Bool
is_empty None = true
is_empty (Some flight) = false

-- no job is left, and every slot is empty
abbrev pub is_done : Machine → Bool
is_done machine = nat_le machine.jobs machine.given && list_all is_empty machine.slots

-- ---- a step

-- the flight of a job that was just given out: it stands at the root
abbrev pub begun : TableView → Job → Flight
begun table job =
    record { key = job.key; trie = job.trie; depth = 0; word = root_of table job.trie }

-- the key byte that the flight reads next
abbrev pub byte_of : TableView → List ℕ → Flight → ℕ
byte_of table keys flight =
    slice_index (key_at table keys flight.key)
    (slice_index (places_of table flight.trie) flight.depth)

-- the word that it takes by that byte
abbrev pub word_of : TableView → List ℕ → Flight → ℕ
word_of table keys flight = next_word table.words flight.word (byte_of table keys flight)

-- the flight at its next word
abbrev pub moved_to : ℕ → Flight → Flight
moved_to word flight =
    record { key = flight.key; trie = flight.trie; depth = flight.depth + 1; word = word }

-- an empty slot takes the next job; where none is left, nothing changes
abbrev pub after_empty : TableView → FlowState → ℕ → Option Job → FlowState
after_empty table old slot None = old
after_empty table old slot (Some job) = record {
  machine = record {
    jobs = old.machine.jobs;
    given = old.machine.given + 1;
    slots = set old.machine.slots slot (Some (begun table job));
  };
  rows = old.rows;
}

-- a busy slot goes on to a word that is no match
abbrev pub after_node : FlowState → ℕ → Flight → ℕ → FlowState
after_node old slot flight word = record {
  machine = record {
    jobs = old.machine.jobs;
    given = old.machine.given;
    slots = set old.machine.slots slot (Some (moved_to word flight));
  };
  rows = old.rows;
}

-- a busy slot comes to a match: the row that it names is joined into that of the slot's own key,
-- and the slot is empty
abbrev pub after_match : TableView → FlowState → ℕ → Flight → ℕ → FlowState
after_match table old slot flight word = record {
  machine = record {
    jobs = old.machine.jobs;
    given = old.machine.given;
    slots = set old.machine.slots slot None;
  };
  rows = joined_into flight.key (slice_index_or table.rows (index_of word) []) old.rows;
}

-- a busy slot takes a word
abbrev pub after_word : TableView → FlowState → ℕ → Flight → ℕ → FlowState
after_word table old slot flight word =
    if is_match word then after_match table old slot flight word
    else after_node old slot flight word

-- the step of a slot that holds this
abbrev pub step_of : TableView → List ℕ → FlowState → ℕ → Option Flight → FlowState
step_of table keys old slot None =
    after_empty table old slot (slice_get (jobs_of table keys) old.machine.given)
step_of table keys old slot (Some flight) =
    after_word table old slot flight (word_of table keys flight)

-- the state after a step of the slot
abbrev pub flow_step : TableView → List ℕ → FlowState → ℕ → FlowState
flow_step table keys old slot =
    step_of table keys old slot (slice_index_or old.machine.slots slot None)

-- the state after steps of the slots, one after the other
abbrev pub flow_run : TableView → List ℕ → FlowState → List ℕ → FlowState
flow_run table keys old slots = fold (flow_step table keys) old slots

-- the state after steps of the slots from the first state on
abbrev pub flow_from_first : TableView → List ℕ → ℕ → List ℕ → FlowState
flow_from_first table keys width slots =
    flow_run table keys (first_state table keys width) slots

-- ---- rounds

-- all slots in order, so many times over
abbrev pub turns : ℕ → ℕ → List ℕ
turns width n = flat_map (λ turn. range_with_len 0 width) (range_with_len 0 n)

-- the machine is done after so many turns of all slots, and not before
pub record IsRounds (table : TableView) (keys : List ℕ) (width n : ℕ) : Type 0 where
  pub ends : is_done (flow_from_first table keys width (turns width n)).machine ≡ true
  pub least : (earlier : ℕ) → earlier < n →
      is_done (flow_from_first table keys width (turns width earlier)).machine ≡ false

-- ---- how many steps are enough

-- how many steps of each slot are enough: for each job one that takes it and one for each key byte
abbrev pub most_steps : TableView → List ℕ → ℕ
most_steps table keys = job_count table keys * (table.key_len + 1)
