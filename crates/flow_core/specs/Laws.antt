-- Laws of flow machines, over the definitions alone.
use Rattle.std.specs.Prelude.{◌≡◌, ℕ, ◌%◌, ◌<◌, ◌≤◌, ◌==◌, List, [], length, count_by, All, true, None}
use Rattle.std.specs.Prelude.{slice_index, slice_index_or}
use Rattle.table_sizes.specs.Sizes.{row_len}
use Rattle.flat_table.specs.Table.{TableView}
use Rattle.flat_table.specs.Sound.{sound_fault}
use Rattle.flat_table.specs.Walk.{joined, table_verdict, userdatas}
use Rattle.flat_table.specs.Batch.{key_at, keys_in}
use Rattle.flow_core.specs.Machine.{FlowState, is_done, first_state, flow_step, flow_from_first, most_steps}
use Rattle.flow_core.specs.Machine.{IsRounds}
use Rattle.flow_core.specs.Invariant.{IsFlown}

-- each is the number of a slot of so many
abbrev pub AreSlots : ℕ → List ℕ → Type 0
AreSlots width slots = All (λ slot. slot < width) slots

-- each is a byte
abbrev pub AreBytes : List ℕ → Type 0
AreBytes keys = All (λ byte. byte < 256) keys

-- each slot of so many stands in the list as often as is enough for all jobs
abbrev pub AreEnough : TableView → List ℕ → ℕ → List ℕ → Type 0
AreEnough table keys width slots =
    (slot : ℕ) → slot < width → most_steps table keys ≤ count_by (λ entry. entry == slot) slots

-- each row is the one that decides for its key: the greatest words over the rows that its walks
-- reach
pub record AreJoined (table : TableView) (keys : List ℕ) (rows : List (List ℕ)) : Type 0 where
  pub len : length rows ≡ keys_in table keys
  pub joined_is : (key category : ℕ) → key < keys_in table keys → category < row_len →
      slice_index (slice_index_or rows key []) category
      ≡ joined table (key_at table keys key) category
  pub verdict_is : (key category : ℕ) → key < keys_in table keys → category < row_len →
      slice_index (slice_index_or rows key []) category % userdatas
      ≡ table_verdict table (key_at table keys key) category

-- Over a sound table: what holds of every state holds of the first one, each step of a slot keeps
-- it, and where it holds of a state that is done each row is joined.
pub record InvariantIsKept : Type 0 where
  pub begin : (table : TableView) (keys : List ℕ) (width : ℕ) → sound_fault table ≡ None →
      IsFlown table keys (first_state table keys width)
  pub step : (table : TableView) (keys : List ℕ) (state : FlowState) (slot : ℕ) →
      sound_fault table ≡ None → AreBytes keys → slot < length state.machine.slots →
      IsFlown table keys state → IsFlown table keys (flow_step table keys state slot)
  pub end : (table : TableView) (keys : List ℕ) (state : FlowState) → IsFlown table keys state →
      is_done state.machine ≡ true → AreJoined table keys state.rows

-- Whatever the list of slots, a machine that is done by it has joined the rows, and it is done
-- where each slot stands in the list often enough. So turns of all slots come to an end, after a
-- number of them that is the only one.
pub record EverySchedule : Type 0 where
  pub rows : (table : TableView) (keys : List ℕ) (width : ℕ) (slots : List ℕ) →
      sound_fault table ≡ None → AreBytes keys → AreSlots width slots →
      is_done (flow_from_first table keys width slots).machine ≡ true →
      AreJoined table keys (flow_from_first table keys width slots).rows
  pub done : (table : TableView) (keys : List ℕ) (width : ℕ) (slots : List ℕ) →
      sound_fault table ≡ None → AreBytes keys → AreSlots width slots → 0 < width →
      AreEnough table keys width slots →
      is_done (flow_from_first table keys width slots).machine ≡ true
  pub rounds : (table : TableView) (keys : List ℕ) (width : ℕ) → sound_fault table ≡ None →
      AreBytes keys → 0 < width →
      (n : ℕ) × IsRounds table keys width n × (n ≤ most_steps table keys)
  pub one : (table : TableView) (keys : List ℕ) (width n other : ℕ) →
      IsRounds table keys width n → IsRounds table keys width other → n ≡ other
