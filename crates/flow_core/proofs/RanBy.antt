-- A machine that is run by a list of slots.
use Rattle.std.proofs.Common.{◌≡◌, ℕ, ◌+◌, ◌<◌, ◌≤◌, List, [], ◌∷◌, sym, ap, ◌∙◌, length, take, drop, get_or}
use Rattle.std.specs.Prelude.{replicate}
use Rattle.std.proofs.lemmas.List.{take_all, take_more, drop_at, length-replicate}
use Rattle.std.proofs.lemmas.List.Sums.{fold-append}
use Rattle.flat_table.specs.Table.{TableView}
use Rattle.flat_table.specs.Batch.{keys_in}
use Rattle.flow_core.specs.Machine.{Machine, FlowState, state_of, flow_step, flow_run, flow_from_first, first_state, is_done}
use Rattle.flow_core.specs.Rows.{zero_row, cleared}
use Rattle.flow_core.specs.Standing.{StandsOver}

-- the machine stands where the first of the slots lead from the first state, and only the rows of the keys changed
pub record RanBy (table : TableView) (keys : List ℕ) (width : ℕ) (slots : List ℕ) (n : ℕ) (machine : Machine)
    (old rows : List (List ℕ)) : Type 0 where
  pub state : state_of table keys machine rows ≡ flow_from_first table keys width (take n slots)
  pub stands : StandsOver table keys machine (length rows)
  pub others : drop (keys_in table keys) rows ≡ drop (keys_in table keys) old

-- one slot more
pub run_more : (table : TableView) (keys : List ℕ) (state : FlowState) (slots : List ℕ) (n : ℕ) → n < length slots →
    flow_run table keys state (take (n + 1) slots)
    ≡ flow_step table keys (flow_run table keys state (take n slots)) (get_or slots n 0)
run_more table keys state slots n within =
    ap (λ (some : List ℕ). flow_run table keys state some) (take_more slots n 0 within)
    ∙ fold-append (flow_step table keys) state (take n slots) (get_or slots n 0 ∷ [])

module _ {table : TableView} {keys : List ℕ} {width : ℕ} {slots : List ℕ} where
  -- a machine that has just begun
  pub ran_none : {machine : Machine} {old rows : List (List ℕ)} →
      state_of table keys machine rows ≡ first_state table keys width →
      StandsOver table keys machine (length rows) → rows ≡ cleared (keys_in table keys) old →
      RanBy table keys width slots 0 machine old rows
  ran_none {old = old} is stands cleared_is = record {
    state = is;
    stands = stands;
    others = ap (λ (xs : List (List ℕ)). drop (keys_in table keys) xs) cleared_is
        ∙ drop_at (replicate (keys_in table keys) zero_row) (drop (keys_in table keys) old) (keys_in table keys)
        (length-replicate (keys_in table keys) zero_row);
  }

  -- and one that was stepped once more
  pub ran_more : {n : ℕ} {machine next : Machine} {old rows new : List (List ℕ)} →
      RanBy table keys width slots n machine old rows → n < length slots → {slot : ℕ} → slot ≡ get_or slots n 0 →
      state_of table keys next new ≡ flow_step table keys (state_of table keys machine rows) slot →
      drop (keys_in table keys) new ≡ drop (keys_in table keys) rows →
      StandsOver table keys next (length new) → RanBy table keys width slots (n + 1) next old new
  ran_more {n = n} ran within slot_is step others stands = record {
    state = step
        ∙ (λ i. flow_step table keys (ran.state i) (slot_is i))
        ∙ sym (run_more table keys (first_state table keys width) slots n within);
    stands = stands;
    others = others ∙ ran.others;
  }

  -- where all slots were stepped, the run is over
  pub ran_all : {n : ℕ} {machine : Machine} {old rows : List (List ℕ)} →
      RanBy table keys width slots n machine old rows → length slots ≤ n →
      state_of table keys machine rows ≡ flow_from_first table keys width slots
  ran_all {n = n} ran all =
      ran.state ∙ ap (λ (some : List ℕ). flow_from_first table keys width some) (take_all n slots all)

  -- the machine is done exactly if the run by the slots ends done
  pub done_is : {n : ℕ} {machine : Machine} {old rows : List (List ℕ)} →
      RanBy table keys width slots n machine old rows → length slots ≤ n →
      is_done machine ≡ is_done (flow_from_first table keys width slots).machine
  done_is ran all = ap (λ (state : FlowState). is_done state.machine) (ran_all ran all)

  -- the rows of the keys are those at the end of the run by the slots
  pub rows_are : {n : ℕ} {machine : Machine} {old rows : List (List ℕ)} →
      RanBy table keys width slots n machine old rows → length slots ≤ n →
      take (keys_in table keys) rows ≡ (flow_from_first table keys width slots).rows
  rows_are ran all = ap (λ (state : FlowState). state.rows) (ran_all ran all)
