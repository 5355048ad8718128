-- A flow machine from its first state on, step after step.
use Rattle.std.proofs.Common.{◌≡◌, ℕ, ◌<◌, ◌≤◌, List, [], ◌∷◌, sym, ap, ◌∙◌, refl, arith}
use Rattle.std.proofs.Common.{length, get_or, true, false, Bool, inl, inr, subst, length-set}
use Rattle.std.specs.Prelude.{slice_index, None, Some, Option, IfSome, slice_get, replicate}
use Rattle.std.proofs.lemmas.Bool.{cases_Bool, cases_lt}
use Rattle.std.proofs.lemmas.Option.{slice_get_cases}
use Rattle.std.proofs.lemmas.List.{get_or_past, get_or-replicate, length-replicate}
use Rattle.std.proofs.lemmas.List.Elements.{All-replicate, All-get_or, All-head, All-tail}
use Rattle.table_sizes.specs.Sizes.{row_len}
use Rattle.flat_table.specs.Word.{is_match}
use Rattle.flat_table.specs.Table.{TableView}
use Rattle.flat_table.specs.Sound.{sound_fault}
use Rattle.flat_table.specs.Batch.{keys_in}
use Rattle.flat_table.specs.Laws.{WalksStay}
use Rattle.flow_core.specs.declared.flight.Flight.{Flight}
use Rattle.flow_core.specs.Jobs.{Job, job_count, jobs_of}
use Rattle.flow_core.specs.Rows.{zero_row}
use Rattle.flow_core.specs.Machine.{FlowState, begun, word_of, after_empty, after_word}
use Rattle.flow_core.specs.Machine.{step_of, flow_step, first_state, flow_run, flow_from_first}
use Rattle.flow_core.specs.Invariant.{IsFlown, IsInWalk, holds}
use Rattle.flow_core.specs.Laws.{AreBytes, AreSlots}
use Rattle.flow_core.proofs.Given.{job_got, jobs_len}
use Rattle.flow_core.proofs.Flying.{takes, flies}
use Rattle.flow_core.proofs.Kept.{takes_job, goes_on, ends}

-- the word of a zero row
zero_word : (category : ℕ) → category < row_len → slice_index zero_row category ≡ 0
unfolding zero_row
zero_word category below = get_or-replicate row_len category 0 0 below

-- none of the empty slots holds a job
nothing_held : (width i : ℕ) (job : Job) → holds job (get_or (replicate width None) i None) ≡ false
nothing_held width i job = elim (cases_lt i width) [
  | inl within ↦ ap (holds job) (get_or-replicate width i None None within)
  | inr past ↦ ap (holds job) (get_or_past (replicate width None) i None
      (omega (arith, past, length-replicate {A = Option Flight} width None)))
]

-- where no job is left there is none of the next number
pub past_last : (table : TableView) (keys : List ℕ) (given : ℕ) → job_count table keys ≤ given →
    slice_get (jobs_of table keys) given ≡ None
past_last table keys given all = elim ((slice_get_cases (jobs_of table keys) given).1) [
  | inl there ↦ absurd (omega (arith, there.1, jobs_len table keys, all))
  | inr past ↦ past.1
]

-- a step leaves as many slots as there were
module _ (table : TableView) (keys : List ℕ) where
  -- after a word there are as many slots
  width_of_word : (state : FlowState) (slot : ℕ) (flight : Flight) (word : ℕ) (match : Bool) →
      is_match word ≡ match →
      length (after_word table state slot flight word).machine.slots ≡ length state.machine.slots
  width_of_word state slot flight word true e = rw e (length-set state.machine.slots slot None)
  width_of_word state slot flight word false e = rw e (length-set state.machine.slots slot _)

  -- after a job, or none, there are as many slots
  width_of_job : (state : FlowState) (slot : ℕ) (job : Option Job) →
      length (after_empty table state slot job).machine.slots ≡ length state.machine.slots
  width_of_job state slot None = refl
  width_of_job state slot (Some job) = length-set state.machine.slots slot (Some (begun table job))

  -- after a step of what the slot holds there are as many slots
  width_of : (state : FlowState) (slot : ℕ) (held : Option Flight) →
      length (step_of table keys state slot held).machine.slots ≡ length state.machine.slots
  width_of state slot None = width_of_job state slot (slice_get (jobs_of table keys) state.machine.given)
  width_of state slot (Some flight) =
      width_of_word state slot flight (word_of table keys flight) (is_match (word_of table keys flight)) refl

  -- after each step there are as many slots
  pub same_width : (state : FlowState) (slot : ℕ) →
      length (flow_step table keys state slot).machine.slots ≡ length state.machine.slots
  same_width state slot = width_of state slot (get_or state.machine.slots slot None)

module _ (table : TableView) (keys : List ℕ) where
  -- what holds of every state holds of the first one
  pub first_flown : (width : ℕ) → IsFlown table keys (first_state table keys width)
  first_flown width = record {
    jobs = refl;
    few = omega arith;
    flights = All-replicate (λ slot. IfSome slot (IsInWalk table keys 0)) width None tt;
    once = λ job one other held _. cc (nothing_held width one job, held);
    len = length-replicate (keys_in table keys) zero_row;
    rows = λ key category below narrow.
        ap (λ (row : List ℕ). slice_index row category)
        (get_or-replicate (keys_in table keys) key zero_row [] below) ∙ zero_word category narrow;
  }

  module _ (stay : WalksStay) (sound : sound_fault table ≡ None) (bytes : AreBytes keys) where
    -- it holds after a word
    after_flight : (state : FlowState) (i : ℕ) → i < length state.machine.slots → IsFlown table keys state →
        (flight : Flight) → get_or state.machine.slots i None ≡ Some flight →
        IsFlown table keys (after_word table state i flight (word_of table keys flight))
    after_flight state i within flown flight busy =
        let in' = subst (λ (slot : Option Flight). IfSome slot (IsInWalk table keys state.machine.given)) busy
        (All-get_or (λ slot. IfSome slot (IsInWalk table keys state.machine.given)) state.machine.slots i None within
        flown.flights) in
        let took = takes table keys sound state.machine.given flight bytes in' in
        elim (cases_Bool (is_match (word_of table keys flight))) [
          | inl match ↦ rw match (ends table keys state i within flown flight busy took match)
          | inr on ↦ rw on (goes_on table keys state i within flown flight busy took on)
        ]

    -- it holds after a step of what the slot holds
    step_kept : (state : FlowState) (i : ℕ) → i < length state.machine.slots → IsFlown table keys state →
        (held : Option Flight) → get_or state.machine.slots i None ≡ held →
        IsFlown table keys (step_of table keys state i held)
    step_kept state i within flown None empty = elim (cases_lt state.machine.given (job_count table keys)) [
      | inl few ↦ rw (job_got table keys state.machine.given few)
          (takes_job table keys state i within flown empty few (flies table keys sound stay state.machine.given few))
      | inr all ↦ (
          let none : slice_get (jobs_of table keys) state.machine.given ≡ None =
          past_last table keys state.machine.given all in
          rw none flown
          )
    ]
    step_kept state i within flown (Some flight) busy = after_flight state i within flown flight busy

    -- it holds after each step
    pub flown_step : (state : FlowState) (i : ℕ) → i < length state.machine.slots → IsFlown table keys state →
        IsFlown table keys (flow_step table keys state i)
    flown_step state i within flown = step_kept state i within flown (get_or state.machine.slots i None) refl

    -- a run of any slots
    pub flown_run : (state : FlowState) (slots : List ℕ) → AreSlots (length state.machine.slots) slots →
        IsFlown table keys state → IsFlown table keys (flow_run table keys state slots)
    flown_run state [] below flown = flown
    flown_run state (slot ∷ slots) below flown =
        flown_run (flow_step table keys state slot) slots
        (subst (λ (n : ℕ). AreSlots n slots) (sym (same_width table keys state slot))
        (All-tail (λ s. s < length state.machine.slots) slot slots below))
        (flown_step state slot (All-head (λ s. s < length state.machine.slots) slot slots below) flown)

    -- it holds after the steps of any list of slots
    pub from_first : (width : ℕ) (slots : List ℕ) → AreSlots width slots →
        IsFlown table keys (flow_from_first table keys width slots)
    from_first width slots below =
        flown_run (first_state table keys width) slots
        (subst (λ (n : ℕ). AreSlots n slots) (sym (length-replicate width None)) below) (first_flown width)
