-- How many steps of each slot are enough: a load that falls with each step that isn't idle.
use Rattle.std.proofs.Common.{◌≡◌, ℕ, ◌+◌, ◌-◌, ◌*◌, ◌<◌, ◌≤◌, List, sym, ap, ◌∙◌}
use Rattle.std.proofs.Common.{refl, arith, length, get_or, set, true, false, not, Bool, ◌||◌, inl, inr}
use Rattle.std.proofs.Common.{subst, nat_lt}
use Rattle.std.specs.Prelude.{None, Some, Option, IfSome}
use Rattle.std.specs.List.{sum_by}
use Rattle.std.proofs.lemmas.Bool.{cases_Bool, cases_lt, cases_eq}
use Rattle.std.proofs.lemmas.Bool.Decides.{nat_tests}
use Rattle.std.proofs.lemmas.List.{get_or_past, get_or-set_other}
use Rattle.std.proofs.lemmas.List.Sums.{sum_by-set}
use Rattle.std.proofs.lemmas.List.Elements.{All-get_or}
use Rattle.flat_table.specs.Word.{is_match}
use Rattle.flat_table.specs.Table.{TableView}
use Rattle.flat_table.proofs.Offered.{places_bound}
use Rattle.flow_core.specs.declared.flight.Flight.{Flight}
use Rattle.flow_core.specs.Jobs.{job_count, job_at}
use Rattle.flow_core.specs.Machine.{FlowState, is_empty, step_of, begun, word_of, moved_to}
use Rattle.flow_core.specs.Machine.{after_empty, after_word, after_match}
use Rattle.flow_core.specs.Invariant.{IsFlown, IsInWalk}
use Rattle.flow_core.proofs.Given.{job_got}
use Rattle.flow_core.proofs.Runs.{past_last}
use Rattle.list_lemmas.proofs.Tests.{or_true}

-- the steps that a slot has yet to take for what it holds
abbrev pub slot_load : TableView → Option Flight → ℕ
slot_load table None = 0
slot_load table (Some flight) = table.key_len - flight.depth

-- the steps that are left at most
abbrev pub load : TableView → List ℕ → FlowState → ℕ
load table keys state =
    (job_count table keys - state.machine.given) * (table.key_len + 1) + sum_by (slot_load table) state.machine.slots

-- a job is left, or the slot is busy
abbrev pub is_awake : TableView → List ℕ → ℕ → FlowState → Bool
is_awake table keys slot state =
    nat_lt state.machine.given (job_count table keys) || not (is_empty (get_or state.machine.slots slot None))

module _ (table : TableView) (keys : List ℕ) (state : FlowState) (i : ℕ) (within : i < length state.machine.slots)
    (flown : IsFlown table keys state) where
  -- what a slot's change does to the load of all
  slots_change : (held now : Option Flight) → get_or state.machine.slots i None ≡ held →
      sum_by (slot_load table) (set state.machine.slots i now) + slot_load table held
      ≡ sum_by (slot_load table) state.machine.slots + slot_load table now
  slots_change held now is =
      ap (λ (slot : Option Flight). sum_by (slot_load table) (set state.machine.slots i now) + slot_load table slot)
      (sym is)
      ∙ sum_by-set (slot_load table) state.machine.slots i now None within

  -- a flight has a byte to read
  depth_below : (flight : Flight) → get_or state.machine.slots i None ≡ Some flight → flight.depth < table.key_len
  depth_below flight busy =
      let in' = subst (λ (slot : Option Flight). IfSome slot (IsInWalk table keys state.machine.given)) busy
      (All-get_or (λ slot. IfSome slot (IsInWalk table keys state.machine.given)) state.machine.slots i None within
      flown.flights) in
      omega (arith, in'.on_way.depth, places_bound table flight.trie)

  -- a slot that takes a word makes the load less
  word_lessens : (flight : Flight) → get_or state.machine.slots i None ≡ Some flight →
      load table keys (after_word table state i flight (word_of table keys flight)) + 1 ≤ load table keys state
  word_lessens flight busy =
      let word : ℕ = word_of table keys flight in
      let deep = depth_below flight busy in
      elim (cases_Bool (is_match word)) [
        | inl match ↦ rw match (omega (arith, deep, slots_change (Some flight) None busy))
        | inr on ↦ rw on
            (omega (arith, deep, slots_change (Some flight) (Some (moved_to word flight)) busy))
      ]

  -- and so does one that takes a job
  job_lessens : get_or state.machine.slots i None ≡ None → state.machine.given < job_count table keys →
      load table keys (after_empty table state i (Some (job_at table state.machine.given))) + 1 ≤ load table keys state
  job_lessens empty few =
      let left : ℕ = job_count table keys - (state.machine.given + 1) in
      let before : job_count table keys - state.machine.given ≡ left + 1 = omega (arith, few) in
      let whole : (job_count table keys - state.machine.given) * (table.key_len + 1)
      ≡ left * (table.key_len + 1) + (table.key_len + 1) =
      ap (λ (n : ℕ). n * (table.key_len + 1)) before ∙ omega arith in
      omega (
        arith,
        whole,
        slots_change None (Some (begun table (job_at table state.machine.given))) empty,
      )

-- what a step does to the load, and which slots are awake after it
pub record Lessens (table : TableView) (keys : List ℕ) (old new : FlowState) (i : ℕ) : Type 0 where
  pub most : load table keys new ≤ load table keys old
  pub own : is_awake table keys i new ≡ true → load table keys new + 1 ≤ load table keys old
  pub awake : (slot : ℕ) → is_awake table keys slot new ≡ true → is_awake table keys slot old ≡ true

module _ (table : TableView) (keys : List ℕ) where
  -- a slot that a job is left for is awake, and so is a busy one
  job_wakes : (state : FlowState) (slot : ℕ) → state.machine.given < job_count table keys →
      is_awake table keys slot state ≡ true
  job_wakes state slot few =
      let left : nat_lt state.machine.given (job_count table keys) ≡ true = grind (arith, nat_tests) in
      rw left refl

  -- a slot that holds a flight is awake
  flight_wakes : (state : FlowState) (slot : ℕ) (flight : Flight) →
      get_or state.machine.slots slot None ≡ Some flight → is_awake table keys slot state ≡ true
  flight_wakes state slot flight busy =
      ap (λ (held : Option Flight). nat_lt state.machine.given (job_count table keys) || not (is_empty held)) busy
      ∙ or_true (nat_lt state.machine.given (job_count table keys))

  -- another is asleep
  asleep : (state : FlowState) (slot : ℕ) → job_count table keys ≤ state.machine.given →
      get_or state.machine.slots slot None ≡ None → is_awake table keys slot state ≡ false
  asleep state slot all empty =
      let none : nat_lt state.machine.given (job_count table keys) ≡ false = grind (arith, nat_tests) in
      rw (none, empty) refl

  -- where one slot changes that was awake, the others are awake as before
  changed : (state : FlowState) (i slot : ℕ) (now : Option Flight) (rows : List (List ℕ)) →
      is_awake table keys i state ≡ true → is_awake table keys slot record {
        machine = record {
          jobs = state.machine.jobs;
          given = state.machine.given;
          slots = set state.machine.slots i now;
        };
        rows = rows;
      } ≡ true → is_awake table keys slot state ≡ true
  changed state i slot now rows before after = elim (cases_eq slot i) [
    | inl same ↦ ap (λ (s : ℕ). is_awake table keys s state) same ∙ before
    | inr other ↦
        ap (λ (held : Option Flight). nat_lt state.machine.given (job_count table keys) || not (is_empty held))
        (sym (get_or-set_other state.machine.slots i slot now None other)) ∙ after
  ]

  module _ (state : FlowState) (i : ℕ) (within : i < length state.machine.slots) (flown : IsFlown table keys state)
    where
      word_step : (flight : Flight) → get_or state.machine.slots i None ≡ Some flight →
          Lessens table keys state (after_word table state i flight (word_of table keys flight)) i
      word_step flight busy =
          let less = word_lessens table keys state i within flown flight busy in
          let before = flight_wakes state i flight busy in
          record {
            most = omega (arith, less);
            own = λ _. less;
            awake = λ slot after. elim (cases_Bool (is_match (word_of table keys flight))) [
              | inl match ↦ changed state i slot None
                  (after_match table state i flight (word_of table keys flight)).rows before (rw match at after)
              | inr on ↦ changed state i slot (Some (moved_to (word_of table keys flight) flight)) state.rows before
                  (rw on at after)
            ];
          }

      pub step_lessens : (held : Option Flight) → get_or state.machine.slots i None ≡ held →
          Lessens table keys state (step_of table keys state i held) i
      step_lessens None empty = elim (cases_lt state.machine.given (job_count table keys)) [
        | inl few ↦ rw (job_got table keys state.machine.given few) (
            let less = job_lessens table keys state i within flown empty few in
            record {
              most = omega (arith, less);
              own = λ _. less;
              awake = λ slot _. job_wakes state slot few;
            }
            )
        | inr all ↦ rw (past_last table keys state.machine.given all) record {
          most = omega arith;
          own = λ after. cc (after, asleep state i all empty);
          awake = λ slot after. after;
        }
      ]
      step_lessens (Some flight) busy = word_step flight busy

  -- the load of a slot is part of that of all
  part_of_load : (slots : List (Option Flight)) (i : ℕ) → i < length slots →
      slot_load table (get_or slots i None) ≤ sum_by (slot_load table) slots
  part_of_load slots i within = omega (arith, sum_by-set (slot_load table) slots i None None within)

  -- if a slot isn't empty, the slots have some load
  busy_load : (state : FlowState) (slot : ℕ) → IsFlown table keys state → (held : Option Flight) →
      get_or state.machine.slots slot None ≡ held → is_empty held ≡ false →
      0 < sum_by (slot_load table) state.machine.slots
  busy_load state slot flown None is busy = absurd (cc busy)
  busy_load state slot flown (Some flight) is busy = elim (cases_lt slot (length state.machine.slots)) [
    | inl within ↦ omega (
      arith,
      part_of_load state.machine.slots slot within,
      ap (slot_load table) is,
      depth_below table keys state slot within flown flight is,
    )
    | inr past ↦ absurd (cc (sym is ∙ get_or_past state.machine.slots slot None past))
  ]

  -- where some slot is awake there is a load
  pub some_load : (state : FlowState) (slot : ℕ) → IsFlown table keys state → is_awake table keys slot state ≡ true →
      0 < load table keys state
  some_load state slot flown awake = elim (cases_lt state.machine.given (job_count table keys)) [
    | inl few ↦ (
        let left : ℕ = job_count table keys - (state.machine.given + 1) in
        let before : job_count table keys - state.machine.given ≡ left + 1 = omega (arith, few) in
        let whole : (job_count table keys - state.machine.given) * (table.key_len + 1)
        ≡ left * (table.key_len + 1) + (table.key_len + 1) =
        ap (λ (n : ℕ). n * (table.key_len + 1)) before ∙ omega arith in
        omega (arith, whole)
        )
    | inr all ↦ elim (cases_Bool (is_empty (get_or state.machine.slots slot None))) [
      | inl empty ↦ (
          let none : nat_lt state.machine.given (job_count table keys) ≡ false = grind (arith, nat_tests) in
          absurd (cc (rw (none, empty) at awake))
          )
      | inr busy ↦
          omega (arith, busy_load state slot flown (get_or state.machine.slots slot None) refl busy)
    ]
  ]
