-- The words that a flow machine has yet to take: one less for each busy slot that is stepped.
use Rattle.std.proofs.Common.{◌≡◌, ◌≢◌, ℕ, ◌+◌, ◌-◌, ◌<◌, ◌≤◌, List, [], ◌∷◌, sym, ap, ◌∙◌}
use Rattle.std.proofs.Common.{refl, arith, cond, length, drop, get_or, set, true, false, inl, inr, subst}
use Rattle.std.proofs.Common.{get_or-set_other}
use Rattle.std.specs.Prelude.{None, Some, Option, IfSome, flat_map, nat_le, slice_get, slice_index}
use Rattle.std.specs.List.{list_all, sum_by, range_with_len}
use Rattle.std.proofs.lemmas.Bool.{and_parts, cases_Bool, cases_lt}
use Rattle.std.proofs.lemmas.Bool.Decides.{nat_tests}
use Rattle.std.proofs.lemmas.List.{drop_all}
use Rattle.std.proofs.lemmas.List.Elements.{All-get_or}
use Rattle.std.proofs.lemmas.List.Folds.{sum_by-replicate}
use Rattle.std.proofs.lemmas.List.Sums.{sum_by-append, sum_by-cons, sum_by-drop_more, sum_by-set, sum_by_from}
use Rattle.std.proofs.lemmas.Option.{get_or_from_slice_get}
use Rattle.list_lemmas.proofs.Sums.{sum_by-map}
use Rattle.flat_table.specs.Word.{is_match}
use Rattle.flat_table.specs.Table.{TableView, places_of}
use Rattle.flat_table.specs.Walk.{key_transitions, moved, tries_of, walk_transitions, word_after}
use Rattle.flat_table.specs.Batch.{batch_transitions, key_at, keys_in}
use Rattle.flat_table.specs.Laws.{WalksGoStepByStep, WalksStay}
use Rattle.flat_table.proofs.Offered.{transitions_at_match}
use Rattle.flow_core.specs.declared.flight.Flight.{Flight}
use Rattle.flow_core.specs.Jobs.{Job, job_at, job_count, jobs_of, jobs_of_key}
use Rattle.flow_core.specs.Machine.{FlowState, begun, byte_of, first_state, is_done, is_empty, moved_to, step_of}
use Rattle.flow_core.specs.Machine.{after_empty, after_word, word_of}
use Rattle.flow_core.specs.Invariant.{IsFlown, IsInWalk}
use Rattle.flow_core.proofs.Offered.{job_got, jobs_len, past_last}
use Rattle.lane_walk.specs.Turn.{is_busy}
use Rattle.lane_walk.proofs.Counts.{taken_next, taken_at_least}

-- how many words the walk of a job takes
abbrev job_words : TableView → List ℕ → Job → ℕ
job_words table keys job = walk_transitions table job.trie (key_at table keys job.key)

-- how many of them a slot has yet to take for what it holds
abbrev slot_left : TableView → List ℕ → Option Flight → ℕ
slot_left table keys None = 0
slot_left table keys (Some flight) =
    walk_transitions table flight.trie (key_at table keys flight.key) - flight.depth

-- how many are left: those of the jobs that are not given out, and those of the slots
abbrev pub words_left : TableView → List ℕ → FlowState → ℕ
words_left table keys state = sum_by (job_words table keys) (drop state.machine.given (jobs_of table keys))
    + sum_by (slot_left table keys) state.machine.slots

-- what a flight has left before and after its next word
record Nears (table : TableView) (keys : List ℕ) (flight : Flight) : Type 0 where
  pub ends : is_match (word_of table keys flight) ≡ true → slot_left table keys (Some flight) ≡ 1
  pub goes : is_match (word_of table keys flight) ≡ false →
      slot_left table keys (Some (moved_to (word_of table keys flight) flight)) + 1
      ≡ slot_left table keys (Some flight)

module _ (law : WalksGoStepByStep) (stay : WalksStay) (table : TableView) (keys : List ℕ) where
  -- a flight in its walk has one word less left after the next one
  nears : (given : ℕ) (flight : Flight) → IsInWalk table keys given flight → Nears table keys flight
  nears given flight f =
      let trie : ℕ = flight.trie in
      let key : List ℕ = key_at table keys flight.key in
      let n : ℕ = flight.depth in
      let no_match : is_match flight.word ≡ false = stay.node table trie n flight.word f.on_way.word in
      let before : is_match (word_after table trie key n) ≡ false =
      ap (λ (w : ℕ). is_match w) (sym f.word) ∙ no_match in
      let moves : moved table.words flight.word (byte_of table keys flight) ≡ word_of table keys flight =
      rw no_match refl in
      let next : word_after table trie key (n + 1) ≡ word_of table keys flight =
      law.word_more table trie key n (slice_index (places_of table trie) n) f.on_way.depth refl
      ∙ ap (λ (w : ℕ). moved table.words w (byte_of table keys flight)) (sym f.word) ∙ moves in
      let taken = taken_next law table trie key n f.on_way.depth before in
      let rest : ℕ = length (places_of table trie) - (n + 1) in
      record {
        ends = λ match. omega (
          arith,
          transitions_at_match table trie key (n + 1) (ap (λ (w : ℕ). is_match w) next ∙ match),
          taken,
        );
        goes = λ _. omega (
          arith,
          taken,
          taken_at_least law table trie key (n + 1) rest (omega (arith, f.on_way.depth)),
        );
      }

  -- ---- one step
  module _ (state : FlowState) (i : ℕ) (within : i < length state.machine.slots) (flown : IsFlown table keys state)
    where
      -- what a slot's change does to what the slots have left
      slots_change : (held now : Option Flight) → get_or state.machine.slots i None ≡ held →
          sum_by (slot_left table keys) (set state.machine.slots i now) + slot_left table keys held
          ≡ sum_by (slot_left table keys) state.machine.slots + slot_left table keys now
      slots_change held now is =
          ap (λ (slot : Option Flight).
          sum_by (slot_left table keys) (set state.machine.slots i now) + slot_left table keys slot) (sym is)
          ∙ sum_by-set (slot_left table keys) state.machine.slots i now None within

      job_left : get_or state.machine.slots i None ≡ None → state.machine.given < job_count table keys →
          words_left table keys (after_empty table state i (Some (job_at table state.machine.given)))
          ≡ words_left table keys state
      job_left empty few =
          let given : ℕ = state.machine.given in
          let job : Job = job_at table given in
          let there = get_or_from_slice_get (jobs_of table keys) given job job (job_got table keys given few) in
          omega (
            arith,
            sum_by-drop_more (job_words table keys) (jobs_of table keys) given job
                (omega (arith, few, jobs_len table keys)),
            ap (job_words table keys) there,
            slots_change None (Some (begun table job)) empty,
          )

      word_left : (flight : Flight) → get_or state.machine.slots i None ≡ Some flight →
          words_left table keys (after_word table state i flight (word_of table keys flight)) + 1
          ≡ words_left table keys state
      word_left flight busy =
          let in' = subst (λ (slot : Option Flight). IfSome slot (IsInWalk table keys state.machine.given)) busy
          (All-get_or (λ slot. IfSome slot (IsInWalk table keys state.machine.given)) state.machine.slots i None within
          flown.flights) in
          let near = nears state.machine.given flight in' in
          elim (cases_Bool (is_match (word_of table keys flight))) [
            | inl match ↦ rw match (omega (arith, near.ends match, slots_change (Some flight) None busy))
            | inr on ↦ rw on (omega (
              arith,
              near.goes on,
              slots_change (Some flight) (Some (moved_to (word_of table keys flight) flight)) busy,
            ))
          ]

      pub step_left : (held : Option Flight) → get_or state.machine.slots i None ≡ held →
          words_left table keys (step_of table keys state i held) + cond (is_busy held) 1 0
          ≡ words_left table keys state
      step_left None empty = elim (cases_lt state.machine.given (job_count table keys)) [
        | inl few ↦ rw (job_got table keys state.machine.given few) (omega (arith, job_left empty few))
        | inr all ↦ rw (past_last table keys state.machine.given all) (omega arith)
      ]
      step_left (Some flight) busy = omega (arith, word_left flight busy)

-- a step changes no other slot
module _ (table : TableView) (keys : List ℕ) (state : FlowState) (i other : ℕ) (apart : other ≢ i) where
  -- a job for a slot leaves each other slot as it is
  other_of_job : (job : Option Job) →
      get_or (after_empty table state i job).machine.slots other None ≡ get_or state.machine.slots other None
  other_of_job None = refl
  other_of_job (Some job) = get_or-set_other state.machine.slots i other (Some (begun table job)) None apart

  -- a step of what a slot holds leaves each other slot as it is
  pub other_slot : (held : Option Flight) →
      get_or (step_of table keys state i held).machine.slots other None ≡ get_or state.machine.slots other None
  other_slot None = other_of_job (slice_get (jobs_of table keys) state.machine.given)
  other_slot (Some flight) = elim (cases_Bool (is_match (word_of table keys flight))) [
    | inl match ↦ rw match (get_or-set_other state.machine.slots i other None None apart)
    | inr on ↦ rw on (get_or-set_other state.machine.slots i other (Some (moved_to (word_of table keys flight) flight))
        None apart)
  ]

-- ---- at the beginning and at the end
pieces_left : (table : TableView) (keys ks : List ℕ) →
    sum_by (job_words table keys) (flat_map (jobs_of_key table) ks)
    ≡ sum_by (λ k. key_transitions table (key_at table keys k)) ks
pieces_left table keys [] = refl
pieces_left table keys (k ∷ ks) =
    let key : List ℕ = key_at table keys k in
    omega (
      arith,
      sum_by-append (job_words table keys) (jobs_of_key table k) (flat_map (jobs_of_key table) ks),
      sum_by-map (job_words table keys) (λ trie. record { key = k; trie = trie }) (tries_of table),
      sum_by_from (λ trie. walk_transitions table trie key) 0 (tries_of table),
      pieces_left table keys ks,
      sum_by-cons (λ j. key_transitions table (key_at table keys j)) k ks,
    )

-- before the first step all words are left
pub first_left : (table : TableView) (keys : List ℕ) (width : ℕ) →
    words_left table keys (first_state table keys width) ≡ batch_transitions table keys
first_left table keys width = omega (
  arith,
  pieces_left table keys (range_with_len 0 (keys_in table keys)),
  sum_by_from (λ k. key_transitions table (key_at table keys k)) 0 (range_with_len 0 (keys_in table keys)),
  sum_by-replicate (slot_left table keys) width None,
)

-- empty slots have no words left to take
empty_left : (table : TableView) (keys : List ℕ) (slots : List (Option Flight)) → list_all is_empty slots ≡ true →
    sum_by (slot_left table keys) slots ≡ 0
empty_left table keys [] empty = refl
empty_left table keys (None ∷ slots) empty =
    omega (arith, sum_by-cons (slot_left table keys) None slots, empty_left table keys slots empty)
empty_left table keys (Some flight ∷ slots) empty = absurd (cc empty)

-- a machine that is done has none left
pub done_left : (table : TableView) (keys : List ℕ) (state : FlowState) → IsFlown table keys state →
    is_done state.machine ≡ true → words_left table keys state ≡ 0
done_left table keys state flown done =
    let parts = and_parts (nat_le state.machine.jobs state.machine.given) (list_all is_empty state.machine.slots)
    done in
    let over : nat_le state.machine.jobs state.machine.given ≡ true = parts.0 in
    let all : state.machine.jobs ≤ state.machine.given = grind (arith, nat_tests) in
    omega (
      arith,
      ap (λ (jobs : List Job). sum_by (job_words table keys) jobs)
          (drop_all state.machine.given (jobs_of table keys) (omega (arith, all, flown.jobs, jobs_len table keys))),
      empty_left table keys state.machine.slots parts.1,
    )
