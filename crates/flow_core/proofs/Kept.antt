-- What holds of every state of a flow machine is kept by each step.
use Rattle.std.proofs.Common.{◌≡◌, ℕ, ◌≢◌, ◌+◌, ◌<◌, ◌==◌, List, [], ◌∷◌, ◌++◌, sym, ap, ◌∙◌, refl, arith}
use Rattle.std.proofs.Common.{length, take, get_or, set, map, true, false, not, Bool, ◌&&◌, inl, inr, subst}
use Rattle.std.proofs.Common.{get_or-set_same, get_or-set_other, length-set, filter, append-nil}
use Rattle.std.specs.Prelude.{slice_index, None, Some, Option, All, IfSome, max, Contains}
use Rattle.std.proofs.lemmas.Bool.{cases_Bool, cases_lt, cases_eq, eqb-true, eq-eqb}
use Rattle.std.proofs.lemmas.List.{get_or_past}
use Rattle.std.proofs.lemmas.List.Elements.{All-set, All-get_or, All-weaker, All-from_get_or}
use Rattle.std.proofs.lemmas.List.Elements.{All-contains_itself, filter-append, filter_agree}
use Rattle.std.proofs.lemmas.List.Folds.{list_any_at, list_any_none}
use Rattle.std.proofs.lemmas.List.FromFn.{get_or-map-range_with_len}
use Rattle.table_sizes.specs.Sizes.{row_len}
use Rattle.flat_table.specs.Word.{index_of, is_match}
use Rattle.flat_table.specs.Table.{TableView}
use Rattle.flat_table.specs.Walk.{greatest}
use Rattle.flow_core.specs.declared.flight.Flight.{Flight}
use Rattle.flow_core.specs.Jobs.{Job, job_count, job_at, jobs_of}
use Rattle.flow_core.specs.Rows.{joined_row}
use Rattle.flow_core.specs.Machine.{FlowState, begun, word_of, moved_to, after_empty, after_node, after_match}
use Rattle.flow_core.specs.Standing.{job_of}
use Rattle.flow_core.specs.Invariant.{IsFlown, IsInWalk, same_job, holds, is_held, is_ended, ended_jobs, word_reached}
use Rattle.flow_core.proofs.Given.{given_out, still_given, is_new, given_more}
use Rattle.flow_core.proofs.Given.{same_job-path}
use Rattle.flow_core.proofs.Slots.{one_more_passes}
use Rattle.flow_core.proofs.Flying.{Takes}
use Rattle.list_lemmas.proofs.Maps.{filter_where}
use Rattle.list_lemmas.proofs.Elements.{any-set_alike}
use Rattle.list_lemmas.proofs.Tests.{and_false}

-- a slot past the last holds nothing
nothing_past : (slots : List (Option Flight)) (i : ℕ) (job : Job) → holds job (get_or slots i None) ≡ true →
    i < length slots
nothing_past slots i job held = elim (cases_lt i (length slots)) [
  | inl within ↦ within
  | inr past ↦ absurd (cc (ap (holds job) (get_or_past slots i None past), held))
]

-- a job compares as one with itself
pub same_itself : (job : Job) → same_job job job ≡ true
same_itself job = rw (eq-eqb job.key job.key refl, eq-eqb job.trie job.trie refl) refl

-- ---- a word of two joined rows
joined_word : (one other : List ℕ) (category : ℕ) → category < row_len →
    slice_index (joined_row one other) category ≡ max (slice_index one category) (slice_index other category)
unfolding joined_row
joined_word one other category below =
    get_or-map-range_with_len (λ c. max (slice_index one c) (slice_index other c)) 0 row_len category category 0 below
    (omega arith)

-- no two slots hold the same job
abbrev Once : List (Option Flight) → Type 0
Once slots = (job : Job) (one other : ℕ) → holds job (get_or slots one None) ≡ true →
    holds job (get_or slots other None) ≡ true → one ≡ other

-- ---- a slot changes
module _ (slots : List (Option Flight)) (i : ℕ) (within : i < length slots) (once : Once slots) where
  -- and no other slot holds the job that it holds now
  once-set : (held : Option Flight) →
      ((job : Job) (other : ℕ) → holds job held ≡ true → other ≢ i → holds job (get_or slots other None) ≡ true → ⊥) →
      Once (set slots i held)
  once-set held alone job one other first second =
      let here = λ (k : ℕ) (e : k ≡ i) (is : holds job (get_or (set slots i held) k None) ≡ true).
      let it : holds job held ≡ true =
      ap (holds job) (sym (get_or-set_same slots i held None within))
      ∙ ap (λ (n : ℕ). holds job (get_or (set slots i held) n None)) (sym e) ∙ is in it in
      let there = λ (k : ℕ) (e : k ≢ i) (is : holds job (get_or (set slots i held) k None) ≡ true).
      let it : holds job (get_or slots k None) ≡ true =
      ap (holds job) (sym (get_or-set_other slots i k held None e)) ∙ is in it in
      elim (cases_eq one i) [
        | inl a ↦ elim (cases_eq other i) [
          | inl b ↦ a ∙ sym b
          | inr b ↦ absurd (alone job other (here one a first) b (there other b second))
        ]
        | inr a ↦ elim (cases_eq other i) [
          | inl b ↦ absurd (alone job one (here other b second) a (there one a first))
          | inr b ↦ once job one other (there one a first) (there other b second)
        ]
      ]

  -- a job that only this slot held is held no more where the slot is emptied
  released : (job : Job) → holds job (get_or slots i None) ≡ true → is_held (set slots i None) job ≡ false
  released job held = list_any_none (holds job) (set slots i None)
      (All-from_get_or (λ slot. holds job slot ≡ false) (set slots i None) None (λ k below. elim (cases_eq k i) [
        | inl a ↦ ap (λ (n : ℕ). holds job (get_or (set slots i None) n None)) a
            ∙ ap (holds job) (get_or-set_same slots i None None within)
        | inr b ↦ elim (cases_Bool (holds job (get_or (set slots i None) k None))) [
          | inl yes' ↦ absurd (b (once job k i
              (ap (holds job) (sym (get_or-set_other slots i k None None b)) ∙ yes') held))
          | inr no' ↦ no'
        ]
      ]))

-- what a slot holds now
held_now : (slots : List (Option Flight)) (i : ℕ) (within : i < length slots) (job : Job) (held : Option Flight) →
    holds job held ≡ true → is_held (set slots i held) job ≡ true
held_now slots i within job held is =
    list_any_at (holds job) (set slots i held) i None (omega (arith, within, length-set slots i held))
    (ap (holds job) (get_or-set_same slots i held None within) ∙ is)

-- a job that a slot holds was given out
held_given : (table : TableView) (keys : List ℕ) (given : ℕ) (slots : List (Option Flight)) →
    All (λ held. IfSome held (IsInWalk table keys given)) slots → (job : Job) (k : ℕ) →
    holds job (get_or slots k None) ≡ true → Contains (take given (jobs_of table keys)) job
held_given table keys given slots flights job k held =
    let P = λ (slot : Option Flight). IfSome slot (IsInWalk table keys given) in
    go (get_or slots k None) (All-get_or P slots k None (nothing_past slots k job held) flights) held
  where
    go : (slot : Option Flight) → IfSome slot (IsInWalk table keys given) → holds job slot ≡ true →
        Contains (take given (jobs_of table keys)) job
    go None flight is = absurd (cc is)
    go (Some flight) in' is =
        subst (λ (j : Job). Contains (take given (jobs_of table keys)) j) (sym (same_job-path job (job_of flight) is))
        in'.on_way.job

-- where one job more is given out, a flight may still go on
pub later : (table : TableView) (keys : List ℕ) (given : ℕ) → given < job_count table keys → (slot : Option Flight) →
    IfSome slot (IsInWalk table keys given) → IfSome slot (IsInWalk table keys (given + 1))
later table keys given few None in' = in'
later table keys given few (Some flight) in' = record {
  on_way = record {
    job = still_given table keys given few (job_of flight) in'.on_way.job;
    depth = in'.on_way.depth;
    word = in'.on_way.word;
  };
  word = in'.word;
}

-- a number doesn't compare as one with what its equal differs from
not_same_key : (a b c : ℕ) → a ≡ b → b ≢ c → (a == c) ≡ false
not_same_key a b c is other = elim (cases_Bool (a == c)) [
  | inl same ↦ absurd (other (sym is ∙ eqb-true a c same))
  | inr differ ↦ differ
]

module _ (table : TableView) (keys : List ℕ) where
  -- whether a job is ended is settled by whether it is held
  ended_alike : (one other : List (Option Flight)) (key : ℕ) (job : Job) → is_held one job ≡ is_held other job →
      is_ended one key job ≡ is_ended other key job
  ended_alike one other key job same = ap (λ (b : Bool). job.key == key && not b) same

  module _ (state : FlowState) (i : ℕ) (within : i < length state.machine.slots) (flown : IsFlown table keys state)
    where
      -- ---- an empty slot takes a job
      module _ (empty : get_or state.machine.slots i None ≡ None) (few : state.machine.given < job_count table keys)
          (on_way : IsInWalk table keys (state.machine.given + 1)
          (begun table (job_at table state.machine.given))) where
        new_held : (job : Job) → Contains (take state.machine.given (jobs_of table keys)) job →
            is_held (set state.machine.slots i (Some (begun table (job_at table state.machine.given)))) job
            ≡ is_held state.machine.slots job
        new_held job given =
            any-set_alike (holds job) state.machine.slots i
            (Some (begun table (job_at table state.machine.given))) None within
            (is_new table keys state.machine.given few job given ∙ ap (holds job) (sym empty))

        new_ended : (key : ℕ) → ended_jobs table keys
            record {
              jobs = state.machine.jobs;
              given = state.machine.given + 1;
              slots = set state.machine.slots i (Some (begun table (job_at table state.machine.given)));
            } key ≡ ended_jobs table keys state.machine key
        new_ended key =
            let job : Job = job_at table state.machine.given in
            let slots : List (Option Flight) = set state.machine.slots i (Some (begun table job)) in
            let given : List Job = take state.machine.given (jobs_of table keys) in
            let held : is_held slots job ≡ true =
            held_now state.machine.slots i within job (Some (begun table job)) (same_itself job) in
            let not_ended : is_ended slots key job ≡ false =
            ap (λ (b : Bool). job.key == key && not b) held ∙ and_false (job.key == key) in
            let none : filter (is_ended slots key) (job ∷ []) ≡ [] = rw not_ended refl in
            ap (λ (jobs : List Job). filter (is_ended slots key) jobs)
            (given_more table keys state.machine.given few)
            ∙ filter-append (is_ended slots key) given (job ∷ [])
            ∙ ap (λ (jobs : List Job). filter (is_ended slots key) given ++ jobs) none
            ∙ append-nil (filter (is_ended slots key) given)
            ∙ filter_where (is_ended slots key) (is_ended state.machine.slots key) given
            (All-weaker (Contains given) (λ j. is_ended slots key j ≡ is_ended state.machine.slots key j)
            (λ j in'. ended_alike slots state.machine.slots key j (new_held j in')) given (All-contains_itself given))

        pub takes_job : IsFlown table keys (after_empty table state i (Some (job_at table state.machine.given)))
        takes_job =
            let job : Job = job_at table state.machine.given in
            let P = λ (n : ℕ) (slot : Option Flight). IfSome slot (IsInWalk table keys n) in
            record {
              jobs = flown.jobs;
              few = omega (arith, few);
              flights = All-set (P (state.machine.given + 1)) state.machine.slots i (Some (begun table job)) on_way
                  (All-weaker (P state.machine.given) (P (state.machine.given + 1))
                  (later table keys state.machine.given few) state.machine.slots flown.flights);
              once = once-set state.machine.slots i within flown.once (Some (begun table job))
                  (λ j other here _ there.
                  let in' = held_given table keys state.machine.given state.machine.slots flown.flights j other there in
                  cc (is_new table keys state.machine.given few j in', here));
              len = flown.len;
              rows = λ key category below narrow.
                  flown.rows key category below narrow
                  ∙ ap (λ (jobs : List Job). greatest (map (word_reached table keys category) jobs))
                  (sym (new_ended key));
            }

      -- ---- a busy slot takes a word
      module _ (flight : Flight) (busy : get_or state.machine.slots i None ≡ Some flight)
          (took : Takes table keys state.machine.given flight) where
        -- a word that is no match
        moved_held : (word : ℕ) (job : Job) →
            is_held (set state.machine.slots i (Some (moved_to word flight))) job ≡ is_held state.machine.slots job
        moved_held word job =
            any-set_alike (holds job) state.machine.slots i (Some (moved_to word flight)) None within
            (ap (holds job) (sym busy))

        pub goes_on : is_match (word_of table keys flight) ≡ false →
            IsFlown table keys (after_node state i flight (word_of table keys flight))
        goes_on on =
            let word : ℕ = word_of table keys flight in
            let P = λ (slot : Option Flight). IfSome slot (IsInWalk table keys state.machine.given) in
            let slots : List (Option Flight) = set state.machine.slots i (Some (moved_to word flight)) in
            record {
              jobs = flown.jobs;
              few = flown.few;
              flights = All-set P state.machine.slots i (Some (moved_to word flight)) (took.node on) flown.flights;
              once = once-set state.machine.slots i within flown.once (Some (moved_to word flight))
                  (λ job other here apart there.
                  apart (flown.once job other i there (ap (holds job) busy ∙ here)));
              len = flown.len;
              rows = λ key category below narrow.
                  flown.rows key category below narrow
                  ∙ ap (λ (jobs : List Job). greatest (map (word_reached table keys category) jobs))
                  (filter_agree (is_ended state.machine.slots key) (is_ended slots key)
                  (λ job. ended_alike state.machine.slots slots key job (sym (moved_held word job)))
                  (take state.machine.given (jobs_of table keys)));
            }

        -- a match
        freed_held : (job : Job) → same_job job (job_of flight) ≡ false →
            is_held (set state.machine.slots i None) job ≡ is_held state.machine.slots job
        freed_held job other =
            any-set_alike (holds job) state.machine.slots i None None within
            (sym (ap (holds job) busy ∙ other))

        flight_given : Contains (take state.machine.given (jobs_of table keys)) (job_of flight)
        flight_given =
            held_given table keys state.machine.given state.machine.slots flown.flights (job_of flight) i
            (ap (holds (job_of flight)) busy ∙ same_itself (job_of flight))

        -- the jobs of the flight's own key gain the flight's
        gained : (category : ℕ) →
            greatest (map (word_reached table keys category)
            (filter (is_ended (set state.machine.slots i None) flight.key)
            (take state.machine.given (jobs_of table keys))))
            ≡ max (greatest (map (word_reached table keys category) (ended_jobs table keys state.machine flight.key)))
            (word_reached table keys category (job_of flight))
        gained category =
            let free : is_held (set state.machine.slots i None) (job_of flight) ≡ false =
            released state.machine.slots i within flown.once (job_of flight)
            (ap (holds (job_of flight)) busy ∙ same_itself (job_of flight)) in
            let ended : is_ended (set state.machine.slots i None) flight.key (job_of flight) ≡ true =
            rw (eq-eqb flight.key flight.key refl, free) refl in
            one_more_passes (λ job. same_job job (job_of flight)) (word_reached table keys category)
            (is_ended state.machine.slots flight.key) (is_ended (set state.machine.slots i None) flight.key)
            (job_of flight) (λ job same. same_job-path job (job_of flight) same)
            (λ job other. ended_alike (set state.machine.slots i None) state.machine.slots flight.key job
            (freed_held job other))
            ended (take state.machine.given (jobs_of table keys)) flight_given

        -- those of another key stay
        other_key : (key : ℕ) → flight.key ≢ key →
            filter (is_ended state.machine.slots key) (take state.machine.given (jobs_of table keys))
            ≡ filter (is_ended (set state.machine.slots i None) key) (take state.machine.given (jobs_of table keys))
        other_key key apart =
            let slots : List (Option Flight) = set state.machine.slots i None in
            filter_agree (is_ended state.machine.slots key) (is_ended slots key)
            (λ job. elim (cases_Bool (same_job job (job_of flight))) [
              | inl same ↦ (
                  let off : (job.key == key) ≡ false =
                  not_same_key job.key flight.key key (ap (λ (j : Job). j.key) (same_job-path job (job_of flight) same))
                  apart in
                  rw off refl
                  )
              | inr other ↦ ended_alike state.machine.slots slots key job (sym (freed_held job other))
            ])
            (take state.machine.given (jobs_of table keys))

        pub ends : is_match (word_of table keys flight) ≡ true →
            IsFlown table keys (after_match table state i flight (word_of table keys flight))
        ends match =
            let P = λ (slot : Option Flight). IfSome slot (IsInWalk table keys state.machine.given) in
            let row : List ℕ = get_or table.rows (index_of (word_of table keys flight)) [] in
            let old : List ℕ = get_or state.rows flight.key [] in
            let there : flight.key < length state.rows =
            omega (arith, (given_out table keys state.machine.given (job_of flight) flight_given).key, flown.len) in
            record {
              jobs = flown.jobs;
              few = flown.few;
              flights = All-set P state.machine.slots i None tt flown.flights;
              once = once-set state.machine.slots i within flown.once None (λ job other here apart there. cc here);
              len = length-set state.rows flight.key (joined_row old row) ∙ flown.len;
              rows = λ key category below narrow. elim (cases_eq flight.key key) [
                | inl same ↦ (
                    let reached : slice_index row category ≡ word_reached table keys category (job_of flight) =
                    ap (λ (n : ℕ). slice_index (get_or table.rows n []) category) (took.row match) in
                    let is :
                    slice_index (get_or (set state.rows flight.key (joined_row old row)) flight.key []) category
                    ≡ greatest (map (word_reached table keys category)
                    (filter (is_ended (set state.machine.slots i None) flight.key)
                    (take state.machine.given (jobs_of table keys)))) =
                    ap (λ (r : List ℕ). slice_index r category)
                    (get_or-set_same state.rows flight.key (joined_row old row) [] there)
                    ∙ joined_word old row category narrow
                    ∙ (λ t. max (flown.rows flight.key category (omega (arith, there, flown.len)) narrow t) (reached t))
                    ∙ sym (gained category) in
                    subst (λ (k : ℕ).
                    slice_index (get_or (set state.rows flight.key (joined_row old row)) k []) category
                    ≡ greatest (map (word_reached table keys category)
                    (filter (is_ended (set state.machine.slots i None) k)
                    (take state.machine.given (jobs_of table keys))))) same is
                    )
                | inr apart ↦
                    ap (λ (r : List ℕ). slice_index r category)
                    (get_or-set_other state.rows flight.key key (joined_row old row) [] (λ e. apart (sym e)))
                    ∙ flown.rows key category below narrow
                    ∙ ap (λ (jobs : List Job). greatest (map (word_reached table keys category) jobs))
                    (other_key key apart)
              ];
            }
