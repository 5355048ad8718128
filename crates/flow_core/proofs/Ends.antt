-- A flow machine that is done: each row is joined over all tries.
use Rattle.std.proofs.Common.{◌≡◌, ℕ, zero, suc, ◌+◌, ◌%◌, ◌<◌, ◌≤◌, ◌==◌, List, [], ◌∷◌, ◌++◌, sym, ap, ◌∙◌}
use Rattle.std.proofs.Common.{refl, arith, take, get_or, map, true, false, not, Bool, ◌&&◌, inl, inr, filter}
use Rattle.std.proofs.Common.{append-nil}
use Rattle.std.specs.Prelude.{nat_le, slice_index, None, Some, Option, flat_map}
use Rattle.std.specs.List.{range_with_len, list_all}
use Rattle.std.proofs.lemmas.Bool.{and_parts, eq-eqb, cases_eq}
use Rattle.std.proofs.lemmas.Bool.Decides.{nat_tests}
use Rattle.std.proofs.lemmas.List.{take_all}
use Rattle.std.proofs.lemmas.List.Elements.{filter-append, filter_agree}
use Rattle.std.proofs.lemmas.Simd.{map-map}
use Rattle.table_sizes.specs.Sizes.{row_len}
use Rattle.flat_table.specs.Table.{TableView}
use Rattle.flat_table.specs.Walk.{greatest, joined, tries_of, userdatas, walk_row}
use Rattle.flat_table.specs.Batch.{key_at, keys_in}
use Rattle.flow_core.specs.declared.flight.Flight.{Flight}
use Rattle.flow_core.specs.Jobs.{Job, jobs_of_key, jobs_of}
use Rattle.flow_core.specs.Machine.{Machine, FlowState, is_empty, is_done}
use Rattle.flow_core.specs.Invariant.{IsFlown, is_held, is_ended, ended_jobs, word_reached}
use Rattle.flow_core.specs.Laws.{AreJoined}
use Rattle.list_lemmas.proofs.Tests.{and_true}
use Rattle.flow_core.proofs.Given.{jobs_len}

-- where every slot is empty none holds a job
none_held : (slots : List (Option Flight)) (job : Job) → list_all is_empty slots ≡ true → is_held slots job ≡ false
none_held [] job empty = refl
none_held (None ∷ slots) job empty = none_held slots job empty
none_held (Some flight ∷ slots) job empty = absurd (cc empty)

-- what is said of a machine that is done
none_left : (machine : Machine) → is_done machine ≡ true → machine.jobs ≤ machine.given
none_left machine done =
    let test : nat_le machine.jobs machine.given ≡ true =
    (and_parts (nat_le machine.jobs machine.given) (list_all is_empty machine.slots) done).0 in
    grind (arith, nat_tests)

-- each slot of a machine that is done is empty
none_busy : (machine : Machine) → is_done machine ≡ true → list_all is_empty machine.slots ≡ true
none_busy machine done = (and_parts (nat_le machine.jobs machine.given) (list_all is_empty machine.slots) done).1

-- a test that passes each made element, or none
filter-made_all : {A B : Type 0} (p : B → Bool) (f : A → B) (xs : List A) → ((x : A) → p (f x) ≡ true) →
    filter p (map f xs) ≡ map f xs
filter-made_all p f [] all = refl
filter-made_all {B = B} p f (x ∷ xs) all = rw (all x) (ap (λ (ys : List B). f x ∷ ys) (filter-made_all p f xs all))

-- a test that passes no made element leaves none
filter-made_none : {A B : Type 0} (p : B → Bool) (f : A → B) (xs : List A) → ((x : A) → p (f x) ≡ false) →
    filter p (map f xs) ≡ []
filter-made_none p f [] none = refl
filter-made_none p f (x ∷ xs) none = rw (none x) (filter-made_none p f xs none)

-- whether the job is of the key
abbrev is_of : ℕ → Job → Bool
is_of key job = job.key == key

module _ (table : TableView) where
  -- the jobs of the key among those of keys from one on
  later_jobs : (key first n : ℕ) → key < first →
      filter (is_of key) (flat_map (jobs_of_key table) (range_with_len first n)) ≡ []
  later_jobs key first zero past = refl
  later_jobs key first (suc n) past =
      filter-append (is_of key) (jobs_of_key table first)
      (flat_map (jobs_of_key table) (range_with_len (first + 1) n))
      ∙ (λ i. filter-made_none (is_of key) (λ trie. record { key = first; trie = trie }) (tries_of table)
      (λ trie. let apart : (first == key) ≡ false = grind (arith, nat_tests) in apart) i
      ++ later_jobs key (first + 1) n (omega arith) i)

  -- the jobs of a key among those of several keys are its own
  own_jobs : (key first n : ℕ) → first ≤ key → key < first + n →
      filter (is_of key) (flat_map (jobs_of_key table) (range_with_len first n)) ≡ jobs_of_key table key
  own_jobs key first zero from below = absurd (omega arith)
  own_jobs key first (suc n) from below =
      filter-append (is_of key) (jobs_of_key table first)
      (flat_map (jobs_of_key table) (range_with_len (first + 1) n))
      ∙ elim (cases_eq first key) [
        | inl same ↦ (λ i. filter-made_all (is_of key) (λ trie. record { key = first; trie = trie }) (tries_of table)
            (λ trie. eq-eqb first key same) i
            ++ later_jobs key (first + 1) n (omega arith) i)
            ∙ append-nil (jobs_of_key table first)
            ∙ ap (jobs_of_key table) same
        | inr apart ↦ (λ i. filter-made_none (is_of key) (λ trie. record { key = first; trie = trie })
            (tries_of table) (λ trie. let off : (first == key) ≡ false = grind (arith, nat_tests) in off) i
            ++ own_jobs key (first + 1) n (let after : first + 1 ≤ key = omega arith in after) (omega arith) i)
      ]

module _ (table : TableView) (keys : List ℕ) where
  -- the words that the walks of a key reach
  words_reached : (key category : ℕ) →
      greatest (map (word_reached table keys category) (jobs_of_key table key))
      ≡ joined table (key_at table keys key) category
  words_reached key category =
      ap greatest
      (map-map (word_reached table keys category) (λ trie. record { key = key; trie = trie }) (tries_of table)
      ∙ sym (map-map (λ row. slice_index row category)
      (λ trie. get_or table.rows (walk_row table trie (key_at table keys key)) []) (tries_of table)))

  module _ (state : FlowState) (flown : IsFlown table keys state) (done : is_done state.machine ≡ true) where
    -- all jobs were given out
    all_given : take state.machine.given (jobs_of table keys) ≡ jobs_of table keys
    all_given =
        let over : state.machine.jobs ≤ state.machine.given = none_left state.machine done in
        take_all state.machine.given (jobs_of table keys) (omega (arith, over, flown.jobs, jobs_len table keys))

    -- all jobs of each key have ended
    all_ended : (key : ℕ) → key < keys_in table keys →
        ended_jobs table keys state.machine key ≡ jobs_of_key table key
    all_ended key below =
        ap (λ (jobs : List Job). filter (is_ended state.machine.slots key) jobs) all_given
        ∙ filter_agree (is_ended state.machine.slots key) (is_of key)
        (λ job. ap (λ (b : Bool). job.key == key && not b)
        (none_held state.machine.slots job (none_busy state.machine done)) ∙ and_true (job.key == key))
        (jobs_of table keys)
        ∙ own_jobs table key 0 (keys_in table keys) (omega arith) (omega arith)

    -- in each category a row has the greatest word over all tries
    joined_at : (key category : ℕ) → key < keys_in table keys → category < row_len →
        slice_index (get_or state.rows key []) category ≡ joined table (key_at table keys key) category
    joined_at key category below narrow =
        flown.rows key category below narrow
        ∙ ap (λ (jobs : List Job). greatest (map (word_reached table keys category) jobs)) (all_ended key below)
        ∙ words_reached key category

    -- each row is joined
    pub all_joined : AreJoined table keys state.rows
    all_joined = record {
      len = flown.len;
      joined_is = joined_at;
      verdict_is = λ key category below narrow.
          ap (λ (word : ℕ). word % userdatas) (joined_at key category below narrow);
    }
