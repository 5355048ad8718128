-- The jobs of a batch by their numbers, and those that were given out.
use Rattle.std.proofs.Common.{◌≡◌, ℕ, ◌+◌, ◌*◌, ◌/◌, ◌%◌, ◌<◌, ◌≤◌, List, [], ◌∷◌, ◌++◌, sym, ap, ◌∙◌}
use Rattle.std.proofs.Common.{arith, length, take, get_or, length-append, length-take, true, false, subst, inl, inr}
use Rattle.std.specs.Prelude.{flat_map, Contains, slice_get, Some}
use Rattle.std.specs.List.{range_with_len}
use Rattle.std.proofs.Math.Nat.{div-lt_iff_lt-mul, mod-lt, div-add-mod, mul-le-mul_right}
use Rattle.std.proofs.lemmas.List.{length-map, get_or-take, length-take-le, take_more}
use Rattle.std.proofs.lemmas.List.Elements.{Contains-append_left, Contains-push}
use Rattle.std.proofs.lemmas.List.Concat.{get_or-flat_map}
use Rattle.std.proofs.lemmas.List.FromFn.{get_or-range_with_len, length-range_with_len, get_or-map-range_with_len}
use Rattle.std.proofs.lemmas.Option.{slice_get-get_or}
use Rattle.std.proofs.lemmas.Bool.{and_parts, eqb-true, cases_Bool}
use Rattle.flat_table.specs.Table.{TableView}
use Rattle.flat_table.specs.Walk.{tries_of}
use Rattle.flat_table.specs.Batch.{keys_in}
use Rattle.flow_core.specs.Jobs.{Job, jobs_of_key, jobs_of, job_count, job_at}
use Rattle.flow_core.specs.Invariant.{same_job}

-- pieces of one length together
pub even_pieces : {A B : Type 0} (f : A → List B) (size : ℕ) → ((x : A) → length (f x) ≡ size) → (xs : List A) →
    length (flat_map f xs) ≡ length xs * size
even_pieces f size each [] = omega arith
even_pieces f size each (x ∷ xs) =
    omega (arith, length-append (f x) (flat_map f xs), each x, even_pieces f size each xs)

module _ (table : TableView) where
  -- there are as many tries as roots
  tries_len : length (tries_of table) ≡ length table.roots
  tries_len = length-range_with_len 0 (length table.roots)

  -- a key has a job for each trie
  key_jobs_len : (key : ℕ) → length (jobs_of_key table key) ≡ length table.roots
  key_jobs_len key = length-map (tries_of table) (λ trie. record { key = key; trie = trie }) ∙ tries_len

  -- the job of a key and a trie stands at its number
  numbered : (n key trie : ℕ) (d : Job) → key < n → trie < length table.roots →
      get_or (flat_map (jobs_of_key table) (range_with_len 0 n)) (key * length table.roots + trie) d
      ≡ record { key = key; trie = trie }
  numbered n key trie d below within =
      let keys : List ℕ = range_with_len 0 n in
      let before : length (flat_map (jobs_of_key table) (take key keys)) ≡ key * length table.roots =
      even_pieces (jobs_of_key table) (length table.roots) key_jobs_len (take key keys)
      ∙ ap (λ (m : ℕ). m * length table.roots)
      (length-take-le key keys (omega (arith, below, length-range_with_len 0 n))) in
      let is : get_or keys key 0 ≡ key = get_or-range_with_len 0 n key 0 below ∙ omega arith in
      ap (λ (m : ℕ). get_or (flat_map (jobs_of_key table) keys) (m + trie) d) (sym before)
      ∙ get_or-flat_map (jobs_of_key table) keys key trie 0 d (omega (arith, below, length-range_with_len 0 n))
      (omega (arith, within, key_jobs_len (get_or keys key 0)))
      ∙ ap (λ (k : ℕ). get_or (jobs_of_key table k) trie d) is
      ∙ get_or-map-range_with_len (λ t. record { key = key; trie = t }) 0 (length table.roots) trie trie d within
      (omega arith)

-- jobs that are one are equal
pub same_job-path : (one other : Job) → same_job one other ≡ true → one ≡ other
same_job-path one other same =
    let parts = and_parts _ _ same in
    let keys : one.key ≡ other.key = eqb-true _ _ parts.0 in
    let tries : one.trie ≡ other.trie = eqb-true _ _ parts.1 in
    λ i. record { key = keys i; trie = tries i }

-- the number of a job
abbrev pub number_of : TableView → Job → ℕ
number_of table job = job.key * length table.roots + job.trie

module _ (table : TableView) (keys : List ℕ) where
  -- there is a job for each key and trie
  pub jobs_len : length (jobs_of table keys) ≡ job_count table keys
  jobs_len = even_pieces (jobs_of_key table) (length table.roots) (key_jobs_len table)
      (range_with_len 0 (keys_in table keys))
      ∙ ap (λ (n : ℕ). n * length table.roots) (length-range_with_len 0 (keys_in table keys))

  module _ (m : ℕ) (below : m < job_count table keys) where
    -- if there is a job, there is a trie
    some_tries : 0 < length table.roots
    some_tries = grind (arith)

    -- the key of a job is there
    key_below : m / length table.roots < keys_in table keys
    key_below = (div-lt_iff_lt-mul some_tries).1 below

    -- the number of a job's trie is below that of all tries
    trie_below : m % length table.roots < length table.roots
    trie_below = mod-lt m some_tries

    -- the number of a job is made of its key and its trie
    number_is : m / length table.roots * length table.roots + m % length table.roots ≡ m
    number_is = omega (arith, div-add-mod m (length table.roots))

    -- job m of all
    pub job_is : (d : Job) → get_or (jobs_of table keys) m d ≡ job_at table m
    job_is d = ap (λ (k : ℕ). get_or (jobs_of table keys) k d) (sym number_is)
        ∙ numbered table (keys_in table keys) (m / length table.roots) (m % length table.roots) d key_below trie_below

    -- the job of a number stands at that place among all
    pub job_got : slice_get (jobs_of table keys) m ≡ Some (job_at table m)
    job_got = slice_get-get_or (jobs_of table keys) m (job_at table m) (omega (arith, below, jobs_len))
        ∙ ap Some (job_is (job_at table m))

    -- it is of a key and a trie that are there
    pub key_there : (job_at table m).key < keys_in table keys
    key_there = key_below

    -- the trie of a job is there
    pub trie_there : (job_at table m).trie < length table.roots
    trie_there = trie_below

    -- the number of the job is the one that it was found by
    pub numbered_is : number_of table (job_at table m) ≡ m
    numbered_is = number_is

-- a job that was given out: its number is below theirs
pub record IsGivenOut (table : TableView) (keys : List ℕ) (given : ℕ) (job : Job) : Type 0 where
  pub key : job.key < keys_in table keys
  pub trie : job.trie < length table.roots
  pub number : number_of table job < given

module _ (table : TableView) (keys : List ℕ) where
  -- a job among the first ones was given out
  pub given_out : (given : ℕ) (job : Job) → Contains (take given (jobs_of table keys)) job →
      IsGivenOut table keys given job
  given_out given job (m, below, is) =
      let jobs : List Job = jobs_of table keys in
      let early : m < given = omega (arith, below, length-take given jobs) in
      let there : m < job_count table keys = omega (arith, below, length-take given jobs, jobs_len table keys) in
      let same : job_at table m ≡ job = sym (job_is table keys m there job) ∙ sym (get_or-take given jobs m job early)
      ∙ is in
      subst (IsGivenOut table keys given) same record {
        key = key_there table keys m there;
        trie = trie_there table keys m there;
        number = omega (arith, early, numbered_is table keys m there);
      }

  module _ (given : ℕ) (few : given < job_count table keys) where
    -- one job more
    pub given_more : take (given + 1) (jobs_of table keys)
        ≡ take given (jobs_of table keys) ++ job_at table given ∷ []
    given_more =
        take_more (jobs_of table keys) given (job_at table given) (omega (arith, few, jobs_len table keys))
        ∙ ap (λ (job : Job). take given (jobs_of table keys) ++ job ∷ [])
        (job_is table keys given few (job_at table given))

    -- a job that was given out still is when one more is
    pub still_given : (job : Job) → Contains (take given (jobs_of table keys)) job →
        Contains (take (given + 1) (jobs_of table keys)) job
    still_given job in' = subst (λ (jobs : List Job). Contains jobs job) (sym given_more)
        (Contains-append_left (take given (jobs_of table keys)) (job_at table given ∷ []) job in')

    -- the next job is given out then
    pub now_given : Contains (take (given + 1) (jobs_of table keys)) (job_at table given)
    now_given = subst (λ (jobs : List Job). Contains jobs (job_at table given)) (sym given_more)
        (Contains-push (take given (jobs_of table keys)) (job_at table given))

    -- which is none of those before
    pub is_new : (job : Job) → Contains (take given (jobs_of table keys)) job →
        same_job job (job_at table given) ≡ false
    is_new job in' = elim (cases_Bool (same_job job (job_at table given))) [
      | inl same ↦ absurd (omega (
        arith,
        (given_out given job in').number,
        numbered_is table keys given few,
        ap (λ (j : Job). number_of table j) (same_job-path job (job_at table given) same),
      ))
      | inr other ↦ other
    ]

-- The job of a key and a trie has a number below that of all jobs, and is found by it.
pub number_there : (table : TableView) (keys : List ℕ) (key trie : ℕ) → key < keys_in table keys →
    trie < length table.roots → (key * length table.roots + trie < job_count table keys)
    × (job_at table (key * length table.roots + trie) ≡ record { key = key; trie = trie })
number_there table keys key trie below within =
    let m : ℕ = key * length table.roots + trie in
    let next : key + 1 ≤ keys_in table keys = omega (arith, below) in
    let few : m < job_count table keys = omega (arith, within, mul-le-mul_right (length table.roots) next) in (
      few,
      sym (job_is table keys m few (job_at table m))
          ∙ numbered table (keys_in table keys) key trie (job_at table m) below within,
    )
