-- One step of the code is one step of the machine, and the machine may be stepped again.
use Rattle.std.proofs.Common.{◌≡◌, ℕ, ◌+◌, ◌<◌, ◌≤◌, List, [], sym, ap, ◌∙◌, refl, arith, length, take, drop, get_or}
use Rattle.std.proofs.Common.{set, inl, inr, subst, length-set}
use Rattle.std.specs.Prelude.{None, Some, Option, IfSome}
use Rattle.std.proofs.lemmas.Bool.{cases_Bool}
use Rattle.std.proofs.lemmas.List.{get_or-take, drop-set-lt}
use Rattle.std.proofs.Math.Seq.{take-set-lt}
use Rattle.std.proofs.lemmas.List.Elements.{All-set, All-get_or, All-weaker}
use Rattle.flat_table.specs.Word.{index_of, is_match}
use Rattle.flat_table.specs.Table.{TableView}
use Rattle.flat_table.specs.Batch.{keys_in}
use Rattle.flow_core.specs.declared.flight.Flight.{Flight}
use Rattle.flow_core.specs.Jobs.{job_at, job_count}
use Rattle.flow_core.specs.Rows.{joined_row, joined_into}
use Rattle.flow_core.specs.Machine.{Machine, state_of, flow_step, after_word, begun}
use Rattle.flow_core.specs.Machine.{word_of}
use Rattle.flow_core.specs.Standing.{StandsOver, IsOnWay, BatchFits, LeadsOnward, held_after, rows_after, job_of}
use Rattle.flow_core.proofs.Given.{job_got, still_given}
use Rattle.flow_core.proofs.Runs.{past_last}
use Rattle.flat_table.specs.Sound.{sound_fault}
use Rattle.flat_table.specs.Laws.{WalksStay}
use Rattle.flow_core.proofs.Flying.{flies}

module _ (table : TableView) (keys : List ℕ) (machine : Machine) (rows : List (List ℕ)) (slot : ℕ) where
  -- a row that is joined into one of the first is joined into one of the first alone
  joined_first : (key : ℕ) (row : List ℕ) → key < keys_in table keys →
      take (keys_in table keys) (joined_into key row rows) ≡ joined_into key row (take (keys_in table keys) rows)
  joined_first key row below =
      let n : ℕ = keys_in table keys in
      take-set-lt n rows key (joined_row (get_or rows key []) row) below
      ∙ ap (λ (old : List ℕ). set (take n rows) key (joined_row old row)) (sym (get_or-take n rows key [] below))

  -- ---- a busy slot takes a word
  module _ (flight : Flight) (below : flight.key < keys_in table keys) where
    -- the state of the code after a word is that of the machine
    word_taken : (word : ℕ) →
        state_of table keys record {
          jobs = machine.jobs;
          given = machine.given;
          slots = set machine.slots slot (held_after flight word);
        } (rows_after table flight word rows) ≡ after_word table (state_of table keys machine rows) slot flight word
    word_taken word = elim (cases_Bool (is_match word)) [
      | inl match ↦ rw match
          (ap (λ (now : List (List ℕ)). record {
            machine = record {
              jobs = machine.jobs;
              given = machine.given;
              slots = set machine.slots slot None;
            };
            rows = now;
          }) (joined_first flight.key (get_or table.rows (index_of word) []) below))
      | inr on ↦ rw on refl
    ]

    -- the step of a busy slot is one of the machine
    pub busy_step : get_or machine.slots slot None ≡ Some flight →
        state_of table keys record {
          jobs = machine.jobs;
          given = machine.given;
          slots = set machine.slots slot (held_after flight (word_of table keys flight));
        } (rows_after table flight (word_of table keys flight) rows)
        ≡ flow_step table keys (state_of table keys machine rows) slot
    busy_step busy = rw busy (word_taken (word_of table keys flight))

    -- the rows after those of the keys stay as they are
    pub others_stay : (word : ℕ) →
        drop (keys_in table keys) (rows_after table flight word rows) ≡ drop (keys_in table keys) rows
    others_stay word = elim (cases_Bool (is_match word)) [
      | inl match ↦ rw match (drop-set-lt (keys_in table keys) rows flight.key
          (joined_row (get_or rows flight.key []) (get_or table.rows (index_of word) [])) below)
      | inr on ↦ rw on refl
    ]

  -- ---- an empty slot takes a job, or finds none
  module _ (jobs : machine.jobs ≡ job_count table keys) (empty : get_or machine.slots slot None ≡ None) where
    -- a job for an empty slot is a step of the machine
    pub job_step : machine.given < machine.jobs →
        state_of table keys record {
          jobs = machine.jobs;
          given = machine.given + 1;
          slots = set machine.slots slot (Some (begun table (job_at table machine.given)));
        } rows ≡ flow_step table keys (state_of table keys machine rows) slot
    job_step few = rw (empty, job_got table keys machine.given (omega (arith, few, jobs))) refl

    -- without a job the step changes nothing
    pub idle_step : machine.jobs ≤ machine.given →
        state_of table keys machine rows ≡ flow_step table keys (state_of table keys machine rows) slot
    idle_step all = rw (empty, past_last table keys machine.given (omega (arith, all, jobs))) refl

-- the rows are as many after a word
rows_kept : (table : TableView) (flight : Flight) (word : ℕ) (rows : List (List ℕ)) →
    length (rows_after table flight word rows) ≡ length rows
rows_kept table flight word rows = elim (cases_Bool (is_match word)) [
  | inl match ↦ rw match (length-set rows flight.key
      (joined_row (get_or rows flight.key []) (get_or table.rows (index_of word) [])))
  | inr on ↦ rw on refl
]

-- where one job more is given out, a flight may still go on
still_on_way : (table : TableView) (keys : List ℕ) (given : ℕ) → given < job_count table keys →
    (held : Option Flight) → IfSome held (IsOnWay table keys given) → IfSome held (IsOnWay table keys (given + 1))
still_on_way table keys given few None on = on
still_on_way table keys given few (Some flight) on = record {
  job = still_given table keys given few (job_of flight) on.job;
  depth = on.depth;
  word = on.word;
}

-- ---- the machine may be stepped again
module _ (table : TableView) (keys : List ℕ) (machine : Machine) (rows : List (List ℕ)) (slot : ℕ)
    (stands : StandsOver table keys machine (length rows)) where
  -- as many rows fit the batch
  as_many : (new : List (List ℕ)) → length new ≡ length rows → BatchFits table keys (length new)
  as_many new same = record {
    whole = stands.fits.whole;
    few = stands.fits.few;
    room = omega (arith, stands.fits.room, same);
  }

  -- a flight that a slot holds may go on
  pub flight_on_way : slot < length machine.slots → (flight : Flight) → get_or machine.slots slot None ≡ Some flight →
      IsOnWay table keys machine.given flight
  flight_on_way within flight busy =
      let P = λ (held : Option Flight). IfSome held (IsOnWay table keys machine.given) in
      subst P busy (All-get_or P machine.slots slot None within stands.flights)

  -- the machine stands over the batch after a word
  pub stands_word : slot < length machine.slots → (flight : Flight) (word : ℕ) →
      get_or machine.slots slot None ≡ Some flight → LeadsOnward table flight word →
      StandsOver table keys record {
        jobs = machine.jobs;
        given = machine.given;
        slots = set machine.slots slot (held_after flight word);
      } (length (rows_after table flight word rows))
  stands_word within flight word busy onward =
      let P = λ (held : Option Flight). IfSome held (IsOnWay table keys machine.given) in
      let now : P (held_after flight word) = elim (cases_Bool (is_match word)) [
        | inl match ↦ rw match tt
        | inr on ↦ rw on record {
          job = (flight_on_way within flight busy).job;
          depth = onward.depth on;
          word = onward.level on;
        }
      ] in
      record {
        jobs = stands.jobs;
        fits = as_many (rows_after table flight word rows) (rows_kept table flight word rows);
        flights = All-set P machine.slots slot (held_after flight word) now stands.flights;
      }

  -- the machine stands over the batch after a job
  pub stands_job : sound_fault table ≡ None → WalksStay → machine.given < machine.jobs →
      StandsOver table keys record {
        jobs = machine.jobs;
        given = machine.given + 1;
        slots = set machine.slots slot (Some (begun table (job_at table machine.given)));
      } (length rows)
  stands_job sound stay few =
      let P = λ (n : ℕ) (held : Option Flight). IfSome held (IsOnWay table keys n) in
      let left : machine.given < job_count table keys = omega (arith, few, stands.jobs) in
      record {
        jobs = stands.jobs;
        fits = stands.fits;
        flights = All-set (P (machine.given + 1)) machine.slots slot
            (Some (begun table (job_at table machine.given)))
            (flies table keys sound stay machine.given left).on_way
            (All-weaker (P machine.given) (P (machine.given + 1)) (still_on_way table keys machine.given left)
            machine.slots stands.flights);
      }
