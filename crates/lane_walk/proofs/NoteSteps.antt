-- Lanes that note the rows which walks reach, one after the other.
use Rattle.std.proofs.Common.{◌≡◌, ℕ, ◌+◌, ◌-◌, ◌<◌, ◌≤◌, List, sym, ap, ◌∙◌, refl, arith, length, take, drop, get_or}
use Rattle.std.proofs.Common.{set, map}
use Rattle.std.proofs.Common.{subst, true, false, inl, inr, length-set}
use Rattle.std.specs.Prelude.{None, Some, Option, count_by}
use Rattle.std.specs.List.{range_with_len}
use Rattle.std.proofs.lemmas.Bool.{cases_Bool}
use Rattle.std.proofs.lemmas.List.{drop-drop, get_or-drop, map-set}
use Rattle.std.proofs.lemmas.List.Sums.{fold-append}
use Rattle.list_lemmas.proofs.Positions.{range-append}
use Rattle.flat_table.specs.Laws.{WalksStay}
use Rattle.flat_table.specs.Sound.{sound_fault}
use Rattle.flat_table.specs.Table.{TableView}
use Rattle.flat_table.specs.Word.{is_match}
use Rattle.flat_table.specs.Batch.{keys_in}
use Rattle.flow_core.specs.declared.flight.Flight.{Flight}
use Rattle.flow_core.specs.Jobs.{Job, job_at, job_count}
use Rattle.flow_core.specs.Machine.{Machine, FlowState, after_empty, begun, flow_run, flow_step, step_of, word_of}
use Rattle.flow_core.specs.Standing.{StandsOver, LeadsOnward, held_after, rows_after}
use Rattle.flow_core.specs.Laws.{AreBytes}
use Rattle.flow_core.proofs.Offered.{IsLent, job_got, job_stands, key_of_flight, flight_on_way, past_last, word_stands}
use Rattle.lane_walk.specs.Turn.{AreNoted, Notes, NotesLanes, held_in, is_busy}
use Rattle.lane_walk.proofs.Held.{held_busy, holds_none, job_on_way, later_stay, one_busy, seen, there}
use Rattle.lane_walk.proofs.Noted.{noted_job, noted_word, notes_len, notes_others}
use Rattle.lane_walk.proofs.Turns.{counted}

-- the state of this machine with some rows
abbrev pub with_rows : Machine → List (List ℕ) → FlowState
with_rows machine rows = record { machine = machine; rows = rows }

module _ {table : TableView} {keys : List ℕ} {before mid : Machine} {old rows : List (List ℕ)} {from a busy : ℕ}
    (s : NotesLanes table keys before old from a mid rows busy) where
  -- lanes, and then some more
  pub and_noted : {now : Machine} {new : List (List ℕ)} {b more : ℕ} →
      NotesLanes table keys mid rows (from + a) b now new more →
      NotesLanes table keys before old from (a + b) now new (busy + more)
  and_noted {now = now} {b = b} l =
      let at : from + a + b ≡ from + (a + b) = omega arith in
      record {
        machine = λ them.
            let here = flow_run table keys (with_rows before them) (range_with_len from a) in
            l.machine here.rows
            ∙ ap (λ (machine : Machine).
            (flow_run table keys (with_rows machine here.rows) (range_with_len (from + a) b)).machine) (s.machine them)
            ∙ ap (λ (state : FlowState). state.machine)
            (sym (ap (λ (lanes : List ℕ). flow_run table keys (with_rows before them) lanes) (range-append from a b)
            ∙ fold-append (flow_step table keys) (with_rows before them) (range_with_len from a)
            (range_with_len (from + a) b)));
        stands = l.stands;
        len = l.len ∙ s.len;
        others = l.others ∙ s.others;
        later = ap (λ (n : ℕ). drop n now.slots) (sym at) ∙ l.later
            ∙ sym (drop-drop b (from + a) mid.slots)
            ∙ ap (λ (held : List _). drop b held) s.later
            ∙ drop-drop b (from + a) before.slots ∙ ap (λ (n : ℕ). drop n before.slots) at;
        busy_is = (λ i. s.busy_is i + l.busy_is i)
            ∙ ap (λ (held : List _).
            count_by is_busy (take a (drop from before.slots)) + count_by is_busy (take b held)) s.later
            ∙ sym (counted is_busy a b from before.slots);
        noted = λ noted. l.noted (s.noted noted);
      }

  -- a later lane holds what it held
  pub holds_still : (lane : ℕ) → from + a ≤ lane → get_or mid.slots lane None ≡ get_or before.slots lane None
  holds_still lane past =
      let at : from + a + (lane - (from + a)) ≡ lane = omega (arith, past) in
      ap (λ (n : ℕ). get_or mid.slots n None) (sym at)
      ∙ sym (get_or-drop (from + a) mid.slots (lane - (from + a)) None)
      ∙ ap (λ (held : List _). get_or held (lane - (from + a)) None) s.later
      ∙ get_or-drop (from + a) before.slots (lane - (from + a)) None
      ∙ ap (λ (n : ℕ). get_or before.slots n None) at

-- ---- the machine after one step, whatever its rows are
module _ (table : TableView) (keys : List ℕ) (before : Machine) (rows : List (List ℕ)) (lane : ℕ) where
  -- a step of what a slot holds
  step_is : (held : Option Flight) → get_or before.slots lane None ≡ held →
      (flow_step table keys (with_rows before rows) lane).machine
      ≡ (step_of table keys (with_rows before rows) lane held).machine
  step_is held is = ap (λ (it : Option Flight). (step_of table keys (with_rows before rows) lane it).machine) is

  -- a busy slot takes its word
  pub busy_machine : (flight : Flight) → get_or before.slots lane None ≡ Some flight →
      (flow_step table keys (with_rows before rows) lane).machine ≡ record {
        jobs = before.jobs;
        given = before.given;
        slots = set before.slots lane (held_after flight (word_of table keys flight));
      }
  busy_machine flight is = step_is (Some flight) is ∙ elim (cases_Bool (is_match (word_of table keys flight))) [
    | inl match ↦ rw match refl
    | inr on ↦ rw on refl
  ]

  -- an empty slot takes the next job
  pub job_machine : get_or before.slots lane None ≡ None → before.given < job_count table keys →
      (flow_step table keys (with_rows before rows) lane).machine ≡ record {
        jobs = before.jobs;
        given = before.given + 1;
        slots = set before.slots lane (Some (begun table (job_at table before.given)));
      }
  job_machine is few = step_is None is
      ∙ ap (λ (job : Option Job). (after_empty table (with_rows before rows) lane job).machine)
      (job_got table keys before.given few)

  -- or finds none
  pub idle_machine : get_or before.slots lane None ≡ None → job_count table keys ≤ before.given →
      (flow_step table keys (with_rows before rows) lane).machine ≡ before
  idle_machine is all = step_is None is
      ∙ ap (λ (job : Option Job). (after_empty table (with_rows before rows) lane job).machine)
      (past_last table keys before.given all)

-- ---- what becomes of what a lane keeps
module _ {table : TableView} {keys : List ℕ} {jobs given : ℕ} (flights : List Flight) {before : Machine}
    {rows : List (List ℕ)} {lane : ℕ} (l : IsLent table keys (seen jobs given flights) before rows lane) where
  -- a slot that was changed stands in the lanes so
  now_seen : (next : Flight) (held : Option Flight) (given : ℕ) → held_in next ≡ held → before.jobs ≡ jobs →
      record { jobs = before.jobs; given = given; slots = set before.slots lane held }
      ≡ seen jobs given (set flights lane next)
  now_seen next held given is same =
      (λ i. record {
        jobs = same i;
        given = given;
        slots = set (sym l.is i).slots lane (sym is i);
      })
      ∙ ap (λ (slots : List (Option Flight)). record { jobs = jobs; given = given; slots = slots })
      (sym (map-set held_in flights lane next))

  -- a busy lane took a word
  pub landed_noted : {flight : Flight} (next : Flight) {new : List (List ℕ)} →
      get_or (map held_in flights) lane None ≡ Some flight →
      is_busy (get_or before.slots lane None) ≡ true →
      held_in next ≡ held_after flight (word_of table keys flight) →
      Notes flight (word_of table keys flight) rows new →
      LeadsOnward table flight (word_of table keys flight) → sound_fault table ≡ None → AreBytes keys →
      NotesLanes table keys before rows lane 1 (seen jobs given (set flights lane next)) new 1
  landed_noted {flight = flight} next {new = new} holds busy held_is notes onward sound bytes =
      let word : ℕ = word_of table keys flight in
      let holds_before : get_or before.slots lane None ≡ Some flight =
      ap (λ (machine : Machine). get_or machine.slots lane None) (sym l.is) ∙ holds in
      let same : record {
        jobs = before.jobs;
        given = before.given;
        slots = set before.slots lane (held_after flight word);
      }
      ≡ seen jobs given (set flights lane next) =
      ap (λ (n : ℕ). record { jobs = before.jobs; given = n; slots = set before.slots lane (held_after flight word) })
      (sym (ap (λ (machine : Machine). machine.given) l.is))
      ∙ now_seen next (held_after flight word) given held_is (sym (ap (λ (machine : Machine). machine.jobs) l.is)) in
      let key = key_of_flight (flight_on_way table keys (seen jobs given flights) rows lane
      (subst (λ (machine : Machine). StandsOver table keys machine (length rows)) (sym l.is) l.stands)
      l.within flight holds) in
      let m = map-set held_in flights lane next in
      let stood : StandsOver table keys record {
        jobs = jobs;
        given = given;
        slots = set (map held_in flights) lane (held_in next);
      } (length (rows_after table flight word rows)) = word_stands l holds held_is refl onward in
      record {
        machine = λ them. sym same ∙ sym (busy_machine table keys before them lane flight holds_before);
        stands = subst (λ (n : ℕ). StandsOver table keys (seen jobs given (set flights lane next)) n)
            (rows_after_len flight word ∙ sym (notes_len notes))
            (subst (λ (slots : List (Option Flight)). StandsOver table keys record {
              jobs = jobs;
              given = given;
              slots = slots;
            } (length (rows_after table flight word rows))) (sym m) stood);
        len = notes_len notes;
        others = notes_others (keys_in table keys) notes key;
        later = later_stay flights l next;
        busy_is = sym (one_busy before.slots lane (there flights l) ∙ rw busy refl);
        noted = λ noted. subst (λ (machine : Machine). AreNoted table keys machine new) same
            (noted_word (there flights l) holds_before sound bytes onward notes noted);
      }
    where
      rows_after_len : (flight : Flight) (word : ℕ) → length (rows_after table flight word rows) ≡ length rows
      rows_after_len flight word = elim (cases_Bool (is_match word)) [
        | inl match ↦ rw match (length-set rows flight.key _)
        | inr on ↦ rw on refl
      ]

  module _ (empty : is_busy (get_or before.slots lane None) ≡ false) where
    -- the slot holds nothing
    empty_before : get_or before.slots lane None ≡ None
    empty_before = ap (λ (machine : Machine). get_or machine.slots lane None) (sym l.is) ∙ holds_none flights l empty

    -- as many jobs are given out as the machine says
    given_is : given ≡ before.given
    given_is = ap (λ (machine : Machine). machine.given) l.is

    -- there are as many jobs
    jobs_are : jobs ≡ job_count table keys
    jobs_are = ap (λ (machine : Machine). machine.jobs) l.is ∙ l.stands.jobs

    -- an empty lane took a job
    pub job_noted : (flight : Flight) → flight ≡ begun table (job_at table given) → given < jobs →
        sound_fault table ≡ None → WalksStay →
        NotesLanes table keys before rows lane 1 (seen jobs (given + 1) (set flights lane flight)) rows 0
    job_noted flight flight_is few sound stay =
        let stands = job_stands l (holds_none flights l empty) flight_is few sound stay in
        let on_way = job_on_way flights l empty flight flight_is few sound stay in
        let held : held_in flight ≡ Some flight =
        held_busy flight (stay.node table flight.trie flight.depth flight.word on_way.word) in
        let m : map held_in (set flights lane flight) ≡ set (map held_in flights) lane (Some flight) =
        map-set held_in flights lane flight
        ∙ ap (λ (slot : Option Flight). set (map held_in flights) lane slot) held in
        let left : before.given < job_count table keys = omega (arith, few, given_is, jobs_are) in
        let next : Flight = begun table (job_at table before.given) in
        let next_is : flight ≡ next = flight_is ∙ ap (λ (n : ℕ). begun table (job_at table n)) given_is in
        let same : record { jobs = before.jobs; given = before.given + 1; slots = set before.slots lane (Some next) }
        ≡ seen jobs (given + 1) (set flights lane flight) =
        ap (λ (n : ℕ). record { jobs = before.jobs; given = n + 1; slots = set before.slots lane (Some next) })
        (sym given_is)
        ∙ now_seen flight (Some next) (given + 1) (held ∙ ap Some next_is)
        (sym (ap (λ (machine : Machine). machine.jobs) l.is)) in
        record {
          machine = λ them. sym same ∙ sym (job_machine table keys before them lane empty_before left);
          stands = subst (λ (slots : List (Option Flight)). StandsOver table keys record {
            jobs = jobs;
            given = given + 1;
            slots = slots;
          } (length rows)) (sym m) stands;
          len = refl;
          others = refl;
          later = later_stay flights l flight;
          busy_is = sym (one_busy before.slots lane (there flights l) ∙ rw empty refl);
          noted = λ noted. subst (λ (machine : Machine). AreNoted table keys machine rows) same
              (noted_job (there flights l) empty_before left stay sound noted);
        }

    -- or found none
    pub idle_noted : jobs ≤ given → NotesLanes table keys before rows lane 1 before rows 0
    idle_noted all = record {
      machine = λ them. sym (idle_machine table keys before them lane empty_before
          (omega (arith, all, given_is, jobs_are)));
      stands = l.stands;
      len = refl;
      others = refl;
      later = refl;
      busy_is = sym (one_busy before.slots lane (there flights l) ∙ rw empty refl);
      noted = λ noted. noted;
    }
