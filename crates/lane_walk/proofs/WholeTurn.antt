-- A turn of all slots at once: what each holds after it, by what all held before it.
use Rattle.std.proofs.Common.{◌≡◌, ◌≢◌, ℕ, zero, suc, ◌+◌, ◌<◌, ◌≤◌, List, sym, ap, ◌∙◌, refl, arith, subst, add-one}
use Rattle.std.proofs.Common.{length, take, get_or, set, true, false, inl, inr, length-set, get_or-set_same}
use Rattle.std.proofs.Common.{get_or-set_other}
use Rattle.std.specs.Prelude.{None, Some, Option, count_by, nat_lt, if◌then◌else◌}
use Rattle.std.specs.List.{range_with_len}
use Rattle.std.proofs.lemmas.Bool.{cases_lt, cases_eq}
use Rattle.std.proofs.lemmas.Bool.Decides.{nat_tests}
use Rattle.std.proofs.lemmas.List.{ext_get_or}
use Rattle.std.proofs.lemmas.List.Sums.{count_by_more_yes, count_by_more_no}
use Rattle.flat_table.specs.Table.{TableView}
use Rattle.flow_core.specs.declared.flight.Flight.{Flight}
use Rattle.flow_core.specs.Jobs.{job_at, job_count}
use Rattle.flow_core.specs.Machine.{Machine, FlowState, begun, flow_run, flow_step, is_empty, word_of}
use Rattle.flow_core.specs.Standing.{held_after}
use Rattle.lane_walk.specs.Turn.{IsAfterRun}
use Rattle.lane_walk.proofs.NoteSteps.{with_rows, busy_machine, job_machine, idle_machine}
use Rattle.lane_walk.proofs.Turns.{lane_more}

module _ (table : TableView) (keys : List ℕ) (before : Machine) where
  -- how many of the first slots were empty
  abbrev pub room : ℕ → ℕ
  room n = count_by is_empty (take n before.slots)

  -- what a slot holds after a turn that held this before it, with so many empty slots before it
  abbrev pub after_turn : ℕ → Option Flight → Option Flight
  after_turn n None =
      if nat_lt (before.given + n) before.jobs then Some (begun table (job_at table (before.given + n))) else None
  after_turn n (Some flight) = held_after flight (word_of table keys flight)

  -- the first slots were stepped, once each
  pub record WentTo (n : ℕ) (now : Machine) : Type 0 where
    pub jobs : now.jobs ≡ before.jobs
    pub some : before.given + room n ≤ before.jobs → now.given ≡ before.given + room n
    pub all : before.jobs ≤ before.given + room n → now.given ≡ before.jobs
    pub len : length now.slots ≡ length before.slots
    pub each : (lane : ℕ) → lane < n →
        get_or now.slots lane None ≡ after_turn (room lane) (get_or before.slots lane None)
    pub later : (lane : ℕ) → n ≤ lane → get_or now.slots lane None ≡ get_or before.slots lane None

  -- one more slot holds this
  module _ {n : ℕ} {now : Machine} (w : WentTo n now) (below : n < length before.slots) where
    -- it stands where it should
    set_each : (held : Option Flight) → held ≡ after_turn (room n) (get_or before.slots n None) → (lane : ℕ) →
        lane < n + 1 →
        get_or (set now.slots n held) lane None ≡ after_turn (room lane) (get_or before.slots lane None)
    set_each held is lane within = elim (cases_eq lane n) [
      | inl same ↦ subst (λ (k : ℕ). get_or (set now.slots n held) k None
          ≡ after_turn (room k) (get_or before.slots k None)) (sym same)
          (get_or-set_same now.slots n held None (omega (arith, below, w.len)) ∙ is)
      | inr other ↦ get_or-set_other now.slots n lane held None other ∙ w.each lane (omega (arith, within, other))
    ]

    -- and the later ones hold what they held
    set_later : (held : Option Flight) → (lane : ℕ) → n + 1 ≤ lane →
        get_or (set now.slots n held) lane None ≡ get_or before.slots lane None
    set_later held lane past =
        let other : lane ≢ n = omega (arith, past) in
        get_or-set_other now.slots n lane held None other ∙ w.later lane (omega (arith, past))

    -- a busy slot took its word
    went_busy : (rows : List (List ℕ)) (flight : Flight) → get_or before.slots n None ≡ Some flight →
        WentTo (n + 1) (flow_step table keys (with_rows now rows) n).machine
    went_busy rows flight holds =
        let held : Option Flight = held_after flight (word_of table keys flight) in
        let here : get_or now.slots n None ≡ Some flight = w.later n (omega arith) ∙ holds in
        let same : room (n + 1) ≡ room n =
        count_by_more_no is_empty before.slots n None below (ap is_empty holds) in
        subst (WentTo (n + 1)) (sym (busy_machine table keys now rows n flight here)) record {
          jobs = w.jobs;
          some = λ few. w.some (omega (arith, few, same)) ∙ omega (arith, same);
          all = λ past. w.all (omega (arith, past, same));
          len = length-set now.slots n held ∙ w.len;
          each = set_each held (sym (ap (after_turn (room n)) holds));
          later = set_later held;
        }

    module _ (count : before.jobs ≡ job_count table keys) (holds : get_or before.slots n None ≡ None) where
      -- the slot is empty still
      here : get_or now.slots n None ≡ None
      here = w.later n (omega arith) ∙ holds

      -- so there is one more
      more : room (n + 1) ≡ room n + 1
      more = count_by_more_yes is_empty before.slots n None below (ap is_empty holds)

      -- an empty slot took a job
      went_job : (rows : List (List ℕ)) → before.given + room n < before.jobs →
          WentTo (n + 1) (flow_step table keys (with_rows now rows) n).machine
      went_job rows few =
          let given : now.given ≡ before.given + room n = w.some (omega (arith, few)) in
          let held : Option Flight = Some (begun table (job_at table now.given)) in
          let yes : nat_lt (before.given + room n) before.jobs ≡ true = grind (arith, nat_tests) in
          let is : held ≡ after_turn (room n) (get_or before.slots n None) =
          ap (λ (m : ℕ). Some (begun table (job_at table m))) given
          ∙ sym (ap (after_turn (room n)) holds ∙ rw yes refl) in
          subst (WentTo (n + 1))
          (sym (job_machine table keys now rows n here (omega (arith, few, given, count)))) record {
            jobs = w.jobs;
            some = λ fits. omega (arith, given, more);
            all = λ past. omega (arith, given, more, past, few);
            len = length-set now.slots n held ∙ w.len;
            each = set_each held is;
            later = set_later held;
          }

      -- or found none
      went_idle : (rows : List (List ℕ)) → before.jobs ≤ before.given + room n →
          WentTo (n + 1) (flow_step table keys (with_rows now rows) n).machine
      went_idle rows past =
          let given : now.given ≡ before.jobs = w.all past in
          let no : nat_lt (before.given + room n) before.jobs ≡ false = grind (arith, nat_tests) in
          let none : None ≡ after_turn (room n) (get_or before.slots n None) =
          sym (ap (after_turn (room n)) holds ∙ rw no refl) in
          subst (WentTo (n + 1)) (sym (idle_machine table keys now rows n here (omega (arith, given, count)))) record {
            jobs = w.jobs;
            some = λ fits. omega (arith, given, more, past, fits);
            all = λ still. given;
            len = w.len;
            each = λ lane within. elim (cases_eq lane n) [
              | inl same ↦ subst (λ (k : ℕ). get_or now.slots k None
                  ≡ after_turn (room k) (get_or before.slots k None)) (sym same) (here ∙ none)
              | inr other ↦ w.each lane (omega (arith, within, other))
            ];
            later = λ lane after. w.later lane (omega (arith, after));
          }

    -- it was stepped
    went_more : before.jobs ≡ job_count table keys → (rows : List (List ℕ)) (held : Option Flight) →
        get_or before.slots n None ≡ held → WentTo (n + 1) (flow_step table keys (with_rows now rows) n).machine
    went_more count rows None holds = elim (cases_lt (before.given + room n) before.jobs) [
      | inl few ↦ went_job count holds rows few
      | inr past ↦ went_idle count holds rows past
    ]
    went_more count rows (Some flight) holds = went_busy rows flight holds

  -- before the first step nothing is changed
  went_none : before.given ≤ before.jobs → WentTo 0 before
  went_none few = record {
    jobs = refl;
    some = λ fits. omega arith;
    all = λ past. omega (arith, few, past);
    len = refl;
    each = λ lane below. absurd (omega (arith, below));
    later = λ lane past. refl;
  }

  -- after a step of each of the first slots each of them holds what it should
  pub went : before.jobs ≡ job_count table keys → before.given ≤ before.jobs → (rows : List (List ℕ)) (n : ℕ) →
      n ≤ length before.slots →
      WentTo n (flow_run table keys (with_rows before rows) (range_with_len 0 n)).machine
  went count few rows zero within = went_none few
  went count few rows (suc n) within =
      let so_far : FlowState = flow_run table keys (with_rows before rows) (range_with_len 0 n) in
      let w : WentTo n so_far.machine = went count few rows n (omega (arith, within)) in
      subst (λ (m : ℕ). WentTo m (flow_run table keys (with_rows before rows) (range_with_len 0 m)).machine) (add-one n)
      (subst (λ (state : FlowState). WentTo (n + 1) state.machine)
      (sym (lane_more table keys (with_rows before rows) n))
      (went_more w (omega (arith, within)) count so_far.rows (get_or before.slots n None) refl))

  -- such a machine is the only one
  pub same_machine : {one other : Machine} → WentTo (length before.slots) one → WentTo (length before.slots) other →
      one ≡ other
  same_machine {one = one} {other = other} w v =
      let given : one.given ≡ other.given = elim (cases_lt (before.given + room (length before.slots)) before.jobs) [
        | inl few ↦ omega (arith, w.some (omega (arith, few)), v.some (omega (arith, few)))
        | inr past ↦ omega (arith, w.all past, v.all past)
      ] in
      let jobs : one.jobs ≡ other.jobs = w.jobs ∙ sym v.jobs in
      let slots : one.slots ≡ other.slots = ext_get_or None one.slots other.slots (w.len ∙ sym v.len)
      (λ lane below. w.each lane (omega (arith, below, w.len)) ∙ sym (v.each lane (omega (arith, below, w.len)))) in
      λ i. record { jobs = jobs i; given = given i; slots = slots i }

  -- so it is the machine after a turn, whatever its rows are
  pub after_run : before.jobs ≡ job_count table keys → before.given ≤ before.jobs → {now : Machine} →
      WentTo (length before.slots) now → IsAfterRun table keys before (range_with_len 0 (length before.slots)) now
  after_run count few w = λ rows. same_machine w (went count few rows (length before.slots) (omega arith))
