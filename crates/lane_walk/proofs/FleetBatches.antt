-- Turns of a fleet, from the first one on until its machine is done.
use Rattle.std.proofs.Common.{◌≡◌, ◌⊎◌, ℕ, ◌+◌, ◌*◌, ◌^◌, ◌<◌, ◌≤◌, ◌&&◌, List, [], ◌∷◌, zero, suc, sym, ap, ◌∙◌, refl}
use Rattle.std.proofs.Common.{arith, subst, add-one, min}
use Rattle.std.proofs.Common.{length, take, drop, get_or, true, false, inl, inr}
use Rattle.std.specs.Prelude.{Bool, None, Some, Option, All, IfSome, count_by, nat_le, nat_lt, slice_index, replicate}
use Rattle.std.specs.List.{range_with_len, list_all}
use Rattle.std.proofs.lemmas.Bool.{cases_lt}
use Rattle.std.proofs.lemmas.Bool.Decides.{nat_tests}
use Rattle.std.proofs.lemmas.List.{get_or-replicate, length-replicate, take_all}
use Rattle.std.proofs.lemmas.List.Sums.{count_by_more_no, count_by_more_yes, fold-append}
use Rattle.std.proofs.lemmas.List.Elements.{All-from_get_or, All-weaker}
use Rattle.flat_table.specs.Laws.{WalksGoStepByStep, WalksStay}
use Rattle.flat_table.specs.Sound.{sound_fault}
use Rattle.flat_table.specs.Table.{TableView}
use Rattle.flat_table.specs.Word.{is_match}
use Rattle.flat_table.specs.Batch.{keys_in}
use Rattle.flow_core.specs.Jobs.{job_at, job_count}
use Rattle.flow_core.specs.Machine.{Machine, FlowState, begun, flow_step, first_machine, first_state, flow_from_first}
use Rattle.flow_core.specs.Machine.{flow_run, is_done, is_empty, turns}
use Rattle.flow_core.specs.Standing.{BatchFits, IsOnWay, StandsOver}
use Rattle.flow_core.proofs.Offered.{from_first, turns-more, turns_are_slots}
use Rattle.flow_core.specs.Invariant.{IsFlown, IsInWalk}
use Rattle.flow_core.specs.declared.flight.Flight.{Flight}
use Rattle.lane_walk.specs.declared.fleet.Course.{Course}
use Rattle.lane_walk.specs.declared.fleet.Fleet.{Fleet}
use Rattle.lane_walk.specs.Fleet.{IsBegun, IsCourse, TurnsAll}
use Rattle.lane_walk.specs.Turn.{IsAfterRun, is_busy}
use Rattle.lane_walk.proofs.Batches.{Flies, Turned, Turns, flies, flown_here, one_turn, turned_more, turned_none}
use Rattle.lane_walk.proofs.Batches.{width_here}
use Rattle.lane_walk.proofs.KeptLanes.{AreKept, all_room, kept_first, kept_on, slot_case}
use Rattle.lane_walk.proofs.FleetTurns.{FleetGoes, Shows, ShowsSlot, course_is, given_more, in_walk}
use Rattle.lane_walk.proofs.FleetTurns.{keeps_on, rooms, shows_begun, shows_on}
use Rattle.lane_walk.proofs.WholeTurn.{WentTo, after_run, after_turn, room, went}

-- so many lanes have keys
abbrev pub used_of : ℕ → Course → ℕ
used_of width course = min width course.jobs

-- what holds of a fleet between turns
pub record FleetKeeps {W : ℕ} (table : TableView) (keys : List ℕ) (machine : Machine) (fleet : Fleet W)
    (rows : List (List ℕ)) : Type 0 where
  pub course : IsCourse table keys fleet.course
  pub shows : Shows machine fleet
  pub began : used_of W fleet.course ≤ fleet.given
  pub small : (lane : ℕ) → lane < W → slice_index fleet.keys lane < fleet.course.jobs
  pub kept : AreKept table keys machine (used_of W fleet.course) fleet.words fleet.keys rows

-- slots are busy where they aren't empty
busy_rest_to : (slots : List (Option Flight)) (n : ℕ) → n ≤ length slots →
    count_by is_busy (take n slots) + count_by is_empty (take n slots) ≡ n
busy_rest_to slots zero within = refl
busy_rest_to slots (suc n) within =
    let there : n < length slots = omega (arith, within) in
    let busy = ap (λ (m : ℕ). count_by is_busy (take m slots)) (add-one n) in
    let empty = ap (λ (m : ℕ). count_by is_empty (take m slots)) (add-one n) in
    let so_far = busy_rest_to slots n (omega (arith, within)) in
    elim (slot_case (get_or slots n None)) [
      | inl none ↦ omega (
        arith,
        busy,
        empty,
        so_far,
        count_by_more_no is_busy slots n None there (ap is_busy none),
        count_by_more_yes is_empty slots n None there (ap is_empty none),
      )
      | inr (flight, some) ↦ omega (
        arith,
        busy,
        empty,
        so_far,
        count_by_more_yes is_busy slots n None there (ap is_busy some),
        count_by_more_no is_empty slots n None there (ap is_empty some),
      )
    ]

busy_rest : (slots : List (Option Flight)) → count_by is_busy slots + count_by is_empty slots ≡ length slots
busy_rest slots = omega (
  arith,
  busy_rest_to slots (length slots) (omega arith),
  ap (λ (them : List (Option Flight)). count_by is_busy them) (take_all (length slots) slots (omega arith)),
  ap (λ (them : List (Option Flight)). count_by is_empty them) (take_all (length slots) slots (omega arith)),
)

-- all words are matches exactly if all slots are empty
pub all_over : (words : List ℕ) (slots : List (Option Flight)) → length words ≡ length slots →
    ((i : ℕ) → i < length words → is_match (get_or words i 0) ≡ is_empty (get_or slots i None)) →
    list_all is_match words ≡ list_all is_empty slots
all_over [] [] long same = refl
all_over [] (slot ∷ slots) long same = absurd (omega (arith, long))
all_over (word ∷ words) [] long same = absurd (omega (arith, long))
all_over (word ∷ words) (slot ∷ slots) long same =
    let first : is_match word ≡ is_empty slot = same 0 (omega arith) in
    let rest : list_all is_match words ≡ list_all is_empty slots =
    all_over words slots (omega (arith, long)) (λ i below. same (suc i) (omega (arith, below))) in
    λ i. first i && rest i

-- a turn of the fleet of a machine that made n turns
module _ {W n : ℕ} {table : TableView} {keys : List ℕ} {fleet new : Fleet W} {old rows after : List (List ℕ)}
    {taken begun steps busy : ℕ} (f : Flies table keys) (bytes : (i : ℕ) → slice_index keys i < 256)
    (few : length keys < 2 ^ 32)
    (t : Turned table keys W n (flow_from_first table keys W (turns W n)).machine old rows taken begun steps
    (FleetKeeps table keys (flow_from_first table keys W (turns W n)).machine fleet rows))
    (a : TurnsAll table.words keys fleet new rows after busy) where
  abbrev pub before : FlowState
  before = flow_from_first table keys W (turns W n)

  abbrev pub next : FlowState
  next = flow_from_first table keys W (turns W (n + 1))

  next_flown : IsFlown table keys next
  next_flown = from_first table keys f.stay f.sound f.bytes W (turns W (n + 1)) (turns_are_slots W (n + 1))

  -- the machine after the turn is so, slot by slot
  went_on : WentTo table keys before.machine (length before.machine.slots) next.machine
  went_on =
      let flown = flown_here f t in
      let it : WentTo table keys before.machine (length before.machine.slots)
      (flow_run table keys before (range_with_len 0 (length before.machine.slots))).machine =
      went table keys before.machine flown.jobs (omega (arith, flown.few, flown.jobs)) before.rows
      (length before.machine.slots) (omega arith) in
      subst (λ (state : FlowState). WentTo table keys before.machine (length before.machine.slots) state.machine)
      (sym (one_turn f t))
      (subst (λ (width : ℕ). WentTo table keys before.machine (length before.machine.slots)
      (flow_run table keys before (range_with_len 0 width)).machine) (sym (width_here f t)) it)

  goes : FleetGoes table keys before.machine next.machine fleet
  goes = record {
    course = t.kept.course;
    stay = f.stay;
    sound = f.sound;
    bytes = bytes;
    whole = t.stands.fits.whole;
    small = few;
    flights = (flown_here f t).flights;
    next = next_flown.flights;
    shows = t.kept.shows;
    went = went_on;
  }

  width_is : length before.machine.slots ≡ W
  width_is = sym (width_here f t)

  -- all lanes are used, or all jobs are given out
  full : (used_of W fleet.course ≡ W) ⊎ (before.machine.jobs ≤ before.machine.given)
  full = elim (cases_lt fleet.course.jobs W) [
    | inl less ↦ inr (omega (arith, less, t.kept.began, t.kept.shows.jobs, t.kept.shows.given))
    | inr past ↦ inl (omega (arith, past))
  ]

  kept_next : AreKept table keys next.machine (used_of W fleet.course) new.words new.keys after
  kept_next = kept_on t.kept.course.one f.stay f.sound bytes (flown_here f t).flights
      (omega (arith, width_is))
      (elim full [
        | inl whole ↦ inl (omega (arith, whole, width_is))
        | inr none ↦ inr none
      ])
      t.kept.kept went_on (keeps_on goes a (used_of W fleet.course) (omega arith) full)

  keeps_next : FleetKeeps table keys next.machine new after
  keeps_next =
      let same : new.course ≡ fleet.course = course_is goes a in
      let jobs : new.course.jobs ≡ fleet.course.jobs = ap (λ (course : Course). course.jobs) same in
      record {
        course = subst (IsCourse table keys) (sym same) t.kept.course;
        shows = shows_on goes a;
        began = elim (given_more goes a) [
          | inl more ↦ omega (arith, jobs, t.kept.began, more)
          | inr all ↦ omega (arith, jobs, all)
        ];
        small = λ lane below. omega (arith, a.settled.small lane below, jobs);
        kept = subst (λ (course : Course). AreKept table keys next.machine (used_of W course) new.words new.keys after)
            (sym same) kept_next;
      }

  -- so the machine made one turn more
  pub fleet_turns : Turns table keys W before.machine next.machine rows after busy
      (FleetKeeps table keys before.machine fleet rows) (FleetKeeps table keys next.machine new after)
  fleet_turns = record {
    machine = subst (λ (width : ℕ). IsAfterRun table keys before.machine (range_with_len 0 width) next.machine) width_is
        (after_run table keys before.machine (flown_here f t).jobs
        (omega (arith, (flown_here f t).few, (flown_here f t).jobs)) went_on);
    busy_is = omega (
      arith,
      a.busy_is,
      rooms goes a W (omega arith),
      ap (λ (slots : List (Option Flight)). count_by is_empty slots)
          (take_all W before.machine.slots (omega (arith, width_is))),
      busy_rest before.machine.slots,
      width_is,
    );
    len = a.settled.len;
    others = subst (λ (m : ℕ). drop m after ≡ drop m rows) t.kept.course.jobs a.settled.past;
    stands = record {
      jobs = next_flown.jobs;
      fits = record {
        whole = t.stands.fits.whole;
        few = t.stands.fits.few;
        room = omega (arith, t.stands.fits.room, a.settled.len);
      };
      flights = All-weaker (λ held. IfSome held (IsInWalk table keys next.machine.given))
          (λ held. IfSome held (IsOnWay table keys next.machine.given)) on_way next.machine.slots next_flown.flights;
    };
    kept = λ _. keeps_next;
  }
    where
      on_way : (held : Option Flight) → IfSome held (IsInWalk table keys next.machine.given) →
          IfSome held (IsOnWay table keys next.machine.given)
      on_way None it = tt
      on_way (Some flight) it = it.on_way

-- ---- the first turn

-- where there is a byte there is a key
pub keys_some : (n len : ℕ) {bytes : ℕ} → bytes ≡ n * len → 0 < bytes → 0 < n
keys_some zero len is some = (let none : 0 * len ≡ 0 = omega arith in absurd (omega (arith, is, some, none)))
keys_some (suc n) len is some = omega arith

-- slots that hold nothing aren't busy
none_busy : (width : ℕ) → count_by is_busy (replicate width None) ≡ 0
none_busy zero = refl
none_busy (suc width) = none_busy width

module _ {W : ℕ} {table : TableView} {keys : List ℕ} {fleet : Fleet W} (f : Flies table keys)
    (course : IsCourse table keys fleet.course) (whole : length keys ≡ keys_in table keys * table.key_len)
    (few : length keys < 2 ^ 32) (given : fleet.given ≡ min W fleet.course.jobs)
    (begun_is : (lane : ℕ) → lane < fleet.given → IsBegun fleet lane lane)
    (empty : (lane : ℕ) → fleet.given ≤ lane → lane < W → is_match (slice_index fleet.words lane) ≡ true)
    (small : (lane : ℕ) → lane < W → slice_index fleet.keys lane < fleet.course.jobs) where
  abbrev pub start : Machine
  start = first_machine table keys W

  abbrev pub first : FlowState
  first = flow_from_first table keys W (turns W 1)

  flown_first : IsFlown table keys first
  flown_first = from_first table keys f.stay f.sound f.bytes W (turns W 1) (turns_are_slots W 1)

  jobs_first : job_count table keys ≡ fleet.course.jobs
  jobs_first = ap (λ (m : ℕ). keys_in table keys * m) course.one
      ∙ (let once : keys_in table keys * 1 ≡ keys_in table keys = omega arith in once) ∙ sym course.jobs

  one_first : flow_from_first table keys W (turns W 1)
      ≡ flow_run table keys (first_state table keys W) (range_with_len 0 W)
  one_first =
      ap (λ (slots : List ℕ). flow_from_first table keys W slots) (turns-more W 0)
      ∙ fold-append (flow_step table keys) (first_state table keys W) (turns W 0) (range_with_len 0 W)

  went_first : WentTo table keys start W first.machine
  went_first = subst (λ (state : FlowState). WentTo table keys start W state.machine) (sym one_first)
      (went table keys start refl (omega arith) (first_state table keys W).rows W
      (omega (arith, length-replicate {A = Option Flight} W None)))

  -- what a slot holds after it
  first_slot : (lane : ℕ) → lane < W →
      get_or first.machine.slots lane None ≡ after_turn table keys start lane None
  first_slot lane below = went_first.each lane below
      ∙ ap (after_turn table keys start (room table keys start lane)) (get_or-replicate W lane None None below)
      ∙ ap (λ (n : ℕ). after_turn table keys start n None) (all_room W lane (omega (arith, below)))

  shows_first : (lane : ℕ) → lane < W → ShowsSlot fleet.course (get_or first.machine.slots lane None)
      (slice_index fleet.words lane) (slice_index fleet.ats lane) (slice_index fleet.keys lane)
  shows_first lane below =
      let P = λ (held : Option Flight). ShowsSlot fleet.course held (slice_index fleet.words lane)
      (slice_index fleet.ats lane) (slice_index fleet.keys lane) in
      elim (cases_lt (0 + lane) (job_count table keys)) [
        | inl less ↦ (
            let yes : nat_lt (0 + lane) (job_count table keys) ≡ true = grind (arith, nat_tests) in
            let same : 0 + lane ≡ lane = omega arith in
            let holds : get_or first.machine.slots lane None ≡ Some (begun table (job_at table lane)) =
            first_slot lane below ∙ rw yes refl ∙ ap (λ (n : ℕ). Some (begun table (job_at table n))) same in
            let on_way = (in_walk first.machine flown_first.flights lane
            (omega (arith, below, went_first.len, length-replicate {A = Option Flight} W None)) holds).on_way in
            subst P (sym holds) (shows_begun course f.sound whole few
            (begun_is lane (omega (arith, below, less, given, jobs_first))) on_way)
            )
        | inr past ↦ (
            let no : nat_lt (0 + lane) (job_count table keys) ≡ false = grind (arith, nat_tests) in
            let holds : get_or first.machine.slots lane None ≡ None = first_slot lane below ∙ rw no refl in
            subst P (sym holds) (empty lane (omega (arith, below, past, given, jobs_first)) below)
            )
      ]

  keeps_first : {rows : List (List ℕ)} → FleetKeeps table keys first.machine fleet rows
  keeps_first = record {
    course = course;
    shows = record {
      jobs = went_first.jobs ∙ jobs_first;
      given = elim (cases_lt (0 + room table keys start W) (job_count table keys)) [
        | inl less ↦ omega (
          arith,
          went_first.some (omega (arith, less)),
          all_room W W (omega arith),
          less,
          given,
          jobs_first,
        )
        | inr past ↦ omega (arith, went_first.all past, all_room W W (omega arith), past, given, jobs_first)
      ];
      len = went_first.len ∙ length-replicate {A = Option Flight} W None;
      each = shows_first;
    };
    began = omega (arith, given);
    small = small;
    kept = kept_first course.one (omega arith) (omega (arith, jobs_first))
        (elim (cases_lt fleet.course.jobs W) [
          | inl less ↦ inr (omega (arith, less, jobs_first))
          | inr past ↦ inl (omega (arith, past))
        ])
        (λ lane below. (begun_is lane (omega (arith, below, given))).key_is) went_first;
  }

  -- the machine made its first turn
  pub turned_first : {rows : List (List ℕ)} {begun_steps : ℕ} → BatchFits table keys (length rows) →
      0 < fleet.course.jobs → Turned table keys W 1 first.machine rows rows 0 begun_steps begun_steps
      (FleetKeeps table keys first.machine fleet rows)
  turned_first {rows = rows} {begun_steps = begun_steps} fits some =
      let stands : StandsOver table keys start (length rows) = record {
        jobs = refl;
        fits = fits;
        flights = All-from_get_or (λ held. IfSome held (IsOnWay table keys 0)) (replicate W None) None
            (λ i below. subst (λ (held : Option Flight). IfSome held (IsOnWay table keys 0))
            (sym (get_or-replicate W i None None
            (omega (arith, below, length-replicate {A = Option Flight} W None)))) tt);
      } in
      let none = turned_none {begun = begun_steps} refl stands in
      let left : nat_le (job_count table keys) 0 ≡ false =
      (let more : 0 < job_count table keys = omega (arith, some, jobs_first) in grind (arith, nat_tests, more)) in
      let not_done : is_done start ≡ false = ap (λ (test : Bool). test && list_all is_empty start.slots) left in
      turned_more f none not_done record {
        machine = after_run_first;
        busy_is = sym (none_busy W);
        len = refl;
        others = refl;
        stands = record {
          jobs = flown_first.jobs;
          fits = fits;
          flights = All-weaker (λ held. IfSome held (IsInWalk table keys first.machine.given))
              (λ held. IfSome held (IsOnWay table keys first.machine.given)) on_way first.machine.slots
              flown_first.flights;
        };
        kept = λ _. keeps_first;
      } (omega arith)
    where
      on_way : (held : Option Flight) → IfSome held (IsInWalk table keys first.machine.given) →
          IfSome held (IsOnWay table keys first.machine.given)
      on_way None it = tt
      on_way (Some flight) it = it.on_way

      after_run_first : IsAfterRun table keys start (range_with_len 0 W) first.machine
      after_run_first =
          let long : length start.slots ≡ W = length-replicate {A = Option Flight} W None in
          subst (λ (n : ℕ). IsAfterRun table keys start (range_with_len 0 n) first.machine) long
          (after_run table keys start refl (omega arith)
          (subst (λ (n : ℕ). WentTo table keys start n first.machine) (sym long) went_first))

-- so does one that begins over a course
pub begun_turned : {W : ℕ} {table : TableView} {keys : List ℕ} {fleet : Fleet W} {rows : List (List ℕ)}
    {course : Course} {begun_steps : ℕ} (f : Flies table keys) → IsCourse table keys course →
    BatchFits table keys (length rows) → 0 < length keys → length keys < 2 ^ 32 → fleet.course ≡ course →
    fleet.given ≡ min W course.jobs → ((lane : ℕ) → lane < fleet.given → IsBegun fleet lane lane) →
    ((lane : ℕ) → fleet.given ≤ lane → lane < W → is_match (slice_index fleet.words lane) ≡ true) →
    ((lane : ℕ) → 0 < course.jobs → slice_index fleet.keys lane < course.jobs) →
    Turned table keys W 1 (flow_from_first table keys W (turns W 1)).machine rows rows 0 begun_steps begun_steps
    (FleetKeeps table keys (flow_from_first table keys W (turns W 1)).machine fleet rows)
begun_turned {W = W} {table = table} {keys = keys} f it fits some few is given begun_is empty small =
    let jobs = ap (λ (course : Course). course.jobs) is in
    let more : 0 < keys_in table keys = keys_some (keys_in table keys) table.key_len fits.whole some in
    turned_first f (subst (IsCourse table keys) (sym is) it) fits.whole few (omega (arith, given, jobs)) begun_is empty
    (λ lane below. omega (arith, small lane (omega (arith, more, it.jobs)), jobs)) fits
    (omega (arith, more, it.jobs, jobs))

-- ---- at the end

-- what the fleet says of its end is so of the machine
pub fleet_done : {W : ℕ} {table : TableView} {keys : List ℕ} {machine : Machine} {fleet : Fleet W}
    {rows : List (List ℕ)} → WalksStay → FleetKeeps table keys machine fleet rows →
    All (λ held. IfSome held (IsInWalk table keys machine.given)) machine.slots → length fleet.words ≡ W →
    (nat_le fleet.course.jobs fleet.given && list_all is_match fleet.words) ≡ is_done machine
fleet_done {table = table} {keys = keys} {machine = machine} {fleet = fleet} stay k flights wide =
    let same : (i : ℕ) → i < length fleet.words →
    is_match (get_or fleet.words i 0) ≡ is_empty (get_or machine.slots i None) =
    λ i below.
    let lane : i < _ = omega (arith, below, wide) in
    of_slot i (omega (arith, lane, k.shows.len)) (get_or machine.slots i None) refl (k.shows.each i lane) in
    let all : list_all is_match fleet.words ≡ list_all is_empty machine.slots =
    all_over fleet.words machine.slots (wide ∙ sym k.shows.len) same in
    λ j. nat_le (sym k.shows.jobs j) (sym k.shows.given j) && all j
  where
    of_slot : (i : ℕ) → i < length machine.slots → (held : Option Flight) → get_or machine.slots i None ≡ held →
        ShowsSlot fleet.course held (slice_index fleet.words i) (slice_index fleet.ats i) (slice_index fleet.keys i) →
        is_match (slice_index fleet.words i) ≡ is_empty held
    of_slot i there None is shows = shows
    of_slot i there (Some flight) is shows =
        let on_way = (in_walk machine flights i there is).on_way in
        ap (λ (word : ℕ). is_match word) shows.word_is
        ∙ stay.node table flight.trie flight.depth flight.word on_way.word

-- no more jobs were given out than there are
pub given_few : {W n : ℕ} {table : TableView} {keys : List ℕ} {fleet : Fleet W} {old rows : List (List ℕ)}
    {taken begun_steps steps : ℕ} → WalksGoStepByStep → WalksStay → sound_fault table ≡ None →
    ((i : ℕ) → get_or keys i 0 < 256) →
    Turned table keys W n (flow_from_first table keys W (turns W n)).machine old rows taken begun_steps steps
    (FleetKeeps table keys (flow_from_first table keys W (turns W n)).machine fleet rows) →
    fleet.given ≤ fleet.course.jobs
given_few law stay sound small t =
    let f : Flies _ _ = flies law stay sound small in
    let flown = flown_here f t in
    omega (arith, flown.few, flown.jobs, t.kept.shows.jobs, t.kept.shows.given)
