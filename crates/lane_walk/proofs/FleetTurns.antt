-- What a turn of a fleet makes of the machine that its lanes show.
use Rattle.std.proofs.Common.{◌≡◌, ◌⊎◌, ℕ, zero, suc, ◌+◌, ◌*◌, ◌/◌, ◌%◌, ◌^◌, ◌<◌, ◌≤◌, List, sym, ap, ◌∙◌, refl}
use Rattle.std.proofs.Common.{arith, subst, add-one}
use Rattle.std.proofs.Common.{length, get_or, true, false, inl, inr}
use Rattle.std.specs.Prelude.{None, Some, Option, All, IfSome, nat_lt, slice_index}
use Rattle.std.specs.Int.{bit_at}
use Rattle.std.proofs.lemmas.Bool.{cases_Bool, cases_lt}
use Rattle.std.proofs.lemmas.Bool.Decides.{nat_tests}
use Rattle.std.proofs.lemmas.List.Elements.{All-get_or}
use Rattle.std.proofs.lemmas.List.Sums.{count_by_more_yes, count_by_more_no}
use Rattle.flat_table.specs.Laws.{WalksStay}
use Rattle.flat_table.specs.Sound.{sound_fault}
use Rattle.flat_table.specs.Table.{TableView}
use Rattle.flat_table.specs.Walk.{root_of}
use Rattle.flat_table.specs.Word.{index_of, is_match, is_node}
use Rattle.flat_table.specs.Batch.{keys_in}
use Rattle.scalar_walk.specs.Lanes.{ended}
use Rattle.flow_core.specs.declared.flight.Flight.{Flight}
use Rattle.flow_core.specs.Jobs.{job_at}
use Rattle.flow_core.specs.Machine.{Machine, begun, byte_of, is_empty, moved_to, word_of}
use Rattle.flow_core.specs.Standing.{IsOnWay, held_after}
use Rattle.flow_core.specs.Invariant.{IsInWalk}
use Rattle.flow_core.proofs.Offered.{trie_of_flight}
use Rattle.lane_walk.specs.declared.fleet.Course.{Course}
use Rattle.lane_walk.specs.declared.fleet.Fleet.{Fleet}
use Rattle.lane_walk.specs.Fleet.{IsCourse, IsBegun, StepsOn, TurnsAll, over_bit, set_below}
use Rattle.lane_walk.proofs.Halves.{match_low, on_low}
use Rattle.lane_walk.proofs.KeptLanes.{KeepsOn, slot_case}
use Rattle.lane_walk.proofs.Landing.{node_of}
use Rattle.lane_walk.proofs.Straight.{at_there, byte_at, place_within, word_there}
use Rattle.lane_walk.proofs.WholeTurn.{WentTo, after_turn, room}

-- the numbers of a lane are those of the flight
pub record ShowsFlight (course : Course) (flight : Flight) (word at key : ℕ) : Type 0 where
  pub word_is : word ≡ flight.word
  pub place : at ≡ flight.key * course.len + course.first + flight.depth
  pub key_is : key ≡ flight.key

-- the numbers of a lane are those of what its slot holds: the word is a match, if it is empty
abbrev pub ShowsSlot : Course → Option Flight → ℕ → ℕ → ℕ → Type 0
ShowsSlot course None word at key = is_match word ≡ true
ShowsSlot course (Some flight) word at key = ShowsFlight course flight word at key

-- the lanes of a fleet show a machine
pub record Shows {W : ℕ} (machine : Machine) (fleet : Fleet W) : Type 0 where
  pub jobs : machine.jobs ≡ fleet.course.jobs
  pub given : machine.given ≡ fleet.given
  pub len : length machine.slots ≡ W
  pub each : (lane : ℕ) → lane < W → ShowsSlot fleet.course (get_or machine.slots lane None)
      (slice_index fleet.words lane) (slice_index fleet.ats lane)
      (slice_index fleet.keys lane)

-- the bit of a match is 1
over_match : (word : ℕ) → is_match word ≡ true → over_bit word ≡ 1
over_match word match = elim (cases_lt (word % 2 ^ 32) ended) [
  | inl less ↦ absurd (cc (match, on_low word less))
  | inr past ↦ (let no : nat_lt (word % 2 ^ 32) ended ≡ false = grind (arith, nat_tests) in rw no refl)
]

-- that of a word that leads to a node is 0
over_node : (word : ℕ) → is_match word ≡ false → is_node word ≡ true → over_bit word ≡ 0
over_node word on node = elim (cases_lt (word % 2 ^ 32) ended) [
  | inl less ↦ (let yes : nat_lt (word % 2 ^ 32) ended ≡ true = grind (arith, nat_tests) in rw yes refl)
  | inr past ↦ absurd (cc (match_low word (λ none. node) past, on))
]

-- a lane at the root of the walk of a key shows the flight of the job that was just given out
module _ {W : ℕ} {table : TableView} {keys : List ℕ} {fleet : Fleet W} {lane number given : ℕ}
    (course : IsCourse table keys fleet.course) (sound : sound_fault table ≡ None)
    (whole : length keys ≡ keys_in table keys * table.key_len) (small : length keys < 2 ^ 32)
    (b : IsBegun fleet lane number) (on_way : IsOnWay table keys given (begun table (job_at table number))) where
  -- the number of a job is that of its key, and its trie is the only one
  job_key : (job_at table number).key ≡ number
  job_key = ap (λ (m : ℕ). number / m) course.one ∙ (let whole : number / 1 ≡ number = omega arith in whole)

  job_trie : (job_at table number).trie ≡ 0
  job_trie = ap (λ (m : ℕ). number % m) course.one ∙ (let none : number % 1 ≡ 0 = omega arith in none)

  abbrev first_place : ℕ
  first_place = (job_at table number).key * fleet.course.len + fleet.course.first + 0

  first_there : first_place < length keys
  first_there = at_there {at = first_place} on_way sound course.straight job_trie course.len course.first refl whole

  pub shows_begun : ShowsFlight fleet.course (begun table (job_at table number)) (slice_index fleet.words lane)
      (slice_index fleet.ats lane) (slice_index fleet.keys lane)
  shows_begun =
      let same : (number * fleet.course.len + fleet.course.first) % 2 ^ 32 ≡ first_place % 2 ^ 32 =
      ap (λ (key : ℕ). (key * fleet.course.len + fleet.course.first) % 2 ^ 32) (sym job_key)
      ∙ (let no : (job_at table number).key * fleet.course.len + fleet.course.first ≡ first_place = omega arith in
      ap (λ (n : ℕ). n % 2 ^ 32) no) in
      record {
        word_is = b.word ∙ course.root ∙ ap (λ (trie : ℕ). root_of table trie) (sym job_trie);
        place = omega (arith, b.at, same, first_there, small);
        key_is = b.key_is ∙ sym job_key;
      }

-- what a turn goes by
pub record FleetGoes {W : ℕ} (table : TableView) (keys : List ℕ) (before now : Machine) (old : Fleet W) : Type 0 where
  pub course : IsCourse table keys old.course
  pub stay : WalksStay
  pub sound : sound_fault table ≡ None
  pub bytes : (i : ℕ) → slice_index keys i < 256
  pub whole : length keys ≡ keys_in table keys * table.key_len
  pub small : length keys < 2 ^ 32
  pub flights : All (λ held. IfSome held (IsInWalk table keys before.given)) before.slots
  pub next : All (λ held. IfSome held (IsInWalk table keys now.given)) now.slots
  pub shows : Shows before old
  pub went : WentTo table keys before (length before.slots) now

-- a flight that a slot holds is in its walk
pub in_walk : {table : TableView} {keys : List ℕ} (machine : Machine) →
    All (λ held. IfSome held (IsInWalk table keys machine.given)) machine.slots → (lane : ℕ) →
    lane < length machine.slots → {flight : Flight} → get_or machine.slots lane None ≡ Some flight →
    IsInWalk table keys machine.given flight
in_walk {table = table} {keys = keys} machine all lane within is =
    let P = λ (held : Option Flight). IfSome held (IsInWalk table keys machine.given) in
    subst P is (All-get_or P machine.slots lane None within all)

module _ {W : ℕ} {table : TableView} {keys : List ℕ} {before now : Machine} {old new : Fleet W}
    {rows after : List (List ℕ)} {busy : ℕ} (g : FleetGoes table keys before now old)
    (t : TurnsAll table.words keys old new rows after busy) where
  -- what a lane shows of what its slot holds
  shown : (lane : ℕ) → lane < W → {held : Option Flight} → get_or before.slots lane None ≡ held →
      ShowsSlot old.course held (slice_index old.words lane) (slice_index old.ats lane)
      (slice_index old.keys lane)
  shown lane below is = subst (λ (held : Option Flight). ShowsSlot old.course held (slice_index old.words lane)
      (slice_index old.ats lane) (slice_index old.keys lane)) is (g.shows.each lane below)

  -- the bit of a busy lane is 0
  bit_busy : (lane : ℕ) → lane < W → {flight : Flight} → get_or before.slots lane None ≡ Some flight →
      bit_at t.empty lane ≡ 0
  bit_busy lane below {flight = flight} is =
      let s : ShowsFlight old.course flight (slice_index old.words lane) (slice_index old.ats lane)
      (slice_index old.keys lane) = shown lane below is in
      let on_way = (in_walk before g.flights lane (omega (arith, below, g.shows.len)) is).on_way in
      t.bits lane below ∙ ap over_bit s.word_is
      ∙ over_node flight.word (g.stay.node table flight.trie flight.depth flight.word on_way.word)
      (node_of table flight.trie flight.depth flight.word on_way.word)

  -- that of an empty one is 1
  bit_empty : (lane : ℕ) → lane < W → get_or before.slots lane None ≡ None → bit_at t.empty lane ≡ 1
  bit_empty lane below is = t.bits lane below ∙ over_match (slice_index old.words lane) (shown lane below is)

  -- as many bits are set below a lane as slots are empty
  pub rooms : (n : ℕ) → n ≤ W → set_below t.empty n ≡ room table keys before n
  unfolding set_below
  rooms zero within = refl
  rooms (suc n) within =
      let below : n < W = omega (arith, within) in
      let there : n < length before.slots = omega (arith, below, g.shows.len) in
      let so_far : set_below t.empty n ≡ room table keys before n = rooms n (omega (arith, within)) in
      let next : room table keys before (n + 1) ≡ room table keys before (suc n) =
      ap (room table keys before) (add-one n) in
      elim (slot_case (get_or before.slots n None)) [
        | inl none ↦ omega (
          arith,
          so_far,
          next,
          bit_empty n below none,
          count_by_more_yes is_empty before.slots n None there (ap is_empty none),
        )
        | inr (flight, some) ↦ omega (
          arith,
          so_far,
          next,
          bit_busy n below some,
          count_by_more_no is_empty before.slots n None there (ap is_empty some),
        )
      ]

  -- the numbers of the fleet
  given_is : old.given ≡ before.given
  given_is = sym g.shows.given

  jobs_is : old.course.jobs ≡ before.jobs
  jobs_is = sym g.shows.jobs

  pub course_is : new.course ≡ old.course
  course_is = t.settled.course

  -- how many jobs were given out before the lane took one
  number_is : (lane : ℕ) → lane < W →
      old.given + set_below t.empty lane ≡ before.given + room table keys before lane
  number_is lane below = λ i. given_is i + rooms lane (omega (arith, below)) i

  -- ---- a busy lane
  module _ {lane : ℕ} (below : lane < W) {flight : Flight} (is : get_or before.slots lane None ≡ Some flight) where
    -- its flight is in its walk
    walk : IsInWalk table keys before.given flight
    walk = in_walk before g.flights lane (omega (arith, below, g.shows.len)) is

    -- what it shows
    s : ShowsFlight old.course flight (slice_index old.words lane)
        (slice_index old.ats lane) (slice_index old.keys lane)
    s = shown lane below is

    -- the flight is of the only trie
    first_trie : flight.trie ≡ 0
    first_trie = omega (arith, trie_of_flight walk.on_way, g.course.one)

    there : slice_index old.ats lane < length keys
    there = at_there walk.on_way g.sound g.course.straight first_trie g.course.len g.course.first s.place g.whole

    read : slice_index keys (slice_index old.ats lane) ≡ byte_of table keys flight
    read = byte_at walk.on_way g.sound g.course.straight first_trie g.course.len g.course.first s.place

    -- it takes its word
    step : StepsOn table.words keys old new lane
    step = t.steps lane below (bit_busy lane below is)

    -- which is the next of its flight
    new_word : slice_index new.words lane ≡ word_of table keys flight
    new_word =
        let node : is_node (slice_index old.words lane) ≡ true = ap (λ (word : ℕ). is_node word) s.word_is
        ∙ node_of table flight.trie flight.depth flight.word walk.on_way.word in
        step.word_is node there (place_within walk.on_way g.stay g.sound g.bytes s.word_is read)
        ∙ word_there walk.on_way g.stay g.sound g.bytes s.word_is read

    pub new_key : slice_index new.keys lane ≡ slice_index old.keys lane
    new_key = t.settled.walks lane (inl (bit_busy lane below is))

    -- what it shows after the turn
    shows_busy : get_or now.slots lane None ≡ held_after flight (word_of table keys flight) →
        ShowsSlot old.course (held_after flight (word_of table keys flight)) (slice_index new.words lane)
        (slice_index new.ats lane) (slice_index new.keys lane)
    shows_busy holds = elim (cases_Bool (is_match (word_of table keys flight))) [
      | inl match ↦ (
          let it : is_match (slice_index new.words lane) ≡ true = ap (λ (word : ℕ). is_match word) new_word ∙ match in
          rw match it
          )
      | inr on ↦ (
          let it : ShowsFlight old.course (moved_to (word_of table keys flight) flight) (slice_index new.words lane)
          (slice_index new.ats lane) (slice_index new.keys lane) = record {
            word_is = new_word;
            place = omega (arith, step.place, there, g.small, s.place);
            key_is = new_key ∙ s.key_is;
          } in
          rw on it
          )
    ]

  -- ---- an empty lane
  module _ {lane : ℕ} (below : lane < W) (is : get_or before.slots lane None ≡ None) where
    abbrev number : ℕ
    number = before.given + room table keys before lane

    -- a lane that took a job
    begins : number < before.jobs → IsBegun new lane number
    begins few = subst (IsBegun new lane) (number_is lane below)
        (t.settled.begins lane below (bit_empty lane below is) (omega (arith, number_is lane below, few, jobs_is)))

    shows_job : number < before.jobs → get_or now.slots lane None ≡ Some (begun table (job_at table number)) →
        ShowsFlight old.course (begun table (job_at table number)) (slice_index new.words lane)
        (slice_index new.ats lane) (slice_index new.keys lane)
    shows_job few holds =
        let on_way = (in_walk now g.next lane (omega (arith, below, g.shows.len, g.went.len)) holds).on_way in
        subst (λ (course : Course). ShowsFlight course (begun table (job_at table number)) (slice_index new.words lane)
        (slice_index new.ats lane) (slice_index new.keys lane)) course_is
        (shows_begun (subst (IsCourse table keys) (sym course_is) g.course) g.sound g.whole g.small (begins few) on_way)

    -- a lane that found none keeps its word
    pub idle_is : before.jobs ≤ number →
        (slice_index new.keys lane ≡ slice_index old.keys lane)
        × (slice_index new.words lane ≡ slice_index old.words lane)
    idle_is past =
        let it = t.settled.rests lane below (bit_empty lane below is)
        (omega (arith, number_is lane below, past, jobs_is)) in
        (it.1, it.0)

    shows_empty : get_or now.slots lane None ≡ after_turn table keys before (room table keys before lane) None →
        ShowsSlot old.course (after_turn table keys before (room table keys before lane) None)
        (slice_index new.words lane) (slice_index new.ats lane) (slice_index new.keys lane)
    shows_empty holds = elim (cases_lt number before.jobs) [
      | inl few ↦ (
          let yes : nat_lt number before.jobs ≡ true = grind (arith, nat_tests) in
          let some : after_turn table keys before (room table keys before lane) None
          ≡ Some (begun table (job_at table number)) = rw yes refl in
          rw yes (shows_job few (holds ∙ some))
          )
      | inr past ↦ (
          let no : nat_lt number before.jobs ≡ false = grind (arith, nat_tests) in
          let still : is_match (slice_index new.words lane) ≡ true =
          ap (λ (word : ℕ). is_match word) (idle_is past).1 ∙ shown lane below is in
          rw no still
          )
    ]

  -- ---- all lanes

  -- what a lane shows after the turn
  shows_lane : (lane : ℕ) → lane < W → ShowsSlot new.course (get_or now.slots lane None)
      (slice_index new.words lane) (slice_index new.ats lane) (slice_index new.keys lane)
  shows_lane lane below =
      let P = λ (course : Course) (held : Option Flight). ShowsSlot course held (slice_index new.words lane)
      (slice_index new.ats lane) (slice_index new.keys lane) in
      let holds = g.went.each lane (omega (arith, below, g.shows.len)) in
      subst (λ (course : Course). P course (get_or now.slots lane None)) (sym course_is)
      (elim (slot_case (get_or before.slots lane None)) [
        | inl none ↦ (
            let it = holds ∙ ap (after_turn table keys before (room table keys before lane)) none in
            subst (P old.course) (sym it) (shows_empty below none it)
            )
        | inr (flight, some) ↦ (
            let it = holds ∙ ap (after_turn table keys before (room table keys before lane)) some in
            subst (P old.course) (sym it) (shows_busy below some it)
            )
      ])

  -- so the fleet shows the machine after the turn
  pub shows_on : Shows now new
  shows_on =
      let all : room table keys before (length before.slots) ≡ set_below t.empty W =
      ap (room table keys before) g.shows.len ∙ sym (rooms W (omega arith)) in
      record {
        jobs = g.went.jobs ∙ g.shows.jobs ∙ ap (λ (course : Course). course.jobs) (sym course_is);
        given = elim (cases_lt (before.given + room table keys before (length before.slots)) before.jobs) [
          | inl few ↦ omega (
            arith,
            g.went.some (omega (arith, few)),
            t.settled.some (omega (arith, few, all, given_is, jobs_is)),
            all,
            given_is,
          )
          | inr past ↦ omega (
            arith,
            g.went.all past,
            t.settled.all (omega (arith, past, all, given_is, jobs_is)),
            jobs_is,
          )
        ];
        len = g.went.len ∙ g.shows.len;
        each = shows_lane;
      }

  -- no fewer jobs are given out
  pub given_more : (old.given ≤ new.given) ⊎ (old.course.jobs ≤ new.given)
  given_more = elim (cases_lt old.course.jobs (old.given + set_below t.empty W)) [
    | inl less ↦ inr (omega (arith, t.settled.all (omega (arith, less))))
    | inr past ↦ inl (omega (arith, t.settled.some past))
  ]

  -- and its lanes keep what they are to keep
  pub keeps_on : (used : ℕ) → used ≤ W → (used ≡ W) ⊎ (before.jobs ≤ before.given) →
      KeepsOn table keys before used old.words old.keys rows new.words new.keys after
  keeps_on used few full = record {
    busy_key = λ lane within flight is. new_key (omega (arith, within, few)) is;
    busy_word = λ lane within flight is. ap (λ (word : ℕ). index_of word) (new_word (omega (arith, within, few)) is);
    job_key = λ lane within is less. (begins (omega (arith, within, few)) is less).key_is;
    job_noted = λ lane within is less.
        let below : lane < W = omega (arith, within, few) in
        let it = t.settled.noted lane below (bit_empty lane below is)
        (omega (arith, number_is lane below, less, jobs_is)) in
        let every : used ≡ W = elim full [
          | inl whole ↦ whole
          | inr none ↦ absurd (omega (arith, none, less))
        ] in (
          it.0,
          omega (arith, it.1, every),
          empty_of it.0 it.1 it.2,
          it.3,
          it.4,
        );
    idle = λ lane within is past. idle_is (omega (arith, within, few)) is past;
    others = λ key. elim (t.settled.others key) [
      | inl same ↦ inl same
      | inr (some, (lane, below, bit, key_is, noted)) ↦ (
          let every : used ≡ W = elim full [
            | inl whole ↦ whole
            | inr none ↦ absurd (omega (arith, none, some, given_is, jobs_is))
          ] in
          inr (lane, omega (arith, below, every), empty_of lane below bit, key_is, noted)
          )
    ];
  }
    where
      -- a lane whose bit is 1 was empty
      empty_of : (lane : ℕ) → lane < W → bit_at t.empty lane ≡ 1 → get_or before.slots lane None ≡ None
      empty_of lane below set = elim (slot_case (get_or before.slots lane None)) [
        | inl none ↦ none
        | inr (flight, some) ↦ absurd (omega (arith, set, bit_busy lane below some))
      ]
