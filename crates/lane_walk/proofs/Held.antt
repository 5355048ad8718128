-- What lanes keep, as slots.
use Rattle.std.proofs.Common.{◌≡◌, ℕ, zero, suc, ◌+◌, ◌<◌, ◌≤◌, ◌&&◌, List, [], ◌∷◌, sym, ap, ◌∙◌, refl, arith}
use Rattle.std.proofs.Common.{get_or, map, set, replicate, cond, true, false, not, Bool, inl, inr, length, take, drop, subst}
use Rattle.std.proofs.Common.{get_or-set_same, length-set}
use Rattle.std.specs.Prelude.{None, Some, Option, count_by, All, IfSome}
use Rattle.std.specs.List.{list_all}
use Rattle.std.proofs.lemmas.Bool.{cases_Bool}
use Rattle.std.proofs.lemmas.List.{get_or-map, map-set, drop-set-lt, length-map}
use Rattle.std.proofs.lemmas.List.Elements.{All-get_or}
use Rattle.flat_table.specs.Sound.{sound_fault}
use Rattle.flat_table.specs.Laws.{WalksStay}
use Rattle.flat_table.specs.Word.{is_match}
use Rattle.flat_table.specs.Table.{TableView}
use Rattle.flat_table.specs.Batch.{keys_in}
use Rattle.flow_core.specs.declared.flight.Flight.{Flight}
use Rattle.flow_core.specs.Jobs.{job_at}
use Rattle.flow_core.specs.Machine.{Machine, state_of, flow_step, is_empty, begun, word_of}
use Rattle.flow_core.specs.Standing.{StandsOver, IsOnWay, LeadsOnward, held_after, rows_after}
use Rattle.flow_core.proofs.Offered.{IsLent, lent, word_step, word_others, word_stands, job_taken, job_stands, none_left}
use Rattle.lane_walk.specs.Turn.{held_in, is_busy, StepsLanes}

-- a lane whose word is no match holds what it keeps
pub held_busy : (flight : Flight) → is_match flight.word ≡ false → held_in flight ≡ Some flight
held_busy flight on = rw on refl

-- and one whose word is a match holds nothing
pub held_none : (flight : Flight) → is_match flight.word ≡ true → held_in flight ≡ None
held_none flight match = rw match refl

-- what isn't so is false
pub not_true : (test : Bool) → not test ≡ true → test ≡ false
not_true true is = absurd (cc is)
not_true false is = refl

-- a slot is empty where the word is a match
pub empty_is : (flight : Flight) → is_empty (held_in flight) ≡ is_match flight.word
empty_is flight = elim (cases_Bool (is_match flight.word)) [
  | inl match ↦ rw match refl
  | inr on ↦ rw on refl
]

-- lanes that keep no flight are empty slots
pub no_flights : (flight : Flight) → held_in flight ≡ None → (n : ℕ) →
    map held_in (replicate n flight) ≡ replicate n None
no_flights flight none zero = refl
no_flights flight none (suc n) = λ i. none i ∷ no_flights flight none n i

-- ---- one lane

-- a lane alone counts as one busy slot exactly if it is busy
pub one_busy : (slots : List (Option Flight)) (lane : ℕ) → lane < length slots →
    count_by is_busy (take 1 (drop lane slots)) ≡ cond (is_busy (get_or slots lane None)) 1 0
one_busy [] lane within = absurd (omega (arith, within))
one_busy (slot ∷ slots) zero within = elim (cases_Bool (is_busy slot)) [
  | inl busy ↦ rw busy refl
  | inr empty ↦ rw empty refl
]
one_busy (slot ∷ slots) (suc lane) within = one_busy slots lane (omega (arith, within))

-- what the step of one lane did
pub record StepsOne (table : TableView) (keys : List ℕ) (before : Machine) (old : List (List ℕ)) (lane : ℕ)
    (now : Machine) (rows : List (List ℕ)) : Type 0 where
  pub within : lane < length before.slots
  pub step : state_of table keys now rows ≡ flow_step table keys (state_of table keys before old) lane
  pub stands : StandsOver table keys now (length rows)
  pub others : drop (keys_in table keys) rows ≡ drop (keys_in table keys) old
  pub later : drop (lane + 1) now.slots ≡ drop (lane + 1) before.slots

module _ {table : TableView} {keys : List ℕ} {before now : Machine} {old rows : List (List ℕ)} {lane : ℕ}
    (s : StepsOne table keys before old lane now rows) where
  -- a step of one lane is one of one lane among many, busy or not
  stepped : (busy : ℕ) → busy ≡ cond (is_busy (get_or before.slots lane None)) 1 0 →
      StepsLanes table keys before old lane 1 now rows busy
  stepped busy is = record {
    state = s.step;
    stands = s.stands;
    others = s.others;
    later = s.later;
    busy_is = is ∙ sym (one_busy before.slots lane s.within);
  }

  -- a step of a busy lane counts as one
  pub busy_stepped : is_busy (get_or before.slots lane None) ≡ true →
      StepsLanes table keys before old lane 1 now rows 1
  busy_stepped busy = stepped 1 (rw busy refl)

  -- a step of an empty lane counts as none
  pub empty_stepped : is_busy (get_or before.slots lane None) ≡ false →
      StepsLanes table keys before old lane 1 now rows 0
  empty_stepped empty = stepped 0 (rw empty refl)

-- ---- what a lane of a machine that is lent keeps

-- what callers see of what is inside
abbrev pub seen : ℕ → ℕ → List Flight → Machine
seen jobs given flights = record { jobs = jobs; given = given; slots = map held_in flights }

-- every slot is empty where every word is a match
pub all_empty : (flights : List Flight) →
    list_all (λ flight. is_match flight.word) flights ≡ list_all is_empty (map held_in flights)
all_empty [] = refl
all_empty (flight ∷ flights) = λ i. sym (empty_is flight) i && all_empty flights i

-- a slot that isn't busy holds nothing
nothing : (held : Option Flight) → is_busy held ≡ false → held ≡ None
nothing None empty = refl
nothing (Some flight) empty = absurd (cc empty)

-- a lane that is busy keeps no match
pub on_of : (flight : Flight) → is_busy (held_in flight) ≡ true → is_match flight.word ≡ false
on_of flight busy = elim (cases_Bool (is_match flight.word)) [
  | inl match ↦ absurd (cc (busy, ap is_busy (held_none flight match)))
  | inr on ↦ on
]

-- what callers see of a lane
pub slot_is : {jobs given : ℕ} (flights : List Flight) {before : Machine} → seen jobs given flights ≡ before →
    (lane : ℕ) → lane < length flights → (d : Flight) → get_or before.slots lane None ≡ held_in (get_or flights lane d)
slot_is flights is lane within d =
    ap (λ (machine : Machine). get_or machine.slots lane None) (sym is)
    ∙ get_or-map held_in flights lane d None within

module _ {table : TableView} {keys : List ℕ} {jobs given : ℕ} (flights : List Flight) {before : Machine}
    (is : seen jobs given flights ≡ before) where
  -- a flight that a lane keeps may go on
  pub lane_on_way : {n : ℕ} → StandsOver table keys before n → (lane : ℕ) → lane < length flights → (d : Flight) →
      is_match (get_or flights lane d).word ≡ false → IsOnWay table keys before.given (get_or flights lane d)
  lane_on_way stands lane within d on =
      let P = λ (held : Option Flight). IfSome held (IsOnWay table keys before.given) in
      let all : All P (map held_in flights) =
      subst (λ (machine : Machine). All P machine.slots) (sym is) stands.flights in
      subst P (get_or-map held_in flights lane d None within ∙ held_busy (get_or flights lane d) on)
      (All-get_or P (map held_in flights) lane None (omega (arith, within, length-map flights held_in)) all)

  -- the machine is lent
  pub lane_lent : {rows : List (List ℕ)} {width lane : ℕ} → StandsOver table keys before (length rows) → lane < width →
      length flights ≡ width → IsLent table keys (seen jobs given flights) before rows lane
  lane_lent stands within told = lent is stands within (length-map flights held_in ∙ told)

-- a busy lane
pub record BusyLane (table : TableView) (keys : List ℕ) (jobs given : ℕ) (flights : List Flight) (before : Machine)
    (rows : List (List ℕ)) (lane : ℕ) (flight : Flight) : Type 0 where
  pub lent : IsLent table keys (seen jobs given flights) before rows lane
  pub holds : get_or (map held_in flights) lane None ≡ Some flight
  pub busy : is_busy (get_or before.slots lane None) ≡ true

-- a lane whose slot is busy keeps the flight of the slot
pub busy_lane : {table : TableView} {keys : List ℕ} {jobs given : ℕ} (flights : List Flight) {before : Machine}
    {rows : List (List ℕ)} {width lane : ℕ} → seen jobs given flights ≡ before →
    StandsOver table keys before (length rows) → lane < width → length flights ≡ width →
    is_busy (get_or before.slots lane None) ≡ true → (d : Flight) →
    BusyLane table keys jobs given flights before rows lane (get_or flights lane d)
busy_lane flights {lane = lane} is stands within told busy d =
    let there : lane < length flights = omega (arith, within, told) in
    let on : is_match (get_or flights lane d).word ≡ false =
    on_of (get_or flights lane d) (ap is_busy (sym (slot_is flights is lane there d)) ∙ busy) in
    record {
      lent = lane_lent flights is stands within told;
      holds = get_or-map held_in flights lane d None there ∙ held_busy (get_or flights lane d) on;
      busy = busy;
    }

-- what becomes of what a lane keeps
module _ {table : TableView} {keys : List ℕ} {jobs given : ℕ} (flights : List Flight) {before : Machine}
    {rows : List (List ℕ)} {lane : ℕ} (l : IsLent table keys (seen jobs given flights) before rows lane) where
  -- the lane is one of the slots
  pub there : lane < length before.slots
  there = omega (arith, l.within, ap (λ (machine : Machine). length machine.slots) l.is)

  -- the lanes after it keep what they kept
  pub later_stay : (next : Flight) →
      drop (lane + 1) (map held_in (set flights lane next)) ≡ drop (lane + 1) before.slots
  later_stay next =
      ap (λ (slots : List (Option Flight)). drop (lane + 1) slots) (map-set held_in flights lane next)
      ∙ drop-set-lt (lane + 1) (map held_in flights) lane (held_in next) (omega arith)
      ∙ ap (λ (machine : Machine). drop (lane + 1) machine.slots) l.is

  -- a busy lane took a word
  pub landed : {flight : Flight} (next : Flight) {new : List (List ℕ)} →
      get_or (map held_in flights) lane None ≡ Some flight →
      is_busy (get_or before.slots lane None) ≡ true →
      held_in next ≡ held_after flight (word_of table keys flight) →
      new ≡ rows_after table flight (word_of table keys flight) rows →
      LeadsOnward table flight (word_of table keys flight) →
      StepsLanes table keys before rows lane 1 (seen jobs given (set flights lane next)) new 1
  landed next {new = new} holds busy held_is new_is onward =
      let m = map-set held_in flights lane next in
      busy_stepped record {
        within = there;
        step = ap (λ (slots : List (Option Flight)). state_of table keys record {
          jobs = jobs;
          given = given;
          slots = slots;
        } new) m ∙ word_step l holds held_is new_is;
        stands = subst (λ (slots : List (Option Flight)). StandsOver table keys record {
          jobs = jobs;
          given = given;
          slots = slots;
        } (length new)) (sym m) (word_stands l holds held_is new_is onward);
        others = word_others l holds held_is new_is;
        later = later_stay next;
      } busy

  module _ (empty : is_busy (get_or before.slots lane None) ≡ false) where
    -- an empty lane holds no flight
    pub holds_none : get_or (map held_in flights) lane None ≡ None
    holds_none = nothing (get_or (map held_in flights) lane None)
        (ap (λ (machine : Machine). is_busy (get_or machine.slots lane None)) l.is ∙ empty)

    -- a flight that begins the next job is on its way
    pub job_on_way : (flight : Flight) → flight ≡ begun table (job_at table given) → given < jobs →
        sound_fault table ≡ None → WalksStay → IsOnWay table keys (given + 1) flight
    job_on_way flight flight_is few sound stay =
        let P = λ (held : Option Flight). IfSome held (IsOnWay table keys (given + 1)) in
        let all = job_stands l holds_none flight_is few sound stay in
        subst P (get_or-set_same (map held_in flights) lane (Some flight) None l.within)
        (All-get_or P (set (map held_in flights) lane (Some flight)) lane None
        (omega (arith, l.within, length-set (map held_in flights) lane (Some flight))) all.flights)

    -- an empty lane took a job
    pub job_begun : (flight : Flight) → flight ≡ begun table (job_at table given) → given < jobs →
        sound_fault table ≡ None → WalksStay →
        StepsLanes table keys before rows lane 1 (seen jobs (given + 1) (set flights lane flight)) rows 0
    job_begun flight flight_is few sound stay =
        let stands = job_stands l holds_none flight_is few sound stay in
        let on_way = job_on_way flight flight_is few sound stay in
        let held : held_in flight ≡ Some flight =
        held_busy flight (stay.node table flight.trie flight.depth flight.word on_way.word) in
        let m : map held_in (set flights lane flight) ≡ set (map held_in flights) lane (Some flight) =
        map-set held_in flights lane flight
        ∙ ap (λ (slot : Option Flight). set (map held_in flights) lane slot) held in
        empty_stepped record {
          within = there;
          step = ap (λ (slots : List (Option Flight)). state_of table keys record {
            jobs = jobs;
            given = given + 1;
            slots = slots;
          } rows) m ∙ job_taken l holds_none flight_is few;
          stands = subst (λ (slots : List (Option Flight)). StandsOver table keys record {
            jobs = jobs;
            given = given + 1;
            slots = slots;
          } (length rows)) (sym m) stands;
          others = refl;
          later = later_stay flight;
        } empty

    -- or found none
    pub no_job : jobs ≤ given → StepsLanes table keys before rows lane 1 before rows 0
    no_job all = empty_stepped record {
      within = there;
      step = none_left l holds_none all;
      stands = l.stands;
      others = refl;
      later = refl;
    } empty
