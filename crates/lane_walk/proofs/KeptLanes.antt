-- Lanes over a table of one trie that keep a key and a word each, and note it when they begin the next key.
use Rattle.std.proofs.Common.{◌≡◌, ◌⊎◌, ℕ, zero, suc, ◌+◌, ◌-◌, ◌*◌, ◌/◌, ◌<◌, ◌≤◌, List, [], sym, ap, ◌∙◌, refl, arith}
use Rattle.std.proofs.Common.{subst, add-one}
use Rattle.std.proofs.Common.{length, take, get_or, true, false, inl, inr}
use Rattle.std.specs.Prelude.{None, Some, Option, All, IfSome, count_by, nat_le, nat_lt, replicate, slice_index}
use Rattle.std.specs.List.{list_all}
use Rattle.std.proofs.lemmas.Bool.{and_parts, cases_Bool, cases_lt}
use Rattle.std.proofs.lemmas.Bool.Decides.{nat_tests}
use Rattle.std.proofs.lemmas.List.Elements.{All-get_or, All-from_get_or}
use Rattle.std.proofs.lemmas.List.{get_or-replicate, length-replicate}
use Rattle.std.proofs.lemmas.List.Sums.{count_by_more_yes, count_by_more_no}
use Rattle.flat_table.specs.Laws.{WalksStay}
use Rattle.flat_table.specs.Sound.{sound_fault}
use Rattle.flat_table.specs.Table.{TableView}
use Rattle.flat_table.specs.Walk.{walk_row}
use Rattle.flat_table.specs.Word.{index_of, is_match, next_place}
use Rattle.flat_table.specs.Batch.{key_at, keys_in}
use Rattle.flow_core.specs.declared.flight.Flight.{Flight}
use Rattle.flow_core.specs.Jobs.{job_at, job_count}
use Rattle.flow_core.specs.Machine.{Machine, begun, byte_of, first_machine, is_done, is_empty, moved_to, word_of}
use Rattle.flow_core.specs.Standing.{LeadsOnward, held_after}
use Rattle.flow_core.specs.Invariant.{IsInWalk}
use Rattle.flow_core.proofs.Offered.{takes, trie_of_flight}
use Rattle.lane_walk.specs.Fleet.{NotesLast, noted_of}
use Rattle.lane_walk.specs.Turn.{AreAllNoted}
use Rattle.lane_walk.proofs.Landing.{Lands, word_leads}
use Rattle.lane_walk.proofs.Noted.{none_held}
use Rattle.lane_walk.proofs.WholeTurn.{WentTo, after_turn, room}

-- the index in the word is that of the row which the walk of the key reaches, and there is such a row
abbrev pub Names : TableView → List ℕ → ℕ → ℕ → Type 0
Names table keys key word = (index_of word ≡ walk_row table 0 (key_at table keys key))
    × (walk_row table 0 (key_at table keys key) < length table.rows)

-- Each key given out is that of a lane which was used, or is noted. A busy lane walks its key, and an empty one, if it
-- was used, names the row of its key.
pub record AreKept (table : TableView) (keys : List ℕ) (machine : Machine) (used : ℕ) (words_of keys_of : List ℕ)
    (rows : List (List ℕ)) : Type 0 where
  pub walked : (lane : ℕ) → lane < used → (flight : Flight) → get_or machine.slots lane None ≡ Some flight →
      flight.key ≡ get_or keys_of lane 0
  pub ended : (lane : ℕ) → lane < used → get_or machine.slots lane None ≡ None →
      Names table keys (get_or keys_of lane 0) (get_or words_of lane 0)
  pub each : (n : ℕ) → n < machine.given →
      ((lane : ℕ) × (lane < used) × (get_or keys_of lane 0 ≡ n)) ⊎ Names table keys n (noted_of rows n)

-- what a turn makes of the numbers of the lanes, and what it notes
pub record KeepsOn (table : TableView) (keys : List ℕ) (before : Machine) (used : ℕ) (words_of keys_of : List ℕ)
    (rows : List (List ℕ)) (new_words new_keys : List ℕ) (new : List (List ℕ)) : Type 0 where
  pub busy_key : (lane : ℕ) → lane < used → (flight : Flight) → get_or before.slots lane None ≡ Some flight →
      get_or new_keys lane 0 ≡ get_or keys_of lane 0
  pub busy_word : (lane : ℕ) → lane < used → (flight : Flight) → get_or before.slots lane None ≡ Some flight →
      index_of (get_or new_words lane 0) ≡ index_of (word_of table keys flight)
  pub job_key : (lane : ℕ) → lane < used → get_or before.slots lane None ≡ None →
      before.given + room table keys before lane < before.jobs →
      get_or new_keys lane 0 ≡ before.given + room table keys before lane
  pub job_noted : (lane : ℕ) → lane < used → get_or before.slots lane None ≡ None →
      before.given + room table keys before lane < before.jobs →
      (other : ℕ) × (other < used) × (get_or before.slots other None ≡ None)
      × (get_or keys_of other 0 ≡ get_or keys_of lane 0)
      × (noted_of new (get_or keys_of lane 0) ≡ get_or words_of other 0)
  pub idle : (lane : ℕ) → lane < used → get_or before.slots lane None ≡ None →
      before.jobs ≤ before.given + room table keys before lane →
      (get_or new_keys lane 0 ≡ get_or keys_of lane 0) × (get_or new_words lane 0 ≡ get_or words_of lane 0)
  pub others : (key : ℕ) → (noted_of new key ≡ noted_of rows key)
      ⊎ ((lane : ℕ) × (lane < used) × (get_or before.slots lane None ≡ None) × (get_or keys_of lane 0 ≡ key)
      × (noted_of new key ≡ get_or words_of lane 0))

-- ---- which lane takes a job

-- what a slot that isn't there, or is empty, holds
pub slot_case : (held : Option Flight) → (held ≡ None) ⊎ ((flight : Flight) × (held ≡ Some flight))
slot_case None = inl refl
slot_case (Some flight) = inr (flight, refl)

module _ (table : TableView) (keys : List ℕ) (before : Machine) where
  -- of so many empty slots each has a number
  pub empty_at : (n m : ℕ) → n ≤ length before.slots → m < room table keys before n →
      (lane : ℕ) × (lane < n) × (get_or before.slots lane None ≡ None) × (room table keys before lane ≡ m)
  empty_at zero m within less = absurd (omega (arith, less))
  empty_at (suc n) m within less =
      let here : n < length before.slots = omega (arith, within) in
      let whole : m < room table keys before (n + 1) =
      subst (λ (k : ℕ). m < room table keys before k) (sym (add-one n)) less in
      elim (cases_lt m (room table keys before n)) [
        | inl few ↦ (
            let found = empty_at n m (omega (arith, within)) few in
            (found.0, omega (arith, found.1), found.2, found.3)
            )
        | inr past ↦ elim (slot_case (get_or before.slots n None)) [
          | inl none ↦ (
              let more = count_by_more_yes is_empty before.slots n None here (ap is_empty none) in
              (n, omega arith, none, omega (arith, whole, more, past))
              )
          | inr some ↦ (
              let same = count_by_more_no is_empty before.slots n None here (ap is_empty some.1) in
              absurd (omega (arith, whole, same, past))
              )
        ]
      ]

-- ---- a turn

-- the key of the flight that a slot holds
key_in : Option Flight → ℕ
key_in None = 0
key_in (Some flight) = flight.key

-- the same row is named, of the same key
renamed : (table : TableView) (keys : List ℕ) {one other word more : ℕ} → one ≡ other → word ≡ more →
    Names table keys one word → Names table keys other more
renamed table keys {one = one} {more = more} key word names =
    subst (λ (it : ℕ). Names table keys it more) key (subst (λ (it : ℕ). Names table keys one it) word names)

module _ {table : TableView} {keys : List ℕ} {before now : Machine} {used : ℕ}
    {words_of keys_of new_words new_keys : List ℕ} {rows new : List (List ℕ)}
    (one : length table.roots ≡ 1) (stay : WalksStay) (sound : sound_fault table ≡ None)
    (bytes : (i : ℕ) → slice_index keys i < 256)
    (flights : All (λ held. IfSome held (IsInWalk table keys before.given)) before.slots)
    (within : used ≤ length before.slots) (full : (used ≡ length before.slots) ⊎ (before.jobs ≤ before.given))
    (k : AreKept table keys before used words_of keys_of rows)
    (w : WentTo table keys before (length before.slots) now)
    (o : KeepsOn table keys before used words_of keys_of rows new_words new_keys new) where
  -- what a slot holds after the turn
  holds_now : (lane : ℕ) → lane < used → {held : Option Flight} → get_or before.slots lane None ≡ held →
      get_or now.slots lane None ≡ after_turn table keys before (room table keys before lane) held
  holds_now lane below is = w.each lane (omega (arith, below, within))
      ∙ ap (after_turn table keys before (room table keys before lane)) is

  -- a flight is in its walk
  in_walk : (lane : ℕ) → lane < used → (flight : Flight) → get_or before.slots lane None ≡ Some flight →
      IsInWalk table keys before.given flight
  in_walk lane below flight is = subst (λ (held : Option Flight). IfSome held (IsInWalk table keys before.given)) is
      (All-get_or (λ held. IfSome held (IsInWalk table keys before.given)) before.slots lane None
      (omega (arith, below, within)) flights)

  -- a walk that comes to its end names its row
  end_named : (lane : ℕ) (below : lane < used) (flight : Flight) → get_or before.slots lane None ≡ Some flight →
      is_match (word_of table keys flight) ≡ true → Names table keys (get_or new_keys lane 0) (get_or new_words lane 0)
  end_named lane below flight is match =
      let f : IsInWalk table keys before.given flight = in_walk lane below flight is in
      let row = (takes table keys sound before.given flight
      (All-from_get_or (λ byte. byte < 256) keys 0 (λ i there. bytes i)) f).row match in
      let l : Lands table keys flight (next_place flight.word (byte_of table keys flight)) = record {
        given = before.given;
        on_way = f.on_way;
        stay = stay;
        sound = sound;
        bytes = bytes;
        place_is = refl;
      } in
      let onward : LeadsOnward table flight (word_of table keys flight) = word_leads l refl in
      let first : flight.trie ≡ 0 = omega (arith, trie_of_flight f.on_way, one) in
      let reached : index_of (word_of table keys flight) ≡ walk_row table 0 (key_at table keys flight.key) =
      row ∙ ap (λ (trie : ℕ). walk_row table trie (key_at table keys flight.key)) first in
      let named : Names table keys flight.key (get_or new_words lane 0) = (
        o.busy_word lane below flight is ∙ reached,
        omega (arith, onward.row match, reached),
      ) in
      renamed table keys (k.walked lane below flight is ∙ sym (o.busy_key lane below flight is)) refl named

  -- the number of a job that is left is that of its key
  job_is : (n : ℕ) → (job_at table n).key ≡ n
  job_is n = ap (λ (m : ℕ). n / m) one ∙ (let whole : n / 1 ≡ n = omega arith in whole)

  -- a busy lane walks its key
  now_walked : (lane : ℕ) → lane < used → (flight : Flight) → get_or now.slots lane None ≡ Some flight →
      flight.key ≡ get_or new_keys lane 0
  unfolding key_in
  now_walked lane below flight is = elim (slot_case (get_or before.slots lane None)) [
    | inr (old, held) ↦ (
        let went = holds_now lane below held in
        elim (cases_Bool (is_match (word_of table keys old))) [
          | inl match ↦ (
              let none : held_after old (word_of table keys old) ≡ None = rw match refl in
              absurd (cc (sym is ∙ went ∙ none))
              )
          | inr on ↦ (
              let some : held_after old (word_of table keys old) ≡ Some (moved_to (word_of table keys old) old) =
              rw on refl in
              ap key_in (sym is ∙ went ∙ some) ∙ k.walked lane below old held ∙ sym (o.busy_key lane below old held)
              )
        ]
        )
    | inl none ↦ (
        let went = holds_now lane below none in
        let job : ℕ = before.given + room table keys before lane in
        elim (cases_lt job before.jobs) [
          | inl few ↦ (
              let yes : nat_lt job before.jobs ≡ true = grind (arith, nat_tests) in
              let some : after_turn table keys before (room table keys before lane) None
              ≡ Some (begun table (job_at table job)) = rw yes refl in
              ap key_in (sym is ∙ went ∙ some) ∙ job_is job ∙ sym (o.job_key lane below none few)
              )
          | inr past ↦ (
              let no : nat_lt job before.jobs ≡ false = grind (arith, nat_tests) in
              let still : after_turn table keys before (room table keys before lane) None ≡ None = rw no refl in
              absurd (cc (sym is ∙ went ∙ still))
              )
        ]
        )
  ]

  -- and an empty one names the row of its key
  now_ended : (lane : ℕ) → lane < used → get_or now.slots lane None ≡ None →
      Names table keys (get_or new_keys lane 0) (get_or new_words lane 0)
  now_ended lane below is = elim (slot_case (get_or before.slots lane None)) [
    | inr (old, held) ↦ (
        let went = holds_now lane below held in
        elim (cases_Bool (is_match (word_of table keys old))) [
          | inl match ↦ end_named lane below old held match
          | inr on ↦ (
              let some : held_after old (word_of table keys old) ≡ Some (moved_to (word_of table keys old) old) =
              rw on refl in
              absurd (cc (sym is ∙ went ∙ some))
              )
        ]
        )
    | inl none ↦ (
        let went = holds_now lane below none in
        let job : ℕ = before.given + room table keys before lane in
        elim (cases_lt job before.jobs) [
          | inl few ↦ (
              let yes : nat_lt job before.jobs ≡ true = grind (arith, nat_tests) in
              let some : after_turn table keys before (room table keys before lane) None
              ≡ Some (begun table (job_at table job)) = rw yes refl in
              absurd (cc (sym is ∙ went ∙ some))
              )
          | inr past ↦ (
              let stays = o.idle lane below none past in
              renamed table keys (sym stays.0) (sym stays.1) (k.ended lane below none)
              )
        ]
        )
  ]

  -- each key that was given out before is that of a lane, or is noted
  each_old : (n : ℕ) → n < before.given →
      ((lane : ℕ) × (lane < used) × (get_or new_keys lane 0 ≡ n)) ⊎ Names table keys n (noted_of new n)
  each_old n old = elim (k.each n old) [
    | inl (lane, below, key) ↦ elim (slot_case (get_or before.slots lane None)) [
      | inr (flight, held) ↦ inl (lane, below, o.busy_key lane below flight held ∙ key)
      | inl none ↦ elim (cases_lt (before.given + room table keys before lane) before.jobs) [
        | inl few ↦ (
            let it = o.job_noted lane below none few in
            let same : noted_of new n ≡ get_or words_of it.0 0 =
            ap (λ (m : ℕ). noted_of new m) (sym key) ∙ it.4 in
            inr (renamed table keys (it.3 ∙ key) (sym same) (k.ended it.0 it.1 it.2))
            )
        | inr past ↦ inl (lane, below, (o.idle lane below none past).0 ∙ key)
      ]
    ]
    | inr named ↦ elim (o.others n) [
      | inl same ↦ inr (renamed table keys refl (sym same) named)
      | inr (lane, below, none, key, is) ↦ inr (renamed table keys key (sym is) (k.ended lane below none))
    ]
  ]

  -- and each that was given out in the turn is that of a lane
  each_new : (n : ℕ) → before.given ≤ n → n < now.given →
      (lane : ℕ) × (lane < used) × (get_or new_keys lane 0 ≡ n)
  each_new n past below =
      let width : ℕ = length before.slots in
      let all : ℕ = before.given + room table keys before width in
      let few : (n < all) × (n < before.jobs) = elim (cases_lt all before.jobs) [
        | inl less ↦ (
            let given = w.some (omega (arith, less)) in
            (omega (arith, below, given), omega (arith, below, less, given))
            )
        | inr more ↦ (omega (arith, below, more, w.all more), omega (arith, below, w.all more))
      ] in
      let m : ℕ = n - before.given in
      let found = empty_at table keys before width m (omega arith) (omega (arith, few.0, past)) in
      let is : before.given + room table keys before found.0 ≡ n = omega (arith, found.3, past) in
      let here : found.0 < used = elim full [
        | inl whole ↦ omega (arith, found.1, whole)
        | inr none ↦ absurd (omega (arith, none, few.1, past))
      ] in
      (found.0, here, o.job_key found.0 here found.2 (omega (arith, is, few.1)) ∙ is)

  -- so the lanes after the turn are as they were before it
  pub kept_on : AreKept table keys now used new_words new_keys new
  kept_on = record {
    walked = now_walked;
    ended = now_ended;
    each = λ n below. elim (cases_lt n before.given) [
      | inl old ↦ each_old n old
      | inr past ↦ inl (each_new n past below)
    ];
  }

-- ---- after the last turn

-- then the row of each key is noted
pub last_noted : {table : TableView} {keys : List ℕ} {machine : Machine} {used : ℕ} {words_of keys_of : List ℕ}
    {jobs_of : ℕ} {rows new : List (List ℕ)} → length table.roots ≡ 1 → machine.jobs ≡ job_count table keys →
    is_done machine ≡ true → AreKept table keys machine used words_of keys_of rows →
    NotesLast used jobs_of words_of keys_of rows new → AreAllNoted table keys new
last_noted {table = table} {keys = keys} {machine = machine} {used = used} {words_of = words_of} {keys_of = keys_of}
    {rows = rows} {new = new} one jobs done k n =
    let parts = and_parts (nat_le machine.jobs machine.given) (list_all is_empty machine.slots) done in
    let over : nat_le machine.jobs machine.given ≡ true = parts.0 in
    let all : machine.jobs ≤ machine.given = grind (arith, nat_tests) in
    let whole : job_count table keys ≡ keys_in table keys =
    ap (λ (m : ℕ). keys_in table keys * m) one ∙ (let once : keys_in table keys * 1 ≡ keys_in table keys =
    omega arith in once) in
    let ended = λ (lane : ℕ) (below : lane < used). k.ended lane below (none_held machine.slots parts.1 lane) in
    let named : (key : ℕ) → key < keys_in table keys → Names table keys key (noted_of new key) =
    λ key below. elim (k.each key (omega (arith, below, whole, jobs, all))) [
      | inl (lane, there, is) ↦ (
          let it = n.noted lane there in
          let same : noted_of new key ≡ get_or words_of it.0 0 = ap (λ (m : ℕ). noted_of new m) (sym is) ∙ it.3 in
          renamed table keys (it.2 ∙ is) (sym same) (ended it.0 it.1)
          )
      | inr before ↦ elim (n.others key) [
        | inl same ↦ renamed table keys refl (sym same) before
        | inr (lane, there, is, same) ↦ renamed table keys is (sym same) (ended lane there)
      ]
    ] in
    record {
      each = λ key trie below within.
          let first : trie ≡ 0 = omega (arith, within, one) in
          ap (λ (t : ℕ). index_of (slice_index (get_or new key []) t)) first ∙ (named key below).0
          ∙ ap (λ (t : ℕ). walk_row table t (key_at table keys key)) (sym first);
      there = λ key trie below within.
          let first : trie ≡ 0 = omega (arith, within, one) in
          omega (
            arith,
            ap (λ (t : ℕ). index_of (slice_index (get_or new key []) t)) first,
            (named key below).0,
            (named key below).1,
          );
    }

-- ---- in the first turn

-- of slots that hold nothing all are empty
pub all_room : (width n : ℕ) → n ≤ width → count_by is_empty (take n (replicate width None)) ≡ n
all_room width zero within = refl
all_room width (suc n) within =
    let slots : List (Option Flight) = replicate width None in
    let there : n < width = omega (arith, within) in
    let here : n < length slots = omega (arith, there, length-replicate {A = Option Flight} width None) in
    ap (λ (m : ℕ). count_by is_empty (take m slots)) (sym (add-one n))
    ∙ count_by_more_yes is_empty slots n None here (ap is_empty (get_or-replicate width n None None there))
    ∙ ap (λ (m : ℕ). m + 1) (all_room width n (omega (arith, within))) ∙ add-one n

-- one flight has one key
own_key : {one other : Flight} → Some one ≡ Some other → one.key ≡ other.key
unfolding key_in
own_key is = ap key_in is

-- each lane that there is a key for takes the key of its own number
pub kept_first : {table : TableView} {keys : List ℕ} {width used : ℕ} {now : Machine} {words_of keys_of : List ℕ}
    {rows : List (List ℕ)} → length table.roots ≡ 1 → used ≤ width → used ≤ job_count table keys →
    (used ≡ width) ⊎ (job_count table keys ≤ used) → ((lane : ℕ) → lane < used → get_or keys_of lane 0 ≡ lane) →
    WentTo table keys (first_machine table keys width) width now → AreKept table keys now used words_of keys_of rows
kept_first {table = table} {keys = keys} {width = width} {used = used} {now = now} {keys_of = keys_of}
    one wide few full own w =
    let before : Machine = first_machine table keys width in
    let held : (lane : ℕ) → lane < used → get_or now.slots lane None ≡ Some (begun table (job_at table lane)) =
    λ lane below.
    let within : lane < width = omega (arith, below, wide) in
    let there : 0 + lane < before.jobs = omega (arith, below, few) in
    let yes : nat_lt (0 + lane) before.jobs ≡ true = grind (arith, nat_tests) in
    let here : 0 + lane ≡ lane = omega arith in
    w.each lane within
    ∙ ap (after_turn table keys before (room table keys before lane)) (get_or-replicate width lane None None within)
    ∙ ap (λ (n : ℕ). after_turn table keys before n None) (all_room width lane (omega (arith, within)))
    ∙ rw yes refl
    ∙ ap (λ (n : ℕ). Some (begun table (job_at table n))) here in
    let key_is : (n : ℕ) → (job_at table n).key ≡ n =
    λ n. ap (λ (m : ℕ). n / m) one ∙ (let whole : n / 1 ≡ n = omega arith in whole) in
    record {
      walked = λ lane below flight is. own_key (sym is ∙ held lane below) ∙ key_is lane ∙ sym (own lane below);
      ended = λ lane below is. absurd (cc (sym is ∙ held lane below));
      each = λ n below.
          let all : room table keys before width ≡ width = all_room width width (omega arith) in
          let most : n < used = elim (cases_lt (0 + room table keys before width) before.jobs) [
            | inl less ↦ elim full [
              | inl whole ↦ omega (arith, below, w.some (omega (arith, less)), all, whole)
              | inr none ↦ omega (arith, below, w.some (omega (arith, less)), all, less, none)
            ]
            | inr past ↦ elim full [
              | inl whole ↦ omega (arith, below, w.all past, all, past, whole)
              | inr none ↦ omega (arith, below, w.all past, none)
            ]
          ] in
          inl (n, most, own n most);
    }

-- ---- from one empty slot to the next

-- where no slot is empty from one on and before another, as many are empty before both
pub room_same : (table : TableView) (keys : List ℕ) (before : Machine) (from more : ℕ) →
    from + more ≤ length before.slots →
    ((lane : ℕ) → from ≤ lane → lane < from + more → is_empty (get_or before.slots lane None) ≡ false) →
    room table keys before (from + more) ≡ room table keys before from
room_same table keys before from zero within none =
    let here : from + 0 ≡ from = omega arith in
    ap (room table keys before) here
room_same table keys before from (suc more) within none =
    let last : ℕ = from + more in
    let next : from + suc more ≡ last + 1 = omega arith in
    let there : last < length before.slots = omega (arith, within) in
    ap (room table keys before) next
    ∙ count_by_more_no is_empty before.slots last None there (none last (omega arith) (omega arith))
    ∙ room_same table keys before from more (omega (arith, within))
    (λ lane past below. none lane past (omega (arith, below)))
