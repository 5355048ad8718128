-- Four busy lanes that go on at once.
use Rattle.std.proofs.Common.{◌≡◌, ℕ, ◌+◌, ◌<◌, ◌≤◌, List, sym, ap, ◌∙◌, refl, arith, lit<, length, subst, true, false}
use Rattle.std.proofs.Common.{get_or, set, map, length-set, get_or-set_other, get_or-set_same}
use Rattle.std.proofs.lemmas.List.Elements.{All-set, All-from_get_or}
use Rattle.std.specs.Prelude.{All, slice_index, slice_index_or, None, Some}
use Rattle.std.proofs.lemmas.List.{get_or-map}
use Rattle.flat_table.proofs.Offered.{places_bound}
use Rattle.table_sizes.specs.Groups.{max_key_len}
use Rattle.flat_table.specs.Laws.{WalksStay}
use Rattle.flat_table.specs.Sound.{sound_fault}
use Rattle.flat_table.specs.Table.{TableView}
use Rattle.flat_table.specs.Batch.{keys_in}
use Rattle.flat_table.specs.Word.{is_match, is_node}
use Rattle.flow_core.specs.declared.flight.Flight.{Flight}
use Rattle.table_sizes.specs.Sizes.{max_tries}
use Rattle.flow_core.specs.Machine.{Machine, moved_to, word_of}
use Rattle.flow_core.specs.Standing.{LeadsOnward, StandsOver, IsOnWay, held_after}
use Rattle.flow_core.specs.Laws.{AreBytes}
use Rattle.flow_core.proofs.Offered.{key_of_flight, trie_of_flight}
use Rattle.lane_walk.specs.Turn.{AreBusy, EndsOrLeads, HasCome, HasRoom, IsPlaceOf, Notes, NotesFour, NotesLanes}
use Rattle.lane_walk.specs.Turn.{held_in, is_busy, no_one}
use Rattle.lane_walk.proofs.Held.{BusyLane, busy_lane, held_busy, lane_lent, on_of, seen}
use Rattle.lane_walk.proofs.Landing.{Lands, each_of_four, lands, node_of, place_there, word_is, word_leads}
use Rattle.lane_walk.proofs.NoteSteps.{and_noted, landed_noted}

-- a flight and its next word
pub record Goes (table : TableView) (keys : List ℕ) (flight : Flight) (word : ℕ) : Type 0 where
  pub on : is_match flight.word ≡ false
  pub given : ℕ
  pub on_way : IsOnWay table keys given flight
  pub word_is : word ≡ word_of table keys flight
  pub onward : LeadsOnward table flight word

-- a word to which a flight goes on is no match, or leads to a node
pub leads : {table : TableView} {flight : Flight} {word : ℕ} → LeadsOnward table flight word →
    is_match word ≡ false → is_node word ≡ true
leads {table = table} {flight = flight} {word = word} onward on =
    node_of table flight.trie (flight.depth + 1) word (onward.level on)

-- so a lane may keep it
lawful : {table : TableView} {flight next : Flight} {word : ℕ} (before : Flight) → LeadsOnward table flight word →
    next ≡ moved_to word before → EndsOrLeads next
lawful before onward is =
    subst EndsOrLeads (sym is) (λ on. leads onward on)

-- the depth of a flight on its way is below the greatest length of a key
pub depth_below : {table : TableView} {keys : List ℕ} {flight : Flight} {word : ℕ} → Goes table keys flight word →
    table.key_len ≤ max_key_len → flight.depth < max_key_len
depth_below {table = table} {flight = flight} g short =
    omega (arith, g.on_way.depth, places_bound table flight.trie, short)

-- a flight that has come to its next word
pub come : {table : TableView} {word : ℕ} (before : Flight) {next : Flight} {rows : ℕ} → LeadsOnward table before word →
    before.key < rows → next ≡ moved_to word before → HasCome table next rows
come {table = table} before {rows = rows} onward key is =
    subst (λ (flight : Flight). HasCome table flight rows) (sym is) record {
      lawful = λ on. leads onward on;
      row = onward.row;
      key = key;
    }

-- there is a place for the note of a flight on its way
pub room_of : {table : TableView} {keys : List ℕ} {given rows : ℕ} {flight : Flight} →
    IsOnWay table keys given flight → keys_in table keys ≤ rows → length table.roots ≤ max_tries → HasRoom flight rows
room_of on room few = record {
  key = omega (arith, key_of_flight on, room);
  trie = omega (arith, trie_of_flight on, few);
}

-- and after it has come to its next word
pub room_for : {word : ℕ} (before : Flight) {next : Flight} {rows : ℕ} → HasRoom before rows →
    next ≡ moved_to word before → HasRoom next rows
room_for before {rows = rows} room is =
    subst (λ (flight : Flight). HasRoom flight rows) (sym is) record { key = room.key; trie = room.trie }

-- with as many rows there is still a place
pub still : {flight : Flight} {rows new : ℕ} → HasRoom flight rows → new ≡ rows → HasRoom flight new
still {flight = flight} has is = subst (λ (n : ℕ). HasRoom flight n) (sym is) has

-- what is noted of a flight at its next word is what is noted of the flight and the word
pub noted_as : {flight next : Flight} {word : ℕ} {old new : List (List ℕ)} → next ≡ moved_to word flight →
    Notes next next.word old new → Notes flight word old new
noted_as {word = word} {old = old} {new = new} is n =
    let moved = subst (λ (it : Flight). Notes it it.word old new) is n in
    record { rows = moved.rows; number = moved.number }

-- ---- one lane

module _ {table : TableView} {keys : List ℕ} {jobs given : ℕ} where
  -- a lane goes on to its word
  one_goes : (flights : List Flight) {rows new : List (List ℕ)} (lane : ℕ) →
      StandsOver table keys (seen jobs given flights) (length rows) → lane < length flights →
      {flight : Flight} {word : ℕ} → get_or flights lane no_one ≡ flight → Goes table keys flight word →
      {next : Flight} → next ≡ moved_to word (get_or flights lane no_one) → Notes flight word rows new →
      sound_fault table ≡ None → AreBytes keys →
      NotesLanes table keys (seen jobs given flights) rows lane 1 (seen jobs given (set flights lane next)) new 1
  one_goes flights {rows = rows} {new = new} lane stands there {flight = flight} {word = word} same g {next = next}
      next_is notes sound bytes =
      let holds : get_or (map held_in flights) lane None ≡ Some flight =
      get_or-map held_in flights lane no_one None there ∙ ap held_in same ∙ held_busy flight g.on in
      let at : next ≡ moved_to word flight = next_is ∙ ap (λ (f : Flight). moved_to word f) same in
      landed_noted flights (lane_lent flights {before = seen jobs given flights} refl stands there refl) next holds
      (ap is_busy holds)
      (ap held_in at ∙ ap (λ (w : ℕ). held_after flight w) g.word_is)
      (subst (λ (w : ℕ). Notes flight w rows new) g.word_is notes)
      (subst (LeadsOnward table flight) g.word_is g.onward) sound bytes

-- ---- four lanes

-- what a lane keeps, after those before it were changed
module _ (flights : List Flight) (first : ℕ) (one two three : Flight) where
  -- the second lane keeps what it kept after the first one is changed
  pub second_is : get_or (set flights first one) (first + 1) no_one ≡ get_or flights (first + 1) no_one
  second_is = get_or-set_other flights first (first + 1) one no_one (omega arith)

  -- the third lane keeps what it kept after the first two are changed
  pub third_is : get_or (set (set flights first one) (first + 1) two) (first + 2) no_one
      ≡ get_or flights (first + 2) no_one
  third_is =
      get_or-set_other (set flights first one) (first + 1) (first + 2) two no_one (omega arith)
      ∙ get_or-set_other flights first (first + 2) one no_one (omega arith)

  -- the fourth lane keeps what it kept after the first three are changed
  pub fourth_is : get_or (set (set (set flights first one) (first + 1) two) (first + 2) three) (first + 3) no_one
      ≡ get_or flights (first + 3) no_one
  fourth_is =
      get_or-set_other (set (set flights first one) (first + 1) two) (first + 2) (first + 3) three no_one (omega arith)
      ∙ get_or-set_other (set flights first one) (first + 1) (first + 3) two no_one (omega arith)
      ∙ get_or-set_other flights first (first + 3) one no_one (omega arith)

-- four lanes from one on, which are busy, with the places of their next words
pub record AtOnce (table : TableView) (keys : List ℕ) (jobs given : ℕ) (flights : List Flight) (before : Machine)
    (rows : List (List ℕ)) (first : ℕ) (places : List ℕ) : Type 0 where
  pub view : seen jobs given flights ≡ before
  pub stands : StandsOver table keys before (length rows)
  pub room : first + 4 ≤ length flights
  pub busy : AreBusy before first
  pub are : (k : ℕ) → k < 4 →
      IsPlaceOf table keys (slice_index_or before.slots (first + k) None) (slice_index places k)
  pub stay : WalksStay
  pub sound : sound_fault table ≡ None
  pub bytes : (i : ℕ) → slice_index keys i < 256

-- of a machine of so many slots
pub at_once : {table : TableView} {keys : List ℕ} {jobs given width : ℕ} {flights : List Flight} {before : Machine}
    {rows : List (List ℕ)} {first : ℕ} {places : List ℕ} → seen jobs given flights ≡ before →
    StandsOver table keys before (length rows) → first + 4 ≤ width → length flights ≡ width → AreBusy before first →
    ((k : ℕ) → k < 4 → IsPlaceOf table keys (slice_index_or before.slots (first + k) None) (slice_index places k)) →
    WalksStay → sound_fault table ≡ None → ((i : ℕ) → slice_index keys i < 256) →
    AtOnce table keys jobs given flights before rows first places
at_once view stands room told busy are stay sound bytes = record {
  view = view;
  stands = stands;
  room = omega (arith, room, told);
  busy = busy;
  are = are;
  stay = stay;
  sound = sound;
  bytes = bytes;
}

module _ {table : TableView} {keys : List ℕ} {jobs given : ℕ} (flights : List Flight) {before : Machine}
    {rows : List (List ℕ)} {first : ℕ} {places : List ℕ}
    (a : AtOnce table keys jobs given flights before rows first places) where
  -- each of the four lanes is busy
  lane_at : (k : ℕ) → k < 4 →
      BusyLane table keys jobs given flights before rows (first + k) (get_or flights (first + k) no_one)
  lane_at k h = busy_lane flights {width = length flights} a.view a.stands (omega (arith, a.room, h)) refl (a.busy k h)
      no_one

  -- each of the four flights lands at its place
  lands_at : (k : ℕ) → k < 4 → Lands table keys (get_or flights (first + k) no_one) (slice_index places k)
  lands_at k h = lands (lane_at k h).lent (lane_at k h).holds a.stay a.sound a.bytes (a.are k h)

  -- each place is one of the table
  pub four_there : {words : List ℕ} → words ≡ table.words → (k : ℕ) → k < 4 → slice_index places k < length words
  four_there is k h = omega (arith, place_there (lands_at k h), ap (λ (xs : List ℕ). length xs) is)

  -- and its word is where the flight goes on to
  pub four_goes : (words : List ℕ) {all : List ℕ} → all ≡ table.words →
      ((k : ℕ) → k < 4 → slice_index words k ≡ slice_index all (slice_index places k)) →
      (k : ℕ) → k < 4 → Goes table keys (get_or flights (first + k) no_one) (slice_index words k)
  four_goes words is read k h =
      let l = lands_at k h in
      let flight : Flight = get_or flights (first + k) no_one in
      record {
        on = on_of flight (ap is_busy (sym
            (get_or-map held_in flights (first + k) no_one None (omega (arith, a.room, h))) ∙ (lane_at k h).holds));
        given = l.given;
        on_way = l.on_way;
        word_is = read k h ∙ word_is l is;
        onward = subst (LeadsOnward table flight) (sym (read k h)) (word_leads l is);
      }

  -- ---- when they have gone on
  module _ (words : List ℕ)
      (goes : (k : ℕ) → k < 4 → Goes table keys (get_or flights (first + k) no_one) (slice_index words k))
      {one two three four : Flight} (is_one : one ≡ moved_to (slice_index words 0) (get_or flights first no_one))
      (is_two : two ≡ moved_to (slice_index words 1) (get_or (set flights first one) (first + 1) no_one))
      (is_three : three
      ≡ moved_to (slice_index words 2) (get_or (set (set flights first one) (first + 1) two) (first + 2) no_one))
      (is_four : four ≡ moved_to (slice_index words 3)
      (get_or (set (set (set flights first one) (first + 1) two) (first + 2) three) (first + 3) no_one)) where
    -- the lanes with the first one changed
    abbrev f1 : List Flight
    f1 = set flights first one

    -- the lanes with the first two changed
    abbrev f2 : List Flight
    f2 = set f1 (first + 1) two

    -- the lanes with the first three changed
    abbrev f3 : List Flight
    f3 = set f2 (first + 2) three

    -- the lanes with all four changed
    abbrev f4 : List Flight
    f4 = set f3 (first + 3) four

    -- as many lanes after the first change
    n1 : length f1 ≡ length flights
    n1 = length-set flights first one

    -- as many lanes after the second change
    n2 : length f2 ≡ length flights
    n2 = length-set f1 (first + 1) two ∙ n1

    -- as many lanes after the third change
    n3 : length f3 ≡ length flights
    n3 = length-set f2 (first + 2) three ∙ n2

    -- a lane keeps what it came to
    first_at : get_or f4 first no_one ≡ moved_to (slice_index words 0) (get_or flights first no_one)
    first_at =
        get_or-set_other f3 (first + 3) first four no_one (omega arith)
        ∙ get_or-set_other f2 (first + 2) first three no_one (omega arith)
        ∙ get_or-set_other f1 (first + 1) first two no_one (omega arith)
        ∙ get_or-set_same flights first one no_one (omega (arith, a.room)) ∙ is_one

    -- the second lane has gone on to its word
    second_at : get_or f4 (first + 1) no_one ≡ moved_to (slice_index words 1) (get_or flights (first + 1) no_one)
    second_at =
        get_or-set_other f3 (first + 3) (first + 1) four no_one (omega arith)
        ∙ get_or-set_other f2 (first + 2) (first + 1) three no_one (omega arith)
        ∙ get_or-set_same f1 (first + 1) two no_one (omega (arith, a.room, n1)) ∙ is_two
        ∙ ap (λ (f : Flight). moved_to (slice_index words 1) f) (second_is flights first one two three)

    -- the third lane has gone on to its word
    third_at : get_or f4 (first + 2) no_one ≡ moved_to (slice_index words 2) (get_or flights (first + 2) no_one)
    third_at =
        get_or-set_other f3 (first + 3) (first + 2) four no_one (omega arith)
        ∙ get_or-set_same f2 (first + 2) three no_one (omega (arith, a.room, n2)) ∙ is_three
        ∙ ap (λ (f : Flight). moved_to (slice_index words 2) f) (third_is flights first one two three)

    -- the fourth lane has gone on to its word
    fourth_at : get_or f4 (first + 3) no_one ≡ moved_to (slice_index words 3) (get_or flights (first + 3) no_one)
    fourth_at =
        get_or-set_same f3 (first + 3) four no_one (omega (arith, a.room, n3)) ∙ is_four
        ∙ ap (λ (f : Flight). moved_to (slice_index words 3) f) (fourth_is flights first one two three)

    -- each of the four lanes has gone on to its word
    four_at : (k : ℕ) → k < 4 →
        get_or f4 (first + k) no_one ≡ moved_to (slice_index words k) (get_or flights (first + k) no_one)
    four_at =
        let here : first ≡ first + 0 = omega arith in
        each_of_four
        (λ k. get_or f4 (first + k) no_one ≡ moved_to (slice_index words k) (get_or flights (first + k) no_one))
        (subst (λ (lane : ℕ). get_or f4 lane no_one ≡ moved_to (slice_index words 0) (get_or flights lane no_one)) here
        first_at) second_at third_at fourth_at

    -- which is what a lane may keep
    pub four_lawful : All EndsOrLeads flights → All EndsOrLeads f4
    four_lawful all =
        All-set EndsOrLeads f3 (first + 3) four
        (lawful (get_or f3 (first + 3) no_one) (goes 3 (lit< tt)).onward is_four)
        (All-set EndsOrLeads f2 (first + 2) three
        (lawful (get_or f2 (first + 2) no_one) (goes 2 (lit< tt)).onward is_three)
        (All-set EndsOrLeads f1 (first + 1) two
        (lawful (get_or f1 (first + 1) no_one) (goes 1 (lit< tt)).onward is_two)
        (All-set EndsOrLeads flights first one
        (lawful (get_or flights first no_one) (goes 0 (lit< tt)).onward is_one) all)))

    -- there is a place for the note of each of the four flights
    pub four_room : length table.roots ≤ max_tries → (k : ℕ) → k < 4 →
        HasRoom (get_or f4 (first + k) no_one) (length rows)
    four_room few k h = room_for (get_or flights (first + k) no_one)
        (room_of (lands_at k h).on_way a.stands.fits.room few) (four_at k h)

    -- and each was stepped
    pub four_go : {new : List (List ℕ)} → NotesFour f4 first rows new →
        NotesLanes table keys before rows first 4 (seen jobs given f4) new 4
    four_go {new = new} notes =
        let here : first + 0 ≡ first = omega arith in
        let bytes : AreBytes keys = All-from_get_or (λ byte. byte < 256) keys 0 (λ i below. a.bytes i) in
        let stands : StandsOver table keys (seen jobs given flights) (length rows) =
        subst (λ (machine : Machine). StandsOver table keys machine (length rows)) (sym a.view) a.stands in
        let goes_first : Goes table keys (get_or flights first no_one) (slice_index words 0) =
        subst (λ (lane : ℕ). Goes table keys (get_or flights lane no_one) (slice_index words 0)) here
        (goes 0 (lit< tt)) in
        let s1 : NotesLanes table keys (seen jobs given flights) rows first 1 (seen jobs given f1) notes.one 1 =
        one_goes flights first stands (omega (arith, a.room)) refl goes_first is_one
        (noted_as first_at notes.first_is) a.sound bytes in
        let s2 : NotesLanes table keys (seen jobs given flights) rows first 2 (seen jobs given f2) notes.two 2 =
        and_noted s1 (one_goes f1 (first + 1) s1.stands (omega (arith, a.room, n1))
        (second_is flights first one two three) (goes 1 (lit< tt)) is_two (noted_as second_at notes.second_is)
        a.sound bytes) in
        let s3 : NotesLanes table keys (seen jobs given flights) rows first 3 (seen jobs given f3) notes.three 3 =
        and_noted s2 (one_goes f2 (first + 2) s2.stands (omega (arith, a.room, n2))
        (third_is flights first one two three) (goes 2 (lit< tt)) is_three (noted_as third_at notes.third_is)
        a.sound bytes) in
        let s4 : NotesLanes table keys (seen jobs given flights) rows first 4 (seen jobs given f4) new 4 =
        and_noted s3 (one_goes f3 (first + 3) s3.stands (omega (arith, a.room, n3))
        (fourth_is flights first one two three) (goes 3 (lit< tt)) is_four (noted_as fourth_at notes.fourth_is)
        a.sound bytes) in
        subst (λ (machine : Machine). NotesLanes table keys machine rows first 4 (seen jobs given f4) new 4) a.view s4
