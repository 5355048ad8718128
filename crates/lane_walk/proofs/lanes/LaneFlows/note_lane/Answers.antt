use Rattle.std.proofs.Common.{ℕ, ◌<◌, List, ap, ◌∙◌, arith, length, subst, get_or}
use Rattle.std.specs.Prelude.{slice_index}
use Rattle.std.proofs.lemmas.List.Elements.{All-set, All-from_get_or}
use Rattle.flat_table.proofs.Offered.{places_bound}
use Rattle.flow_core.specs.declared.flight.Flight.{Flight}
use Rattle.flow_core.specs.Standing.{held_after, LeadsOnward}
use Rattle.lane_walk.specs.Turn.{EndsOrLeads, Notes, no_one}
use Rattle.lane_walk.proofs.Fours.{leads, room_of}
use Rattle.lane_walk.proofs.Held.{busy_lane}
use Rattle.lane_walk.proofs.NoteSteps.{landed_noted}
use Rattle.lane_walk.proofs.Landing.{lands, place_there, word_leads, word_is}
use Rattle.lane_walk.proofs.lanes.LaneFlows.note_lane.Goals as goal

pub bounds-words-place : goal.bounds-words-place
bounds-words-place g c =
    let bytes : (i : ℕ) → slice_index c.args.keys.now i < 256 = λ i. omega (arith, c.type_inv.keys i) in
    let b = busy_lane c.self.inside.flights c.self.view_is c.requires.stands c.requires.lane c.self.told
    c.requires.busy no_one in
    let l = lands b.lent b.holds c.stay_in.ensures.stay c.stay_in.ensures.sound bytes c.requires.place in
    omega (arith, place_there l, ap (λ (xs : List ℕ). length xs) c.words.ensures)

pub offset_bounds-words-place : goal.offset_bounds-words-place
offset_bounds-words-place g c =
    let bytes : (i : ℕ) → slice_index c.args.keys.now i < 256 = λ i. omega (arith, c.type_inv.keys i) in
    let b = busy_lane c.self.inside.flights c.self.view_is c.requires.stands c.requires.lane c.self.told
    c.requires.busy no_one in
    let l = lands b.lent b.holds c.stay_in.ensures.stay c.stay_in.ensures.sound bytes c.requires.place in
    omega (arith, place_there l, ap (λ (xs : List ℕ). length xs) c.words.ensures)

pub land_noted-requires-clause-lawful : goal.land_noted-requires-clause-lawful
land_noted-requires-clause-lawful g c =
    let bytes : (i : ℕ) → slice_index c.args.keys.now i < 256 = λ i. omega (arith, c.type_inv.keys i) in
    let b = busy_lane c.self.inside.flights c.self.view_is c.requires.stands c.requires.lane c.self.told
    c.requires.busy no_one in
    let l = lands b.lent b.holds c.stay_in.ensures.stay c.stay_in.ensures.sound bytes c.requires.place in
    leads (word_leads l c.words.ensures)

pub land_noted-requires-clause-depth : goal.land_noted-requires-clause-depth
land_noted-requires-clause-depth g c =
    let bytes : (i : ℕ) → slice_index c.args.keys.now i < 256 = λ i. omega (arith, c.type_inv.keys i) in
    let b = busy_lane c.self.inside.flights c.self.view_is c.requires.stands c.requires.lane c.self.told
    c.requires.busy no_one in
    let l = lands b.lent b.holds c.stay_in.ensures.stay c.stay_in.ensures.sound bytes c.requires.place in
    omega (
      arith,
      l.on_way.depth,
      places_bound c.args.table.now (get_or c.self.inside.flights c.args.lane no_one).trie,
      c.stay_in.ensures.short,
    )

pub land_noted-requires-clause-room : goal.land_noted-requires-clause-room
land_noted-requires-clause-room g c =
    let bytes : (i : ℕ) → slice_index c.args.keys.now i < 256 = λ i. omega (arith, c.type_inv.keys i) in
    let b = busy_lane c.self.inside.flights c.self.view_is c.requires.stands c.requires.lane c.self.told
    c.requires.busy no_one in
    let l = lands b.lent b.holds c.stay_in.ensures.stay c.stay_in.ensures.sound bytes c.requires.place in
    room_of l.on_way c.requires.stands.fits.room c.stay_in.ensures.few

pub returns : goal.returns
returns g c =
    let bytes : (i : ℕ) → slice_index c.args.keys.now i < 256 = λ i. omega (arith, c.type_inv.keys i) in
    let b = busy_lane c.self.inside.flights c.self.view_is c.requires.stands c.requires.lane c.self.told
    c.requires.busy no_one in
    let l = lands b.lent b.holds c.stay_in.ensures.stay c.stay_in.ensures.sound bytes c.requires.place in
    let flight : Flight = get_or c.self.inside.flights c.args.lane no_one in
    let word = word_is l c.words.ensures in
    landed_noted c.self.inside.flights b.lent c.land_noted.new.flight b.holds b.busy
    (c.land_noted.ensures.held ∙ ap (λ (w : ℕ). held_after flight w) word)
    (subst (λ (w : ℕ). Notes flight w c.args.scratch.now c.land_noted.new.scratch) word c.land_noted.ensures.notes)
    (subst (LeadsOnward c.args.table.now flight) word (word_leads l c.words.ensures)) c.stay_in.ensures.sound
    (All-from_get_or (λ byte. byte < 256) c.args.keys.now 0 (λ i below. bytes i))

pub invariant_of-self : goal.invariant_of-self
invariant_of-self g c =
    All-set EndsOrLeads c.self.inside.flights c.args.lane c.land_noted.new.flight c.land_noted.ensures.lawful
    c.self.invariant
