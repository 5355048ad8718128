use Rattle.std.proofs.Common.{ℕ, ◌<◌, List, ap, ◌∙◌, arith, length, subst, get_or}
use Rattle.std.specs.Prelude.{slice_index}
use Rattle.std.proofs.lemmas.List.Elements.{All-set}
use Rattle.flat_table.proofs.Offered.{places_bound}
use Rattle.flow_core.specs.declared.flight.Flight.{Flight}
use Rattle.flow_core.specs.Standing.{held_after, rows_after, LeadsOnward}
use Rattle.flow_core.proofs.Offered.{key_of_flight}
use Rattle.lane_walk.specs.Turn.{EndsOrLeads}
use Rattle.lane_walk.specs.Turn.{no_one}
use Rattle.lane_walk.proofs.Held.{busy_lane, landed}
use Rattle.lane_walk.proofs.Landing.{lands, place_there, word_leads, word_is}
use Rattle.lane_walk.proofs.lanes.LaneFlows.land_lane.Goals as goal

pub bounds-words-place : goal.bounds-words-place
bounds-words-place g c =
    let bytes : (i : ℕ) → slice_index c.args.keys.now i < 256 = λ i. omega (arith, c.type_inv.keys i) in
    let b = busy_lane c.self.inside.flights c.self.view_is c.requires.stands c.requires.lane c.self.told
    c.requires.busy no_one in
    let l = lands b.lent b.holds c.stay_in.ensures.stay c.stay_in.ensures.sound bytes c.requires.place in
    omega (arith, place_there l, ap (λ (xs : List ℕ). length xs) c.words.ensures)

pub offset_bounds-words-place : goal.offset_bounds-words-place
offset_bounds-words-place g c =
    let bytes : (i : ℕ) → slice_index c.args.keys.now i < 256 = λ i. omega (arith, c.type_inv.keys i) in
    let b = busy_lane c.self.inside.flights c.self.view_is c.requires.stands c.requires.lane c.self.told
    c.requires.busy no_one in
    let l = lands b.lent b.holds c.stay_in.ensures.stay c.stay_in.ensures.sound bytes c.requires.place in
    omega (arith, place_there l, ap (λ (xs : List ℕ). length xs) c.words.ensures)

pub land-requires-clause-onward : goal.land-requires-clause-onward
land-requires-clause-onward g c =
    let bytes : (i : ℕ) → slice_index c.args.keys.now i < 256 = λ i. omega (arith, c.type_inv.keys i) in
    let b = busy_lane c.self.inside.flights c.self.view_is c.requires.stands c.requires.lane c.self.told
    c.requires.busy no_one in
    let l = lands b.lent b.holds c.stay_in.ensures.stay c.stay_in.ensures.sound bytes c.requires.place in
    word_leads l c.words.ensures

pub land-requires-clause-depth : goal.land-requires-clause-depth
land-requires-clause-depth g c =
    let bytes : (i : ℕ) → slice_index c.args.keys.now i < 256 = λ i. omega (arith, c.type_inv.keys i) in
    let b = busy_lane c.self.inside.flights c.self.view_is c.requires.stands c.requires.lane c.self.told
    c.requires.busy no_one in
    let l = lands b.lent b.holds c.stay_in.ensures.stay c.stay_in.ensures.sound bytes c.requires.place in
    omega (
      arith,
      l.on_way.depth,
      places_bound c.args.table.now (get_or c.self.inside.flights c.args.lane no_one).trie,
      c.stay_in.ensures.short,
    )

pub land-requires-clause-key : goal.land-requires-clause-key
land-requires-clause-key g c =
    let bytes : (i : ℕ) → slice_index c.args.keys.now i < 256 = λ i. omega (arith, c.type_inv.keys i) in
    let b = busy_lane c.self.inside.flights c.self.view_is c.requires.stands c.requires.lane c.self.told
    c.requires.busy no_one in
    let l = lands b.lent b.holds c.stay_in.ensures.stay c.stay_in.ensures.sound bytes c.requires.place in
    omega (arith, key_of_flight l.on_way, c.requires.stands.fits.room)

pub returns : goal.returns
returns g c =
    let bytes : (i : ℕ) → slice_index c.args.keys.now i < 256 = λ i. omega (arith, c.type_inv.keys i) in
    let b = busy_lane c.self.inside.flights c.self.view_is c.requires.stands c.requires.lane c.self.told
    c.requires.busy no_one in
    let l = lands b.lent b.holds c.stay_in.ensures.stay c.stay_in.ensures.sound bytes c.requires.place in
    let flight : Flight = get_or c.self.inside.flights c.args.lane no_one in
    let word = word_is l c.words.ensures in
    landed c.self.inside.flights b.lent c.land.new.flight b.holds b.busy
    (c.land.ensures.held ∙ ap (λ (w : ℕ). held_after flight w) word)
    (c.land.ensures.rows ∙ ap (λ (w : ℕ). rows_after c.args.table.now flight w c.args.scratch.now) word)
    (subst (LeadsOnward c.args.table.now flight) word (word_leads l c.words.ensures))

pub invariant_of-self : goal.invariant_of-self
invariant_of-self g c =
    All-set EndsOrLeads c.self.inside.flights c.args.lane c.land.new.flight c.land.ensures.lawful c.self.invariant
