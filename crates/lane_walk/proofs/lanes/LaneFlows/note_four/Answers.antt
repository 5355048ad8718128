use Rattle.std.proofs.Common.{◌≡◌, ℕ, ◌+◌, ◌<◌, arith, lit<, get_or, subst, sym}
use Rattle.std.specs.Prelude.{slice_index}
use Rattle.flow_core.specs.declared.flight.Flight.{Flight}
use Rattle.lane_walk.specs.Turn.{no_one}
use Rattle.lane_walk.proofs.Fours.{at_once, depth_below, four_room, four_go, four_goes, four_there, fourth_is}
use Rattle.lane_walk.proofs.Fours.{four_lawful}
use Rattle.lane_walk.proofs.Fours.{second_is, third_is}
use Rattle.table_sizes.specs.Groups.{max_key_len}
use Rattle.lane_walk.proofs.lanes.LaneFlows.note_four.Goals as goal

pub words_at-words-requires : goal.words_at-words-requires
words_at-words-requires g c k h =
    let flights = c.self.inside.flights in
    let bytes : (i : ℕ) → slice_index c.args.keys.now i < 256 = λ i. omega (arith, c.type_inv.keys i) in
    let a = at_once c.self.view_is c.requires.stands c.requires.first c.self.told c.requires.busy
    c.places_from-places.ensures c.stay_in.ensures.stay c.stay_in.ensures.sound bytes in
    four_there flights a c.words.ensures k h

pub note_each-requires-clause-room : goal.note_each-requires-clause-room
note_each-requires-clause-room g c = omega (arith, c.requires.first, c.self.told)

pub note_each-requires-clause-come : goal.note_each-requires-clause-come
note_each-requires-clause-come g c k h =
    let flights = c.self.inside.flights in
    let bytes : (i : ℕ) → slice_index c.args.keys.now i < 256 = λ i. omega (arith, c.type_inv.keys i) in
    let a = at_once c.self.view_is c.requires.stands c.requires.first c.self.told c.requires.busy
    c.places_from-places.ensures c.stay_in.ensures.stay c.stay_in.ensures.sound bytes in
    let goes = four_goes flights a c.words_at-words.result c.words.ensures c.words_at-words.ensures in
    four_room flights a c.words_at-words.result goes c.go_on.ensures c.go_on-2.ensures c.go_on-3.ensures
    c.go_on-4.ensures c.stay_in.ensures.few k h

pub returns : goal.returns
returns g c =
    let flights = c.self.inside.flights in
    let bytes : (i : ℕ) → slice_index c.args.keys.now i < 256 = λ i. omega (arith, c.type_inv.keys i) in
    let a = at_once c.self.view_is c.requires.stands c.requires.first c.self.told c.requires.busy
    c.places_from-places.ensures c.stay_in.ensures.stay c.stay_in.ensures.sound bytes in
    let goes = four_goes flights a c.words_at-words.result c.words.ensures c.words_at-words.ensures in
    four_go flights a c.words_at-words.result goes c.go_on.ensures c.go_on-2.ensures c.go_on-3.ensures
    c.go_on-4.ensures c.note_each.ensures

pub go_on-requires : goal.go_on-requires
go_on-requires g c =
    let flights = c.self.inside.flights in
    let bytes : (i : ℕ) → slice_index c.args.keys.now i < 256 = λ i. omega (arith, c.type_inv.keys i) in
    let a = at_once c.self.view_is c.requires.stands c.requires.first c.self.told c.requires.busy
    c.places_from-places.ensures c.stay_in.ensures.stay c.stay_in.ensures.sound bytes in
    let goes = four_goes flights a c.words_at-words.result c.words.ensures c.words_at-words.ensures in
    let here : c.args.first + 0 ≡ c.args.first = omega arith in
    subst (λ (lane : ℕ). (get_or flights lane no_one).depth < max_key_len) here
    (depth_below (goes 0 (lit< tt)) c.stay_in.ensures.short)

pub go_on-requires-2 : goal.go_on-requires-2
go_on-requires-2 g c =
    let flights = c.self.inside.flights in
    let bytes : (i : ℕ) → slice_index c.args.keys.now i < 256 = λ i. omega (arith, c.type_inv.keys i) in
    let a = at_once c.self.view_is c.requires.stands c.requires.first c.self.told c.requires.busy
    c.places_from-places.ensures c.stay_in.ensures.stay c.stay_in.ensures.sound bytes in
    let goes = four_goes flights a c.words_at-words.result c.words.ensures c.words_at-words.ensures in
    subst (λ (flight : Flight). flight.depth < max_key_len)
    (sym (second_is flights c.args.first c.go_on.new.flight c.go_on.new.flight c.go_on.new.flight))
    (depth_below (goes 1 (lit< tt)) c.stay_in.ensures.short)

pub go_on-requires-3 : goal.go_on-requires-3
go_on-requires-3 g c =
    let flights = c.self.inside.flights in
    let bytes : (i : ℕ) → slice_index c.args.keys.now i < 256 = λ i. omega (arith, c.type_inv.keys i) in
    let a = at_once c.self.view_is c.requires.stands c.requires.first c.self.told c.requires.busy
    c.places_from-places.ensures c.stay_in.ensures.stay c.stay_in.ensures.sound bytes in
    let goes = four_goes flights a c.words_at-words.result c.words.ensures c.words_at-words.ensures in
    subst (λ (flight : Flight). flight.depth < max_key_len)
    (sym (third_is flights c.args.first c.go_on.new.flight c.go_on-2.new.flight c.go_on.new.flight))
    (depth_below (goes 2 (lit< tt)) c.stay_in.ensures.short)

pub go_on-requires-4 : goal.go_on-requires-4
go_on-requires-4 g c =
    let flights = c.self.inside.flights in
    let bytes : (i : ℕ) → slice_index c.args.keys.now i < 256 = λ i. omega (arith, c.type_inv.keys i) in
    let a = at_once c.self.view_is c.requires.stands c.requires.first c.self.told c.requires.busy
    c.places_from-places.ensures c.stay_in.ensures.stay c.stay_in.ensures.sound bytes in
    let goes = four_goes flights a c.words_at-words.result c.words.ensures c.words_at-words.ensures in
    subst (λ (flight : Flight). flight.depth < max_key_len)
    (sym (fourth_is flights c.args.first c.go_on.new.flight c.go_on-2.new.flight c.go_on-3.new.flight))
    (depth_below (goes 3 (lit< tt)) c.stay_in.ensures.short)

pub invariant_of-self : goal.invariant_of-self
invariant_of-self g c =
    let flights = c.self.inside.flights in
    let bytes : (i : ℕ) → slice_index c.args.keys.now i < 256 = λ i. omega (arith, c.type_inv.keys i) in
    let a = at_once c.self.view_is c.requires.stands c.requires.first c.self.told c.requires.busy
    c.places_from-places.ensures c.stay_in.ensures.stay c.stay_in.ensures.sound bytes in
    let goes = four_goes flights a c.words_at-words.result c.words.ensures c.words_at-words.ensures in
    four_lawful flights a c.words_at-words.result goes c.go_on.ensures c.go_on-2.ensures c.go_on-3.ensures
    c.go_on-4.ensures c.self.invariant
