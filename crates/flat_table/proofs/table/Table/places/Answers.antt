use Rattle.std.proofs.Common.{◌≡◌, ◌<◌, List, get_or, length, arith, sym, ap, ◌∙◌, subst}
use Rattle.flat_table.specs.Table.{TableView, view_of, places_of}
use Rattle.flat_table.proofs.Shape.{sound_parts}
use Rattle.flat_table.proofs.Places.{tries_of_places, places-at}
use Rattle.flat_table.proofs.table.Table.places.Goals as goal

pub offset_bounds-as_slice-trie : goal.offset_bounds-as_slice-trie
offset_bounds-as_slice-trie c =
    let table = view_of c.self.inside.parts in
    let lt : c.args.trie < length table.roots = subst (λ (t : TableView). c.args.trie < length t.roots)
    (sym c.self.view_is) c.requires in
    let few = (sound_parts table c.self.invariant.sound).shape.few in
    omega arith

pub bounds-as_slice-trie : goal.bounds-as_slice-trie
bounds-as_slice-trie c =
    let table = view_of c.self.inside.parts in
    let lt : c.args.trie < length table.roots = subst (λ (t : TableView). c.args.trie < length t.roots)
    (sym c.self.view_is) c.requires in
    omega (
      arith,
      tries_of_places table c.self.inside.roots.items c.self.inside.places.items c.self.invariant,
      ap length c.as_slice.ensures.value,
    )

pub returns-clause-places : goal.returns-clause-places
returns-clause-places c =
    let table = view_of c.self.inside.parts in
    let lt : c.args.trie < length table.roots = subst (λ (t : TableView). c.args.trie < length t.roots)
    (sym c.self.view_is) c.requires in
    let here = ap (λ (xs : List _). get_or xs c.args.trie c.index-as_slice-trie.result) c.as_slice.ensures.value in
    subst (λ (t : TableView). c.as_slice-2.result.now ≡ places_of t c.args.trie) c.self.view_is
    (c.as_slice-2.ensures.value ∙ places-at table c.self.inside.roots.items c.self.inside.places.items
    c.self.invariant c.args.trie c.index-as_slice-trie.result lt (c.index-as_slice-trie.is ∙ here))
