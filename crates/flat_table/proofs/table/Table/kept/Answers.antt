use Rattle.std.proofs.Common.{◌≡◌, ◌<◌, length, arith, sym, subst}
use Rattle.std.specs.Prelude.{slice_index}
use Rattle.std.proofs.lemmas.List.{get_or_read}
use Rattle.flat_table.specs.Table.{TableView, view_of}
use Rattle.flat_table.proofs.Shape.{sound_parts}
use Rattle.flat_table.proofs.table.Table.kept.Goals as goal

pub index-requires : goal.index-requires
index-requires c =
    let table = view_of c.self.inside.parts in
    let lt : c.args.trie < length table.roots = subst (λ (t : TableView). c.args.trie < length t.roots)
    (sym c.self.view_is) c.requires in
    let same = (sound_parts table c.self.invariant.sound).shape.same in
    omega arith

pub returns : goal.returns
returns c =
    let table = view_of c.self.inside.parts in
    let lt : c.args.trie < length table.roots = subst (λ (t : TableView). c.args.trie < length t.roots)
    (sym c.self.view_is) c.requires in
    let same = (sound_parts table c.self.invariant.sound).shape.same in
    let lt_kept : c.args.trie < length table.kept = omega arith in
    subst (λ (t : TableView). c.index.result.now ≡ slice_index t.kept c.args.trie) c.self.view_is
    (get_or_read table.kept _ _ lt_kept c.index.ensures 0)
