-- the walks that are there stand after the bytes at the places so far, and each word that they took is counted
use Rattle.std.proofs.Common.{◌≡◌, ◌+◌, ◌-◌, length, eqb, not}
use Rattle.flat_table.specs.Table.{places_of}
use Rattle.scalar_walk.proofs.InStep.{way_of}
use Rattle.scalar_walk.proofs.Sides.{Sides}
use Rattle.scalar_walk.proofs.side_by_side.walk_side_by_side.Given as goal

abbrev pub invariant-loop-words : goal.invariant-loop-words
invariant-loop-words g l = record {
  sides : Sides (not (eqb g.row.THREE 0)) (not (eqb g.row.FOUR 0)) (way_of l.table l.trie l.places l.words) l.keys
      l.count l.n l.first l.second l.third l.fourth l.taken;
  counted : l.steps ≡ l.fn.steps + l.taken;
}

abbrev pub decreases-loop-words : goal.decreases-loop-words
decreases-loop-words g l = length (places_of l.table l.trie) - l.n
