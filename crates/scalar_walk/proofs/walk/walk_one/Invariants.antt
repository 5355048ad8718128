-- a transition was counted for each byte read, and the trie has no fewer places
use Rattle.std.proofs.Common.{◌≡◌, ◌+◌, ◌-◌, length}
use Rattle.flat_table.specs.Table.{places_of}
use Rattle.scalar_walk.proofs.Walks.{Walks}
use Rattle.scalar_walk.proofs.walk.walk_one.Given as goal

abbrev pub invariant-loop-words : goal.invariant-loop-words
invariant-loop-words g l = record {
  walks : Walks record { table = l.table; trie = l.trie; places = l.places; words = l.words } l.key l.taken l.word;
  counted : l.steps ≡ l.initial.steps + l.taken;
}

abbrev pub decreases-loop-words : goal.decreases-loop-words
decreases-loop-words g l = length (places_of l.table l.trie) - l.taken
