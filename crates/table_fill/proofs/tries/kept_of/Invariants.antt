-- the kept groups of the tries so far
use Rattle.std.proofs.Common.{[]}
use Rattle.group_states.specs.Levels.{LevelsView}
use Rattle.list_lemmas.proofs.Loops.{Mapped}
use Rattle.table_fill.proofs.tries.kept_of.Given as goal

abbrev pub invariant-loop-trie : goal.invariant-loop-trie
invariant-loop-trie l = Mapped (λ (trie : LevelsView). trie.kept) l.tries l.trie-index [] l.kept.items
