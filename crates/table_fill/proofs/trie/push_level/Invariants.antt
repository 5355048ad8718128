-- the words of the states so far
use Rattle.std.proofs.Common.{[], get_or}
use Rattle.table_fill.specs.Filled.{node_words}
use Rattle.list_lemmas.proofs.Loops.{Joined}
use Rattle.table_fill.proofs.trie.push_level.Given as goal

abbrev pub invariant-loop-state : goal.invariant-loop-state
invariant-loop-state l =
    Joined (node_words l.targets) (get_or l.trie.levels l.depth []) l.state l.fn.words.items l.words.items
