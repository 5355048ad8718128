-- the lengths of the levels of the tries so far
use Rattle.std.proofs.Common.{[], map}
use Rattle.group_states.specs.Levels.{LevelsView}
use Rattle.table_fill.specs.Filled.{level_len}
use Rattle.list_lemmas.proofs.Loops.{Joined}
use Rattle.table_fill.proofs.tries.level_lens_of.Given as goal

abbrev pub invariant-loop-trie : goal.invariant-loop-trie
invariant-loop-trie l =
    Joined (λ (trie : LevelsView). map level_len trie.levels) l.tries l.trie-index [] l.lens.items
