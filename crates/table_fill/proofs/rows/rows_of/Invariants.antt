-- the rows so far
use Rattle.std.proofs.Common.{◌∷◌, [], map, replicate}
use Rattle.group_states.specs.Levels.{LevelsView}
use Rattle.table_sizes.specs.Sizes.{row_len}
use Rattle.table_fill.specs.Tries.{winner_in}
use Rattle.list_lemmas.proofs.Loops.{Joined}
use Rattle.table_fill.proofs.rows.rows_of.Given as goal

abbrev pub invariant-loop-trie : goal.invariant-loop-trie
invariant-loop-trie l =
    Joined (λ (trie : LevelsView). map (map (winner_in l.words)) trie.rows) l.tries l.trie-index
    (replicate row_len 0 ∷ []) l.rows.items
