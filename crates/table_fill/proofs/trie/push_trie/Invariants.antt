-- the words so far, with those of the levels that are left, are those of all levels
use Rattle.std.proofs.Common.{◌≡◌, ◌+◌, ◌++◌, drop, length, sum_by}
use Rattle.table_fill.specs.Filled.{level_len, words_of_levels, matches_of, nodes_len}
use Rattle.table_fill.specs.Tries.{AreLevels}
use Rattle.list_lemmas.proofs.Loops.{Writes}
use Rattle.table_fill.proofs.trie.push_trie.Given as goal

abbrev pub invariant-loop-depth : goal.invariant-loop-depth
invariant-loop-depth l =
    let matches = matches_of l.row l.trie in
    Writes (words_of_levels (length l.words.items) matches) l.trie.levels l.depth l.words.items
    (l.fn.words.items ++ words_of_levels (length l.fn.words.items) matches l.trie.levels)
    × (length l.words.items + sum_by level_len (drop l.depth l.trie.levels)
    ≡ length l.fn.words.items + nodes_len l.trie)
    × AreLevels (length l.trie.rows) (drop l.depth l.trie.levels)
