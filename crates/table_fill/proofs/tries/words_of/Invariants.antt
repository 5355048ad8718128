-- the words so far, with those of the tries that are left, are all words
use Rattle.std.proofs.Common.{◌≡◌, ◌+◌, drop, length, sum_by}
use Rattle.table_fill.specs.Filled.{nodes_len, words_of_tries}
use Rattle.table_fill.specs.Tries.{row_count}
use Rattle.list_lemmas.proofs.Loops.{Writes}
use Rattle.table_fill.proofs.tries.words_of.Given as goal

abbrev pub invariant-loop-trie : goal.invariant-loop-trie
invariant-loop-trie l =
    Writes (words_of_tries (length l.words.items) l.row) l.tries l.trie-index l.words.items (words_of_tries 0 1 l.tries)
    × (length l.words.items + sum_by nodes_len (drop l.trie-index l.tries) ≡ sum_by nodes_len l.tries)
    × (l.row + sum_by row_count (drop l.trie-index l.tries) ≡ 1 + sum_by row_count l.tries)
