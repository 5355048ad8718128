-- the words so far, with those of the tries that are left, are those of all tries
use Rattle.std.proofs.Common.{◌≡◌, ◌+◌, drop, sum_by}
use Rattle.table_fill.specs.Filled.{nodes_len}
use Rattle.table_fill.proofs.tries.words_len.Given as goal

abbrev pub invariant-loop-trie : goal.invariant-loop-trie
invariant-loop-trie l = l.words + sum_by nodes_len (drop l.trie-index l.tries) ≡ sum_by nodes_len l.tries
