-- the roots so far, with those of the tries that are left, are all roots
use Rattle.std.proofs.Common.{◌≡◌, ◌+◌, drop, sum_by}
use Rattle.table_fill.specs.Filled.{nodes_len, roots_of}
use Rattle.list_lemmas.proofs.Loops.{Writes}
use Rattle.table_fill.proofs.tries.roots_of.Given as goal

abbrev pub invariant-loop-trie : goal.invariant-loop-trie
invariant-loop-trie l =
    Writes (roots_of l.place) l.tries l.trie-index l.roots.items (roots_of 0 l.tries)
    × (l.place + sum_by nodes_len (drop l.trie-index l.tries) ≡ sum_by nodes_len l.tries)
