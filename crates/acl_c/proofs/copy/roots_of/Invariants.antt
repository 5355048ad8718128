-- the roots of the tries so far
use Rattle.std.proofs.Common.{◌≡◌, take}
use Rattle.acl_c.proofs.copy.roots_of.Given as goal

abbrev pub invariant-loop-trie : goal.invariant-loop-trie
invariant-loop-trie l = l.roots.items ≡ take l.trie l.table.roots
