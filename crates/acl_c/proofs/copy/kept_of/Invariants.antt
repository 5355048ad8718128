-- the kept groups of the tries so far
use Rattle.std.proofs.Common.{◌≡◌, None, length, take}
use Rattle.flat_table.specs.Sound.{sound_fault}
use Rattle.acl_c.proofs.copy.kept_of.Given as goal

abbrev pub invariant-loop-trie : goal.invariant-loop-trie
invariant-loop-trie l = record {
  kept : l.kept.items ≡ take l.trie l.table.kept;
  count : length l.table.kept ≡ length l.table.roots;
  sound : sound_fault l.table ≡ None;
}
