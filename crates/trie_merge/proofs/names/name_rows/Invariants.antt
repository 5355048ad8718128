use Rattle.std.proofs.Common.{◌≡◌, map, take}
use Rattle.trie_merge.proofs.names.name_rows.Given as goal
use Rattle.trie_merge.specs.Names.{row_named}

abbrev pub invariant-loop-number : goal.invariant-loop-number
invariant-loop-number l = l.named.items ≡ map (row_named l.rows l.names) (take l.number-index l.found)
