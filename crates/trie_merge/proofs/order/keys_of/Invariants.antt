use Rattle.std.proofs.Common.{◌≡◌, take}
use Rattle.trie_merge.proofs.order.keys_of.Given as goal
use Rattle.trie_merge.specs.Started.{numbers_in}

abbrev pub invariant-loop-number : goal.invariant-loop-number
invariant-loop-number l = numbers_in l.keyed.rules.items ≡ take l.number-index l.group
