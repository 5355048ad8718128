use Rattle.std.proofs.Common.{◌≡◌, map}
use Rattle.std.specs.List.{range_with_len}
use Rattle.trie_merge.proofs.names.rank_rules.Given as goal
use Rattle.trie_merge.specs.Names.{ranked_at}

abbrev pub invariant-loop-number : goal.invariant-loop-number
invariant-loop-number l = l.ranked.items ≡ map (ranked_at l.rules) (range_with_len 0 l.number)
