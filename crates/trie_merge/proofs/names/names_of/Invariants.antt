use Rattle.std.proofs.Common.{length}
use Rattle.rule_set.specs.Rank.{rank_of}
use Rattle.trie_merge.proofs.names.names_of.Given as goal
use Rattle.list_lemmas.proofs.Greatest.{ArePlaced}

abbrev pub invariant-loop-number : goal.invariant-loop-number
invariant-loop-number l = ArePlaced (rank_of l.rules.rules) (length l.rules.rules) l.names.items l.number
