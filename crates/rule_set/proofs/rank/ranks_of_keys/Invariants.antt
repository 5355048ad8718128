use Rattle.rule_set.proofs.Places.{RankedSoFar}
use Rattle.rule_set.proofs.rank.ranks_of_keys.Given as goal

abbrev pub invariant-loop-below : goal.invariant-loop-below
invariant-loop-below l = RankedSoFar l.fn.keys.items l.key-items l.ranks.items l.below
