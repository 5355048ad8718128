use Rattle.state_parts.proofs.Bucketed.{IsSought}
use Rattle.state_parts.proofs.pair_set.find_in.Given as goal

abbrev pub invariant-loop-number : goal.invariant-loop-number
invariant-loop-number l = IsSought l.all l.heads l.pair l.number

abbrev pub decreases-loop-number : goal.decreases-loop-number
decreases-loop-number l = l.number
