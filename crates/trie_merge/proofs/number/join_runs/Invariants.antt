use Rattle.std.proofs.Common.{◌+◌}
use Rattle.state_parts.proofs.Offered.{RestIs}
use Rattle.trie_merge.proofs.number.join_runs.Given as goal
use Rattle.trie_merge.proofs.Successors.{Joined}

abbrev pub invariant-loop-k : goal.invariant-loop-k
invariant-loop-k l =
    Joined l.is_last l.pieces l.fn.found.keys l.fn.runs.items l.found.keys l.runs.items l.succ l.last
    × RestIs l.pieces l.k (l.last + 1)
