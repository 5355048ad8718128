-- the rows so far are those of the trie
use Rattle.lane_walk.proofs.Joining.{JoinedTo}
use Rattle.lane_walk.proofs.rows.copy_noted.Given as goal

abbrev pub invariant-loop-k : goal.invariant-loop-k
invariant-loop-k l = JoinedTo l.table l.fn.scratch l.keys l.k l.scratch
