-- the keys so far are classified
use Rattle.std.proofs.Common.{◌-◌, ◌≤◌}
use Rattle.scalar_walk.proofs.Batches.{Classified}
use Rattle.scalar_walk.proofs.classify.classify_keys.Given as goal

abbrev pub invariant-loop-k : goal.invariant-loop-k
invariant-loop-k g l =
    Classified l.table l.keys l.count l.marks l.k l.fn.out l.out l.fn.won l.won l.taken l.fn.steps l.steps
    × (l.k ≤ l.n)

abbrev pub decreases-loop-k : goal.decreases-loop-k
decreases-loop-k g l = l.n - l.k
