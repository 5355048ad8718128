-- the words of the lanes so far are counted
use Rattle.scalar_walk.proofs.Ended.{TakenTo}
use Rattle.scalar_walk.proofs.vectors.words_taken.Given as goal

abbrev pub invariant-loop-i : goal.invariant-loop-i
invariant-loop-i l = TakenTo l.counts l.i l.taken
