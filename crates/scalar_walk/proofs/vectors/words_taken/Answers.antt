use Rattle.std.proofs.Common.{arith}
use Rattle.scalar_walk.proofs.Ended.{taken_none, taken_more}
use Rattle.scalar_walk.proofs.vectors.words_taken.Goals as goal

pub loop-i-init : goal.loop-i-init
loop-i-init c = taken_none c.args.walks.taken

pub loop-i-preserved : goal.loop-i-preserved
loop-i-preserved c =
    taken_more c.loop-i.invariant c.from-taken.ensures
    (omega (arith, c.from-taken.ensures, c.requires.few c.loop-i.i c.loop-i-test.true))
