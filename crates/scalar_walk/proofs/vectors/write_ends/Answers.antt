use Rattle.std.proofs.Common.{arith}
use Rattle.scalar_walk.proofs.Ended.{rows_none, rows_more}
use Rattle.scalar_walk.proofs.vectors.write_ends.Goals as goal

pub loop-i-init : goal.loop-i-init
loop-i-init c = rows_none c.args.walks.lows c.args.rows.now c.args.at

pub loop-i-preserved : goal.loop-i-preserved
loop-i-preserved c = rows_more c.loop-i.invariant c.loop-i-test.true c.requires.room (omega arith)
