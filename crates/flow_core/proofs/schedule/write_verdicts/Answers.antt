use Rattle.std.proofs.Common.{arith}
use Rattle.flow_core.proofs.Verdicts.{firsts_are, row_written}
use Rattle.flow_core.proofs.schedule.write_verdicts.Goals as goal

pub loop-k-preserved : goal.loop-k-preserved
loop-k-preserved c =
    let l = c.loop-k in
    row_written c.args.scratch.now c.args.count c.args.keys c.args.out.now c.requires.keys c.requires.room l.k l.out
    c.write_row.new.verdicts c.row.result.now c.loop-k-test.true l.auto.out l.invariant c.row.ensures
    c.write_row.ensures

pub returns-then-count-eq1 : goal.returns-then-count-eq1
returns-then-count-eq1 c =
    firsts_are c.args.scratch.now c.args.keys (omega arith) c.requires.room c.write_firsts.ensures
