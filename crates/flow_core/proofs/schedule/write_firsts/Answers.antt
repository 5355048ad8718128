use Rattle.std.proofs.Common.{arith, length}
use Rattle.flow_core.proofs.Verdicts.{firsts_written}
use Rattle.flow_core.proofs.schedule.write_firsts.Goals as goal

pub returns : goal.returns
returns c = firsts_written c.args.scratch.now c.loop-k.out (length c.args.out.now) (omega arith) c.requires
    (λ j below. c.loop-k.invariant j (omega (arith, below, c.loop-k-test.false)))
