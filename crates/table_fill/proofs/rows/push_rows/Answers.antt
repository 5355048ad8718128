use Rattle.std.proofs.Common.{arith}
use Rattle.list_lemmas.proofs.Loops.{mapped_more, mapped_all}
use Rattle.table_fill.proofs.rows.push_rows.Goals as goal

pub loop-number-preserved : goal.loop-number-preserved
loop-number-preserved c =
    mapped_more _ c.loop-number.invariant (omega (arith, c.loop-number-test.true, c.rows-number-end.ensures))
    c.row.ensures c.in_ok-push.ensures.items c.row_of.ensures

pub returns : goal.returns
returns c = mapped_all c.loop-number.invariant (omega (arith, c.loop-number-test.false, c.rows-number-end.ensures))
