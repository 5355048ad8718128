use Rattle.std.proofs.Common.{◌∙◌, set, arith}
use Rattle.flow_core.proofs.Clear.{cleared_more}
use Rattle.flow_core.proofs.scratch.clear_rows.Goals as goal

pub loop-k-preserved : goal.loop-k-preserved
loop-k-preserved c =
    let l = c.loop-k in
    (λ i. set (l.invariant i) l.k (c.zero_row.ensures i))
    ∙ cleared_more c.args.rows.now l.k (omega arith)
