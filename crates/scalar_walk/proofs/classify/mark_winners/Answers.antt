use Rattle.std.proofs.Common.{◌==◌, ℕ, take, not, arith, ap, ◌∙◌}
use Rattle.scalar_walk.specs.Rows.{joined_rows}
use Rattle.scalar_walk.proofs.Reached.{won_are}
use Rattle.scalar_walk.proofs.classify.mark_winners.Goals as goal

pub returns : goal.returns
returns g c =
    let rows = c.reach-reached.result.rows in
    won_are c.reach-reached.ensures.rows
    (omega (arith, c.tries.ensures.bound, c.tries.ensures.value)) c.loop-category.won c.loop-category.invariant.0
    (λ k h. c.loop-category.invariant.1 k (omega arith)
    ∙ ap (λ (n : ℕ). not (joined_rows c.args.table.now.rows (take n rows) k == 0)) c.tries.ensures.value)
