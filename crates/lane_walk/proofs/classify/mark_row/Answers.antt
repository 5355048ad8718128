use Rattle.std.proofs.Common.{◌==◌, arith, false, length, not}
use Rattle.std.specs.Prelude.{slice_index}
use Rattle.std.proofs.lemmas.List.FromFn.{fill_by_all}
use Rattle.lane_walk.proofs.classify.mark_row.Goals as goal

pub returns : goal.returns
returns c =
    fill_by_all (λ k. not (slice_index c.args.row.now k == 0)) c.loop-category.won (length c.args.won.now) false
    (omega arith)
    (λ k h. c.loop-category.invariant k (omega (arith, c.loop-category-test.false)))
