use Rattle.std.proofs.Common.{◌%◌, length, arith}
use Rattle.std.proofs.lemmas.List.FromFn.{fill_by_all}
use Rattle.flat_table.specs.Walk.{userdatas}
use Rattle.scalar_walk.specs.Rows.{joined_rows}
use Rattle.scalar_walk.proofs.Marks.{marked_none, all_marked}
use Rattle.scalar_walk.proofs.classify.write_joined.Goals as goal

pub loop-category-init : goal.loop-category-init
loop-category-init c = (
  λ k h. absurd (omega (arith, h)),
  marked_none (joined_rows c.args.rows.now c.args.reached.now) c.args.won.now,
)

pub returns-clause-verdicts : goal.returns-clause-verdicts
returns-clause-verdicts c =
    fill_by_all (λ k. joined_rows c.args.rows.now c.args.reached.now k % userdatas) c.loop-category.verdicts
    (length c.args.verdicts.now) 0 (omega arith)
    (λ k h. c.loop-category.invariant.0 k (omega (arith, c.loop-category-test.false)))

pub returns-clause-won : goal.returns-clause-won
returns-clause-won c =
    all_marked (length c.args.won.now) c.loop-category.invariant.1 (omega arith)
    (omega (arith, c.loop-category-test.false))
