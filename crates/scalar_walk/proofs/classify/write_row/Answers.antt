use Rattle.std.proofs.Common.{ℕ, ◌%◌, length, arith, refl}
use Rattle.std.specs.Prelude.{slice_index}
use Rattle.std.proofs.lemmas.List.FromFn.{fill_by_all}
use Rattle.flat_table.specs.Walk.{userdatas}
use Rattle.scalar_walk.proofs.Marks.{marked_none, marked_more, all_marked}
use Rattle.scalar_walk.proofs.classify.write_row.Goals as goal

pub loop-category-init : goal.loop-category-init
loop-category-init c = (
  λ k h. absurd (omega (arith, h)),
  marked_none (λ (k : ℕ). slice_index c.args.row.now k) c.args.won.now,
)

pub returns-after-loop-category-clause-verdicts : goal.returns-after-loop-category-clause-verdicts
returns-after-loop-category-clause-verdicts c =
    fill_by_all (λ k. slice_index c.args.row.now k % userdatas) c.loop-category.verdicts c.args.count 0 (omega arith)
    (λ k h. c.loop-category.invariant.0 k (omega (arith, c.loop-category-test.false)))

pub returns-after-loop-category-clause-won : goal.returns-after-loop-category-clause-won
returns-after-loop-category-clause-won c =
    all_marked (length c.args.won.now) c.loop-category.invariant.1 (omega arith)
    (omega (arith, c.loop-category-test.false, c.requires.marks))

pub returns-then-count-eq1-clause-won : goal.returns-then-count-eq1-clause-won
returns-then-count-eq1-clause-won c =
    all_marked (length c.args.won.now)
    (marked_more (marked_none (λ (k : ℕ). slice_index c.args.row.now k) c.args.won.now)
    (slice_index c.args.row.now 0) refl c.put_mark.ensures) (omega arith) (omega (arith, c.requires.marks))
