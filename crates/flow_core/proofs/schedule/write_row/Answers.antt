use Rattle.std.proofs.Common.{◌%◌, arith, length}
use Rattle.std.specs.Prelude.{slice_index}
use Rattle.std.proofs.lemmas.List.FromFn.{fill_by_all}
use Rattle.flat_table.specs.Walk.{userdatas}
use Rattle.flow_core.proofs.schedule.write_row.Goals as goal

pub returns : goal.returns
returns c =
    fill_by_all (λ k. slice_index c.args.row.now k % userdatas) c.loop-category.verdicts (length c.args.verdicts.now) 0
    (omega arith)
    (λ k h. c.loop-category.invariant k (omega (arith, c.loop-category-test.false)))
