-- the verdicts and the marks so far
use Rattle.std.proofs.Common.{◌≡◌, ◌<◌, ◌%◌, ℕ, get_or}
use Rattle.std.specs.Prelude.{slice_index}
use Rattle.flat_table.specs.Walk.{userdatas}
use Rattle.scalar_walk.proofs.Marks.{MarkedTo}
use Rattle.scalar_walk.proofs.classify.write_row.Given as goal

abbrev pub invariant-loop-category : goal.invariant-loop-category
invariant-loop-category l =
    ((k : ℕ) → k < l.category → get_or l.verdicts k 0 ≡ slice_index l.row k % userdatas)
    × MarkedTo (λ (k : ℕ). slice_index l.row k) l.category l.won
