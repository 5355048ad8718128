-- the verdicts and the marks so far
use Rattle.std.proofs.Common.{◌≡◌, ◌<◌, ◌%◌, ℕ, get_or}
use Rattle.flat_table.specs.Walk.{userdatas}
use Rattle.scalar_walk.specs.Rows.{joined_rows}
use Rattle.scalar_walk.proofs.Marks.{MarkedTo}
use Rattle.scalar_walk.proofs.classify.write_joined.Given as goal

abbrev pub invariant-loop-category : goal.invariant-loop-category
invariant-loop-category l =
    ((k : ℕ) → k < l.category → get_or l.verdicts k 0 ≡ joined_rows l.rows l.reached k % userdatas)
    × MarkedTo (joined_rows l.rows l.reached) l.category l.won
