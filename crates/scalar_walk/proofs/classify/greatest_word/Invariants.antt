-- the greatest word of the rows so far
use Rattle.std.proofs.Common.{◌≡◌, take}
use Rattle.scalar_walk.specs.Rows.{joined_rows}
use Rattle.scalar_walk.proofs.classify.greatest_word.Given as goal

abbrev pub invariant-loop-row : goal.invariant-loop-row
invariant-loop-row l = l.greatest ≡ joined_rows l.rows (take l.row-index l.reached) l.category
