-- the words of the categories so far
use Rattle.std.proofs.Common.{◌≡◌, length, map, take}
use Rattle.table_sizes.specs.Sizes.{row_len}
use Rattle.table_fill.specs.Tries.{winner_in}
use Rattle.table_fill.proofs.rows.row_of.Given as goal

abbrev pub invariant-loop-category : goal.invariant-loop-category
invariant-loop-category l =
    (length l.row ≡ row_len) × (take l.category l.row ≡ map (winner_in l.words) (take l.category l.winners))
