-- The rules of the rows so far.
use Rattle.std.proofs.Common.{◌≡◌, ◌++◌, ◌-◌, length, take}
use Rattle.table_sizes.specs.Sizes.{max_rules}
use Rattle.chain_conditions.specs.Made.{tagged}
use Rattle.chain_conditions.proofs.turning.put_rows.Given as goal

-- they stand after those that were there
abbrev pub invariant-loop-row : goal.invariant-loop-row
invariant-loop-row l =
    (l.set.layout ≡ l.fn.set.layout)
    × (l.set.rules ≡ l.fn.set.rules
    ++ tagged (max_rules - length l.fn.set.rules) l.mask l.userdata (take l.row-index l.rows))
