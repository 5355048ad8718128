-- the levels of the tries so far
use Rattle.std.proofs.Common.{◌≡◌, ◌*◌, ◌≤◌, sum, take}
use Rattle.table_sizes.specs.Groups.{max_key_len}
use Rattle.flat_table.specs.Table.{depths_of}
use Rattle.flat_table.proofs.table.Table.level_len.Given as goal

abbrev pub invariant-loop-earlier : goal.invariant-loop-earlier
invariant-loop-earlier l = (l.first ≡ sum (take l.earlier (depths_of l.self))) × (l.first ≤ l.earlier * max_key_len)
