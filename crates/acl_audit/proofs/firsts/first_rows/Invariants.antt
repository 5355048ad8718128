-- the table of the rows so far, which are the last ones
use Rattle.std.proofs.Common.{◌-◌, length}
use Rattle.acl_audit.proofs.Noting.{FirstsFrom}
use Rattle.acl_audit.proofs.firsts.first_rows.Given as goal

abbrev pub invariant-loop-passed : goal.invariant-loop-passed
invariant-loop-passed l = FirstsFrom l.levels.rows l.count (length l.levels.rows - l.passed) l.table.items
