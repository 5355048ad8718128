-- the rows so far answer alike
use Rattle.acl_audit.proofs.FirstRow.{NoRowBefore}
use Rattle.acl_audit.proofs.unlike.first_unlike.Given as goal

abbrev pub invariant-loop-row : goal.invariant-loop-row
invariant-loop-row l = NoRowBefore l.rules.rules l.levels.rows l.row
