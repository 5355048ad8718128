-- the categories so far answer alike
use Rattle.acl_audit.proofs.FirstRow.{NoneBefore}
use Rattle.acl_audit.proofs.unlike.unlike_category.Given as goal

abbrev pub invariant-loop-category : goal.invariant-loop-category
invariant-loop-category l = NoneBefore l.rules.rules l.row l.category
