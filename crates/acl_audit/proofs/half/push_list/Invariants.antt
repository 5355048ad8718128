-- the rules so far are those of the list's rules before the next
use Rattle.acl_audit.proofs.Masking.{AreHalvedUpTo}
use Rattle.acl_audit.proofs.half.push_list.Given as goal

abbrev pub invariant-loop-rule : goal.invariant-loop-rule
invariant-loop-rule l =
    AreHalvedUpTo l.fn.rules l.half l.list l.list_rules.rules l.rule-index l.rules
