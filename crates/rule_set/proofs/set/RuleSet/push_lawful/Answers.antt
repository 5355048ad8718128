use Rattle.rule_set.proofs.set.RuleSet.push_lawful.Goals as goal

pub invariant_of-self : goal.invariant_of-self
invariant_of-self c = rw c.in_err-push.ensures.items c.self.invariant
