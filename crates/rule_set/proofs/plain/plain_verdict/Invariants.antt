use Rattle.std.proofs.Common.{take}
use Rattle.rule_set.specs.Winner.{applies}
use Rattle.rule_set.proofs.Best.{IsBest}
use Rattle.rule_set.proofs.plain.plain_verdict.Given as goal

-- the best tag is that of the winner among the rules so far
abbrev pub invariant-loop-rule : goal.invariant-loop-rule
invariant-loop-rule l = IsBest (applies l.defs l.key l.category) (take l.rule-index l.rule-items) l.best
