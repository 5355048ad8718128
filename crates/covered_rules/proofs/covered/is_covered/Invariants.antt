use Rattle.std.proofs.Common.{◌≡◌, take, false}
use Rattle.covered_rules.specs.Covered.{is_covered}
use Rattle.covered_rules.proofs.covered.is_covered.Given as goal

-- none so far covers the rule
abbrev pub invariant-loop-other : goal.invariant-loop-other
invariant-loop-other l = is_covered l.rules.layout l.rules.rules (take l.other-index l.wide) l.place ≡ false
