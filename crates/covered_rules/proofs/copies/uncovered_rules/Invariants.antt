use Rattle.std.proofs.Common.{◌≡◌, take}
use Rattle.covered_rules.specs.Covered.{rules_at}
use Rattle.covered_rules.proofs.copies.uncovered_rules.Given as goal

-- the rules at the places so far are copied
abbrev pub invariant-loop-place : goal.invariant-loop-place
invariant-loop-place l = l.set ≡ record l.rules { rules = rules_at l.rules.rules (take l.place-index l.place-items) }
