use Rattle.covered_rules.specs.Covered.{IsKept}
use Rattle.covered_rules.proofs.covered.uncovered.Given as goal

-- what is kept of the rules so far
abbrev pub invariant-loop-place : goal.invariant-loop-place
invariant-loop-place l = IsKept l.rules l.place l.kept.places.items l.kept.wide.items
