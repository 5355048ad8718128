use Rattle.std.proofs.Common.{◌≡◌, drop}
use Rattle.covered_rules.specs.Covered.{covers_values}
use Rattle.covered_rules.proofs.covered.covers_values.Given as goal

-- the fields so far are covered
abbrev pub invariant-loop-place : goal.invariant-loop-place
invariant-loop-place l =
    covers_values l.defs l.values l.others
    ≡ covers_values (drop l.place l.defs) (drop l.place l.values) (drop l.place l.others)
