use Rattle.std.proofs.Common.{◌≡◌, ◌≤◌, ◌+◌, ◌*◌, drop}
use Rattle.covered_rules.specs.Covered.{wild_bytes}
use Rattle.covered_rules.proofs.covered.wild_bytes.Given as goal

-- the bytes of the fields so far
abbrev pub invariant-loop-place : goal.invariant-loop-place
invariant-loop-place l =
    (wild_bytes l.defs l.values ≡ l.bytes + wild_bytes (drop l.place l.defs) (drop l.place l.values))
    × (l.bytes ≤ 8 * l.place)
