-- Whether the box lies in the other is told by what is left.
use Rattle.std.proofs.Common.{◌≡◌, length, drop}
use Rattle.list_chains.specs.Spans as spec
use Rattle.list_chains.proofs.span.are_inside.Given as goal

-- what is left tells it
abbrev pub invariant-loop-place : goal.invariant-loop-place
invariant-loop-place l =
    (spec.is_inside l.ones l.others ≡ spec.is_inside (drop l.place l.ones) (drop l.place l.others))
    × (length l.ones ≡ length l.others)
