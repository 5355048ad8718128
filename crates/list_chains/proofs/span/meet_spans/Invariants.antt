-- The spans so far, and what is left.
use Rattle.std.proofs.Common.{◌≡◌, ◌++◌, List, length, drop}
use Rattle.std.specs.Option.{option_map}
use Rattle.list_chains.specs.declared.span.Span.{Span}
use Rattle.list_chains.specs.Spans as spec
use Rattle.list_chains.proofs.span.meet_spans.Given as goal

-- the boxes have in common the spans so far, with those that what is left has in common
abbrev pub invariant-loop-place : goal.invariant-loop-place
invariant-loop-place l =
    (spec.box_meet l.ones l.others
    ≡ option_map (λ (rest : List Span). l.spans.items ++ rest)
    (spec.box_meet (drop l.place l.ones) (drop l.place l.others)))
    × (length l.ones ≡ length l.others)
