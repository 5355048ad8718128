-- The spans of the fields so far.
use Rattle.std.proofs.Common.{[]}
use Rattle.list_lemmas.proofs.Loops.{Mapped}
use Rattle.list_chains.specs.Spans.{whole_span}
use Rattle.list_chains.proofs.span.SpanBox.whole.Given as goal

-- there is one for each field so far
abbrev pub invariant-loop-def : goal.invariant-loop-def
invariant-loop-def l = Mapped whole_span l.layout l.def-index [] l.spans.items
