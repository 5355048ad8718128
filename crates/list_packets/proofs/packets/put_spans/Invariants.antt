-- The boxes so far.
use Rattle.list_lemmas.proofs.Loops.{Mapped}
use Rattle.list_packets.specs.Packets.{with_span}
use Rattle.list_packets.proofs.packets.put_spans.Given as goal

-- there is one for each span so far
abbrev pub invariant-loop-span : goal.invariant-loop-span
invariant-loop-span l = Mapped (with_span l.all l.field) l.spans l.span-index l.fn.into.items l.into.items
