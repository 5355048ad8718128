-- The boxes so far.
use Rattle.std.proofs.Common.{slice_set}
use Rattle.list_lemmas.proofs.Loops.{Mapped}
use Rattle.cisco_reader.proofs.boxes.put_spans.Given as goal

-- there is one for each span so far
abbrev pub invariant-loop-span : goal.invariant-loop-span
invariant-loop-span l = Mapped (slice_set l.packets l.place) l.spans l.span-index l.fn.into.items l.into.items
