-- The boxes so far.
use Rattle.list_lemmas.proofs.Loops.{Mapped}
use Rattle.list_packets.specs.Packets.{with_end}
use Rattle.list_packets.proofs.packets.put_ends.Given as goal

-- there is one for each address so far
abbrev pub invariant-loop-spans : goal.invariant-loop-spans
invariant-loop-spans l = Mapped (with_end l.all l.end) l.addresses l.spans-index l.fn.into.items l.into.items
