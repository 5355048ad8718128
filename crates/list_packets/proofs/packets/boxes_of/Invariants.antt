-- The boxes so far.
use Rattle.std.proofs.Common.{[]}
use Rattle.list_lemmas.proofs.Loops.{Mapped}
use Rattle.list_packets.specs.Packets.{spans_of}
use Rattle.list_packets.proofs.packets.boxes_of.Given as goal

-- there is one for each of the packets so far
abbrev pub invariant-loop-packets : goal.invariant-loop-packets
invariant-loop-packets l = Mapped (spans_of l.family) l.all l.packets-index [] l.boxes.items
