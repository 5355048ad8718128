-- The boxes so far.
use Rattle.std.proofs.Common.{[]}
use Rattle.list_lemmas.proofs.Loops.{Joined}
use Rattle.cisco_reader.specs.Packets.{with_spans}
use Rattle.cisco_reader.proofs.boxes.narrowed.Given as goal

-- there are those of each box so far
abbrev pub invariant-loop-packets : goal.invariant-loop-packets
invariant-loop-packets l = Joined (with_spans l.place l.spans) l.boxes l.packets-index [] l.made.items
