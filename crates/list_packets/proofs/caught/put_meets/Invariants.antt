-- The boxes so far.
use Rattle.list_lemmas.proofs.Loops.{Mapped}
use Rattle.list_packets.specs.Packets.{meet}
use Rattle.list_packets.proofs.caught.put_meets.Given as goal

-- there is one for each other box so far
abbrev pub invariant-loop-other : goal.invariant-loop-other
invariant-loop-other l = Mapped (meet l.one) l.others l.other-index l.fn.into.items l.into.items
