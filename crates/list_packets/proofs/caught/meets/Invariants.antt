-- The boxes so far.
use Rattle.std.proofs.Common.{[], map}
use Rattle.list_lemmas.proofs.Loops.{Joined}
use Rattle.list_packets.specs.Packets.{meet}
use Rattle.list_packets.proofs.caught.meets.Given as goal

-- there are those of each box so far
abbrev pub invariant-loop-one : goal.invariant-loop-one
invariant-loop-one l = Joined (λ one. map (meet one) l.others) l.ones l.one-index [] l.boxes.items
