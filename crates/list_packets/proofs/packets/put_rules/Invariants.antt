-- The boxes so far.
use Rattle.list_lemmas.proofs.Loops.{Mapped}
use Rattle.list_packets.specs.Packets.{rule_of}
use Rattle.list_packets.proofs.packets.put_rules.Given as goal

-- there is a rule for each box that is wanted so far
abbrev pub invariant-loop-packets : goal.invariant-loop-packets
invariant-loop-packets l =
    Mapped (rule_of l.family l.userdata l.target l.caught.left) l.caught.kept l.packets-index l.fn.rules.items
    l.rules.items
