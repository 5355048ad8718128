-- The rules so far.
use Rattle.list_lemmas.proofs.Loops.{Mapped}
use Rattle.cisco_reader.specs.Packets.{rule_of}
use Rattle.cisco_reader.proofs.boxes.put_boxes.Given as goal

-- there is one for each box so far
abbrev pub invariant-loop-packets : goal.invariant-loop-packets
invariant-loop-packets l = Mapped (rule_of l.answer l.left) l.kept l.packets-index l.fn.into.items l.into.items
