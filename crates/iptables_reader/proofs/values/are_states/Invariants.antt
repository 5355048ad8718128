-- The parts that were looked at.
use Rattle.std.proofs.Common.{◌≡◌, length}
use Rattle.text_scan.specs.Parts.{parts_of}
use Rattle.iptables_reader.specs.Values.{are_states}
use Rattle.list_packets.specs.Values.{comma}
use Rattle.iptables_reader.proofs.values.are_states.Given as goal

-- those that are left are states if all are
abbrev pub invariant-loop-part : goal.invariant-loop-part
invariant-loop-part l = are_states (parts_of comma l.word) ≡ are_states (parts_of comma l.left)

abbrev pub decreases-loop-part : goal.decreases-loop-part
decreases-loop-part l = length l.left
