-- The parts that were looked at.
use Rattle.std.proofs.Common.{◌≡◌, length}
use Rattle.text_scan.specs.Parts.{parts_of}
use Rattle.iptables_reader.specs.Values.{has_state}
use Rattle.list_packets.specs.Values.{comma}
use Rattle.iptables_reader.proofs.values.has_state.Given as goal

-- those that are left have the state if all have
abbrev pub invariant-loop-part : goal.invariant-loop-part
invariant-loop-part l = has_state l.number (parts_of comma l.word) ≡ has_state l.number (parts_of comma l.left)

abbrev pub decreases-loop-part : goal.decreases-loop-part
decreases-loop-part l = length l.left
