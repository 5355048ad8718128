-- The parts that were counted.
use Rattle.std.proofs.Common.{◌≡◌, length}
use Rattle.text_scan.specs.Parts.{parts_of}
use Rattle.list_packets.specs.Values.{comma}
use Rattle.iptables_reader.specs.Values.{has_room, max_ports}
use Rattle.iptables_reader.proofs.values.has_room.Given as goal

-- there is room for those that are left if there is for all
abbrev pub invariant-loop-part : goal.invariant-loop-part
invariant-loop-part l =
    has_room max_ports (parts_of comma l.word) ≡ has_room l.room (parts_of comma l.left)

abbrev pub decreases-loop-part : goal.decreases-loop-part
decreases-loop-part l = length l.left
