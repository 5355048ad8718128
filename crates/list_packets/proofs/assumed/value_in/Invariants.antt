-- The parts that were looked at.
use Rattle.std.proofs.Common.{◌≡◌, length}
use Rattle.text_scan.specs.Parts.{parts_of}
use Rattle.list_packets.specs.Assumed.{value_in}
use Rattle.list_packets.specs.Values.{comma}
use Rattle.list_packets.proofs.assumed.value_in.Given as goal

-- those that are left have the value that all have
abbrev pub invariant-loop-part : goal.invariant-loop-part
invariant-loop-part l = value_in l.key (parts_of comma l.assumed) ≡ value_in l.key (parts_of comma l.left)

abbrev pub decreases-loop-part : goal.decreases-loop-part
decreases-loop-part l = length l.left
