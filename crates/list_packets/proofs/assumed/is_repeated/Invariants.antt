-- The parts that were looked at.
use Rattle.std.proofs.Common.{◌≡◌, length}
use Rattle.text_scan.specs.Parts.{parts_of}
use Rattle.list_packets.specs.Assumed.{is_repeated}
use Rattle.list_packets.specs.Values.{comma}
use Rattle.list_packets.proofs.assumed.is_repeated.Given as goal

-- those that are left have the key twice if all have
abbrev pub invariant-loop-part : goal.invariant-loop-part
invariant-loop-part l = is_repeated l.key (parts_of comma l.text) ≡ is_repeated l.key (parts_of comma l.left)

abbrev pub decreases-loop-part : goal.decreases-loop-part
decreases-loop-part l = length l.left
