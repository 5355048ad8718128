-- The parts that were looked at.
use Rattle.std.proofs.Common.{◌≡◌, length}
use Rattle.text_scan.specs.Parts.{parts_of}
use Rattle.list_packets.specs.Assumed.{are_assumptions}
use Rattle.list_packets.specs.Values.{comma}
use Rattle.list_packets.proofs.assumed.are_assumptions.Given as goal

-- those that are left do if all do
abbrev pub invariant-loop-part : goal.invariant-loop-part
invariant-loop-part l = are_assumptions (parts_of comma l.text) ≡ are_assumptions (parts_of comma l.left)

abbrev pub decreases-loop-part : goal.decreases-loop-part
decreases-loop-part l = length l.left
