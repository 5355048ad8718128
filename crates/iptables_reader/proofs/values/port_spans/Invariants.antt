-- The parts that were read.
use Rattle.std.proofs.Common.{◌≡◌, [], Ok, length}
use Rattle.text_scan.specs.Parts.{parts_of}
use Rattle.list_packets.specs.Values.{comma}
use Rattle.iptables_reader.specs.Values.{with_parts}
use Rattle.iptables_reader.proofs.values.port_spans.Given as goal

-- the parts that are left make of the spans so far what all parts make
abbrev pub invariant-loop-part : goal.invariant-loop-part
invariant-loop-part l =
    with_parts (Ok []) (parts_of comma l.word) ≡ with_parts (Ok l.spans.items) (parts_of comma l.left)

abbrev pub decreases-loop-part : goal.decreases-loop-part
decreases-loop-part l = length l.left
