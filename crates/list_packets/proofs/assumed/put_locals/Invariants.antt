-- The local addresses of the parts so far.
use Rattle.std.proofs.Common.{◌≡◌, ◌++◌, ◌∷◌, length}
use Rattle.text_scan.specs.Parts.{parts_of}
use Rattle.list_packets.specs.Assumed.{locals_in, loopback}
use Rattle.list_packets.specs.Values.{comma}
use Rattle.list_packets.proofs.assumed.put_locals.Given as goal

-- those of the parts that are left come after them
abbrev pub invariant-loop-part : goal.invariant-loop-part
invariant-loop-part l =
    l.into.items ++ locals_in l.family (parts_of comma l.left)
    ≡ l.fn.into.items ++ loopback l.family ∷ locals_in l.family (parts_of comma l.assumed)

abbrev pub decreases-loop-part : goal.decreases-loop-part
decreases-loop-part l = length l.left
