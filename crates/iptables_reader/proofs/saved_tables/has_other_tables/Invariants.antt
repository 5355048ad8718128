-- The lines so far begin no other table.
use Rattle.std.proofs.Common.{◌≡◌, length}
use Rattle.std.specs.List.{list_any}
use Rattle.text_scan.specs.Parts.{lines_of}
use Rattle.iptables_reader.specs.SavedTables.{begins_other}
use Rattle.iptables_reader.proofs.saved_tables.has_other_tables.Given as goal

-- one begins it exactly where one of those that are left does
abbrev pub invariant-loop-line : goal.invariant-loop-line
invariant-loop-line l =
    list_any begins_other (lines_of l.fn.bytes) ≡ list_any begins_other (lines_of l.left)

abbrev pub decreases-loop-line : goal.decreases-loop-line
decreases-loop-line l = length l.left
