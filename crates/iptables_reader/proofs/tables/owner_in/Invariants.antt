-- The words that were looked at.
use Rattle.std.proofs.Common.{◌≡◌, ◌+◌, ◌≤◌, length}
use Rattle.text_scan.specs.Parts.{words_of}
use Rattle.iptables_reader.specs.Tables.{owner_from}
use Rattle.iptables_reader.proofs.tables.owner_in.Given as goal

-- the name stands where it stands among those that are left
abbrev pub invariant-loop-word : goal.invariant-loop-word
invariant-loop-word l =
    (owner_from l.name 0 (words_of l.table) ≡ owner_from l.name l.place (words_of l.left))
    × (l.place + length l.left ≤ length l.table)

abbrev pub decreases-loop-word : goal.decreases-loop-word
decreases-loop-word l = length l.left
