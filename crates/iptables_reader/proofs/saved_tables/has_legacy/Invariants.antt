-- The words so far don't name legacy iptables.
use Rattle.std.proofs.Common.{◌≡◌, length}
use Rattle.text_scan.specs.Parts.{words_of}
use Rattle.iptables_reader.specs.SavedTables.{has_legacy}
use Rattle.iptables_reader.proofs.saved_tables.has_legacy.Given as goal

-- one names it exactly where one of those that are left does
abbrev pub invariant-loop-word : goal.invariant-loop-word
invariant-loop-word l = has_legacy (words_of l.text) ≡ has_legacy (words_of l.left)

abbrev pub decreases-loop-word : goal.decreases-loop-word
decreases-loop-word l = length l.left
