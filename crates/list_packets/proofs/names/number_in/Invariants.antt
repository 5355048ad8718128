-- The words that were looked at.
use Rattle.std.proofs.Common.{◌≡◌, length}
use Rattle.text_scan.specs.Parts.{words_of}
use Rattle.list_packets.specs.Names.{number_in}
use Rattle.list_packets.proofs.names.number_in.Given as goal

-- those that are left have the number that all have
abbrev pub invariant-loop-word : goal.invariant-loop-word
invariant-loop-word l = number_in l.name (words_of l.table) ≡ number_in l.name (words_of l.left)

abbrev pub decreases-loop-word : goal.decreases-loop-word
decreases-loop-word l = length l.left
