-- The words that were looked at.
use Rattle.std.proofs.Common.{◌≡◌, length, drop}
use Rattle.text_scan.specs.Parts.{words_of}
use Rattle.iptables_reader.specs.Tables.{option_from}
use Rattle.iptables_reader.proofs.tables.option_in.Given as goal

-- the option is the one among those that are left
abbrev pub invariant-loop-word : goal.invariant-loop-word
invariant-loop-word l =
    option_from l.name l.initial.place (drop l.initial.place (words_of l.table))
    ≡ option_from l.name l.after (words_of l.left)

abbrev pub decreases-loop-word : goal.decreases-loop-word
decreases-loop-word l = length l.left
