-- The names that were seen so far.
use Rattle.std.proofs.Common.{◌≡◌, length}
use Rattle.text_scan.specs.Parts.{words_of}
use Rattle.cisco_reader.specs.Names.{number_named}
use Rattle.cisco_reader.proofs.names.number_named.Given as goal

-- none of them is the word
abbrev pub invariant-loop-name : goal.invariant-loop-name
invariant-loop-name l = number_named l.word (words_of l.table) ≡ number_named l.word (words_of l.left)

abbrev pub decreases-loop-name : goal.decreases-loop-name
decreases-loop-name l = length l.left
