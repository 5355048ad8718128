-- The words that were seen so far.
use Rattle.std.proofs.Common.{◌≡◌, length}
use Rattle.text_scan.specs.Parts.{words_of}
use Rattle.cisco_reader.specs.Names.{is_among}
use Rattle.cisco_reader.proofs.names.is_among.Given as goal

-- none of them is the word
abbrev pub invariant-loop-one : goal.invariant-loop-one
invariant-loop-one l = is_among l.word (words_of l.words) ≡ is_among l.word (words_of l.left)

abbrev pub decreases-loop-one : goal.decreases-loop-one
decreases-loop-one l = length l.left
