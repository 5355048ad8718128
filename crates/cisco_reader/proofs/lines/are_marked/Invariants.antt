-- The words that were seen so far.
use Rattle.std.proofs.Common.{◌≡◌, length}
use Rattle.cisco_reader.specs.Lines.{are_marked}
use Rattle.cisco_reader.proofs.lines.are_marked.Given as goal

-- the mark stands in none of them
abbrev pub invariant-loop-word : goal.invariant-loop-word
invariant-loop-word l = are_marked l.mark l.fn.words ≡ are_marked l.mark l.words

abbrev pub decreases-loop-word : goal.decreases-loop-word
decreases-loop-word l = length l.words
