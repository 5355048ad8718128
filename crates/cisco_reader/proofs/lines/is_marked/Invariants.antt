-- The bytes that were seen so far.
use Rattle.std.proofs.Common.{◌≡◌, length}
use Rattle.cisco_reader.specs.Lines.{is_marked}
use Rattle.cisco_reader.proofs.lines.is_marked.Given as goal

-- the mark begins at none of them
abbrev pub invariant-loop-left : goal.invariant-loop-left
invariant-loop-left l = is_marked l.mark l.word ≡ is_marked l.mark l.left

abbrev pub decreases-loop-left : goal.decreases-loop-left
decreases-loop-left l = length l.left
