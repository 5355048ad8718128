-- The lines so far.
use Rattle.std.proofs.Common.{◌≡◌, ℕ, ◌+◌, ◌≤◌, List, length}
use Rattle.text_scan.specs.Parts.{lines_of}
use Rattle.cisco_reader.specs.Lines.{LinesSoFar, no_lines, with_text}
use Rattle.cisco_reader.specs.Read.{all_after}
use Rattle.cisco_reader.proofs.lines.Lines.of.Given as goal

-- after the lines so far those that are left make what all make
pub record IsCutUpTo (bytes : List ℕ) (lines : LinesSoFar) (left : List ℕ) : Type 0 where
  pub long : lines.count + length left ≤ length bytes
  pub same : all_after with_text no_lines (lines_of bytes) ≡ all_after with_text lines (lines_of left)

abbrev pub invariant-loop-text : goal.invariant-loop-text
invariant-loop-text l = IsCutUpTo l.bytes l.lines l.left

abbrev pub decreases-loop-text : goal.decreases-loop-text
decreases-loop-text l = length l.left
