-- The lines so far.
use Rattle.std.proofs.Common.{◌≡◌, ◌++◌, length, map}
use Rattle.text_scan.specs.Parts.{lines_of}
use Rattle.list_tool.proofs.printing.lines_of.Given as goal

-- those of what is left come after them
abbrev pub invariant-loop-line : goal.invariant-loop-line
invariant-loop-line l = (map (λ line. line.now) l.lines.items ++ lines_of l.left) ≡ lines_of l.bytes

abbrev pub decreases-loop-line : goal.decreases-loop-line
decreases-loop-line l = length l.left
