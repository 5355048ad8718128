use Rattle.std.proofs.Common.{length}
use Rattle.classbench_reader.proofs.FileLines.{IsReadUpTo}
use Rattle.classbench_reader.proofs.rule_file.read_rules.Given as goal

-- the lines before what is left were read, and the file holds their rules
abbrev pub invariant-loop-line : goal.invariant-loop-line
invariant-loop-line l = IsReadUpTo l.bytes l.file l.number l.ordinal l.left

abbrev pub decreases-loop-line : goal.decreases-loop-line
decreases-loop-line l = length l.left
