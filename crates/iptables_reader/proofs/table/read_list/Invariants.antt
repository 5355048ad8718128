-- The lines that were read so far.
use Rattle.std.proofs.Common.{length}
use Rattle.iptables_reader.proofs.ListLines.{IsReadUpTo}
use Rattle.iptables_reader.proofs.table.read_list.Given as goal

-- they made the table
abbrev pub invariant-loop-line : goal.invariant-loop-line
invariant-loop-line l = IsReadUpTo l.fn.asked l.fn.assumed l.fn.name l.fn.bytes l.table l.left

abbrev pub decreases-loop-line : goal.decreases-loop-line
decreases-loop-line l = length l.left
