-- The rules so far.
use Rattle.std.proofs.Common.{[]}
use Rattle.cisco_reader.specs.Packets.{with_rules}
use Rattle.cisco_reader.proofs.Steps.{IsMadeUpTo}
use Rattle.cisco_reader.proofs.boxes.all_rules.Given as goal

-- there are those of each entry so far
abbrev pub invariant-loop-placed : goal.invariant-loop-placed
invariant-loop-placed l = IsMadeUpTo (with_rules l.groups l.answers) [] l.entries l.placed-index l.rules.items
