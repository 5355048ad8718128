-- The lines so far.
use Rattle.std.proofs.Common.{[]}
use Rattle.cisco_reader.specs.Held.{with_opened}
use Rattle.cisco_reader.proofs.Steps.{IsMadeUpTo}
use Rattle.cisco_reader.proofs.held.all_opened.Given as goal

-- there are those of each line so far
abbrev pub invariant-loop-line : goal.invariant-loop-line
invariant-loop-line l = IsMadeUpTo (with_opened l.groups l.kind l.number) [] l.lines l.line-index l.into.items
