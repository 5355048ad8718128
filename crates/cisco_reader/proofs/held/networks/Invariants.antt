-- The addresses so far.
use Rattle.std.proofs.Common.{[]}
use Rattle.cisco_reader.specs.Held.{with_member}
use Rattle.cisco_reader.specs.Held.{network_of_words}
use Rattle.cisco_reader.proofs.Steps.{IsMadeUpTo}
use Rattle.cisco_reader.proofs.held.networks.Given as goal

-- there are those of each member so far
abbrev pub invariant-loop-line : goal.invariant-loop-line
invariant-loop-line l = IsMadeUpTo (with_member network_of_words) [] l.lines l.line-index l.into.items
