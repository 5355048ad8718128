-- The lines of so many chains.
use Rattle.std.proofs.Common.{◌≡◌}
use Rattle.iptables_reader.specs.Reached.{unsaid_within}
use Rattle.iptables_reader.proofs.reached.unsaid_lines.Given as goal

-- those of the turns so far
abbrev pub invariant-loop : goal.invariant-loop
invariant-loop l = l.lines.items ≡ unsaid_within l.counter l.chains
