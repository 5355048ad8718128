-- The marks of so many chains.
use Rattle.std.proofs.Common.{◌≡◌}
use Rattle.list_chains.specs.Jumps as marks
use Rattle.list_chains.proofs.jumps.shallow.Given as goal

-- those of the turns so far
abbrev pub invariant-loop : goal.invariant-loop
invariant-loop l = l.marks.items ≡ marks.shallow l.counter l.chains
