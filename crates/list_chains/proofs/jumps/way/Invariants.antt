-- What the way comes to from the chain of a turn.
use Rattle.std.proofs.Common.{◌≡◌, ◌<◌, ◌-◌, length}
use Rattle.list_chains.specs.Jumps as spec
use Rattle.list_chains.proofs.jumps.way.Given as goal

-- in the turns that are left it comes to what it comes to from the first
abbrev pub invariant-loop : goal.invariant-loop
invariant-loop l =
    (l.chain < length l.chains)
    × (spec.way (length l.chains - l.counter) l.chains l.marks l.chain
    ≡ spec.way (length l.chains) l.chains l.marks l.fn.start)
