-- The steps that are left.
use Rattle.std.proofs.Common.{◌≡◌, ◌-◌}
use Rattle.nft_reader.specs.Starts.{spread_on, stopping_chains}
use Rattle.nft_reader.proofs.starts.stopping_chains.Given as goal

-- they make of the marks what all make
abbrev pub invariant-loop : goal.invariant-loop
invariant-loop l = spread_on (16 - l.counter) l.chains l.marks.items ≡ stopping_chains l.chains
