-- No chain so far is the one that is meant.
use Rattle.std.proofs.Common.{◌≡◌, drop}
use Rattle.std.specs.List.{position_from}
use Rattle.iptables_reader.specs.Chains.{is_meant}
use Rattle.iptables_reader.proofs.chain.place_from.Given as goal

-- the place is that of the first one from here on
abbrev pub invariant-loop-place : goal.invariant-loop-place
invariant-loop-place l =
    position_from (is_meant l.led l.name) l.fn.from (drop l.fn.from l.chains)
    ≡ position_from (is_meant l.led l.name) l.place (drop l.place l.chains)
