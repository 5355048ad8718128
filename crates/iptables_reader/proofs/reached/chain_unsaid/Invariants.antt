-- The earliest line so far.
use Rattle.std.proofs.Common.{◌≡◌, drop}
use Rattle.iptables_reader.specs.Reached.{chain_unsaid, earliest}
use Rattle.iptables_reader.proofs.reached.chain_unsaid.Given as goal

-- the rules from here on make of it what all rules make
abbrev pub invariant-loop-place : goal.invariant-loop-place
invariant-loop-place l =
    chain_unsaid l.lines l.chain ≡ earliest l.lines l.line (drop l.place l.chain.rules)
