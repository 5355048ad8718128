-- The bytes that were seen so far.
use Rattle.std.proofs.Common.{◌≡◌, false, drop}
use Rattle.iptables_reader.specs.Quotes.{quotes_after}
use Rattle.iptables_reader.proofs.quotes.quotes_after.Given as goal

-- those that are left end as all do
abbrev pub invariant-loop-place : goal.invariant-loop-place
invariant-loop-place l = quotes_after false l.text ≡ quotes_after l.escaped (drop l.place l.text)
