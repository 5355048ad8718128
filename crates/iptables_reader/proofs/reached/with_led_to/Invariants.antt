-- The lines so far.
use Rattle.std.proofs.Common.{[]}
use Rattle.list_lemmas.proofs.Loops.{Mapped}
use Rattle.iptables_reader.specs.Reached.{chain_unsaid}
use Rattle.iptables_reader.proofs.reached.with_led_to.Given as goal

-- one for each chain so far
abbrev pub invariant-loop-chain : goal.invariant-loop-chain
invariant-loop-chain l = Mapped (chain_unsaid l.lines) l.chains l.chain-index [] l.more.items
