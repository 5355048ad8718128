-- The chains so far.
use Rattle.std.proofs.Common.{[], map}
use Rattle.list_lemmas.proofs.Loops.{Mapped}
use Rattle.chain_conditions.specs.Marked.{marked_rule}
use Rattle.chain_conditions.proofs.marked.marked_chains.Given as goal

-- one for each chain so far
abbrev pub invariant-loop-chain : goal.invariant-loop-chain
invariant-loop-chain l = Mapped (map marked_rule) l.chains l.chain-index [] l.all.items
