-- The marks so far.
use Rattle.std.proofs.Common.{[]}
use Rattle.std.specs.List.{list_all}
use Rattle.list_lemmas.proofs.Loops.{Mapped}
use Rattle.list_chains.specs.Jumps.{leads_well}
use Rattle.list_chains.proofs.jumps.marked.Given as goal

-- one for each chain so far
abbrev pub invariant-loop-chain : goal.invariant-loop-chain
invariant-loop-chain l = Mapped (list_all (leads_well l.marks)) l.chains l.chain-index [] l.more.items
