-- The chains so far.
use Rattle.std.proofs.Common.{[], is_some}
use Rattle.list_lemmas.proofs.Loops.{Mapped}
use Rattle.nft_reader.specs.Starts.{stop_of}
use Rattle.nft_reader.specs.Chains.{ListedChain}
use Rattle.nft_reader.proofs.starts.spread.Given as goal

-- each that has such a rule is marked
abbrev pub invariant-loop-chain : goal.invariant-loop-chain
invariant-loop-chain l =
    Mapped (λ (chain : ListedChain). is_some (stop_of l.marks chain)) l.chains l.chain-index [] l.more.items
