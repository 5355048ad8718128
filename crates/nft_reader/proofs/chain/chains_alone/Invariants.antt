-- The chains so far.
use Rattle.std.proofs.Common.{◌≡◌, map}
use Rattle.nft_reader.specs.Chains.{ListedChain}
use Rattle.nft_reader.proofs.chain.chains_alone.Given as goal

-- each has the rules of its chain
abbrev pub invariant-loop-chain : goal.invariant-loop-chain
invariant-loop-chain l = l.chains.items ≡ map (λ (chain : ListedChain). chain.rules) l.yielded
