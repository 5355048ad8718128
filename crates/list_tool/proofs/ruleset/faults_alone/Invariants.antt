-- The faults of the chains so far.
use Rattle.std.proofs.Common.{◌≡◌, map, take}
use Rattle.std.specs.declared.vec.Vec.{Vec}
use Rattle.std.specs.declared.alloc.Global.{Global}
use Rattle.nft_reader.specs.declared.fault.RuleFault.{RuleFault}
use Rattle.list_tool.specs.Listing.{faults_alone}
use Rattle.list_tool.proofs.ruleset.faults_alone.Given as goal

-- one list of them for each chain so far
abbrev pub invariant-loop-chain : goal.invariant-loop-chain
invariant-loop-chain l =
    map (λ (faults : Vec RuleFault Global). faults.items) l.faults.items
    ≡ faults_alone (take l.chain-index l.saved)
