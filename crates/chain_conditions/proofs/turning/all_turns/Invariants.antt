-- What is made of the steps that are left is what is made of all.
use Rattle.std.proofs.Common.{◌≡◌}
use Rattle.list_chains.specs.declared.turning.TheConstants.{MAX_STEPS}
use Rattle.chain_conditions.specs.Kinds.{masks_of}
use Rattle.chain_conditions.specs.Turned.{IsTurning, left_made}
use Rattle.chain_conditions.proofs.turning.all_turns.Given as goal

-- the same, for the same layout
abbrev pub invariant-loop-left : goal.invariant-loop-left
invariant-loop-left l =
    IsTurning l.turning × (l.turning.set.layout ≡ l.fn.turning.set.layout)
    × (left_made (masks_of l.kinds) l.chains l.policy l.left l.turning ≡ left_made (masks_of l.kinds) l.chains l.policy
    MAX_STEPS l.fn.turning)

-- the steps that are left
abbrev pub decreases-loop-left : goal.decreases-loop-left
decreases-loop-left l = l.left
