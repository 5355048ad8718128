-- The rules so far.
use Rattle.list_lemmas.proofs.Loops.{Joined}
use Rattle.nft_reader.specs.Ruleset.{branch_rules}
use Rattle.nft_reader.proofs.chain.put_branches.Given as goal

-- there are those of each branch so far
abbrev pub invariant-loop-branch : goal.invariant-loop-branch
invariant-loop-branch l =
    Joined (branch_rules l.family) l.branches l.branch-index l.fn.rules.items l.rules.items
