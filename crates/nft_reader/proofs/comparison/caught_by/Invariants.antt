-- The comparisons so far.
use Rattle.std.proofs.Common.{◌≡◌, drop, fold}
use Rattle.nft_reader.specs.Comparisons.{caught_by, narrowed}
use Rattle.nft_reader.proofs.comparison.caught_by.Given as goal

-- those that are left make of what is caught what all make
abbrev pub invariant-loop-comparison : goal.invariant-loop-comparison
invariant-loop-comparison l =
    caught_by l.fn.family l.compared ≡ fold narrowed l.caught (drop l.comparison-index l.compared)
