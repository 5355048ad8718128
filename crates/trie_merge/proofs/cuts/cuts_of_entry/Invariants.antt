use Rattle.std.proofs.Common.{◌-◌, ◌≤◌, ◌∷◌, []}
use Rattle.trie_merge.proofs.cuts.cuts_of_entry.Given as goal
use Rattle.trie_merge.specs.Cuts.{Knows}

abbrev pub invariant-loop-first : goal.invariant-loop-first
invariant-loop-first l = (l.cuts.count ≤ 5) × Knows l.column (l.entry ∷ []) l.cuts

abbrev pub decreases-loop-first : goal.decreases-loop-first
decreases-loop-first l = 256 - l.first
