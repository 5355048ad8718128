use Rattle.std.proofs.Common.{◌≡◌, length}
use Rattle.trie_merge.proofs.cuts.fill_cuts.Given as goal
use Rattle.trie_merge.specs.Cuts.{AreBuilt}

abbrev pub invariant-loop-index : goal.invariant-loop-index
invariant-loop-index l = AreBuilt l.next l.parts l.cuts.items × (length l.cuts.items ≡ l.index)
