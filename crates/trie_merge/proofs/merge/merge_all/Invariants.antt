-- the states before this one are merged within the cap, and one more can be
use Rattle.std.proofs.Common.{◌≤◌, take}
use Rattle.trie_merge.proofs.merge.merge_all.Given as goal
use Rattle.trie_merge.proofs.Merging.{SoFar}
use Rattle.trie_merge.specs.Merged.{IsReady, target_of, total}

abbrev pub invariant-loop-state : goal.invariant-loop-state
invariant-loop-state l = record {
  so_far : SoFar l.place l.budget.before l.parts (target_of l.fn.progress.merged) (take l.state-index l.states)
      l.progress;
  within : total l.progress ≤ l.budget.cap;
  ready : IsReady l.place l.parts l.progress;
}
