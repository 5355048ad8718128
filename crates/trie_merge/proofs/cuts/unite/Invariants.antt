use Rattle.std.proofs.Common.{ℕ, ◌≤◌, List, ◌++◌}
use Rattle.group_states.specs.Entry.{ColumnView}
use Rattle.trie_merge.proofs.cuts.unite.Given as goal
use Rattle.trie_merge.specs.Cuts.{Knows}

abbrev pub invariant-loop-k : goal.invariant-loop-k
invariant-loop-k l =
    (l.all.count ≤ 5)
    × ((column : ColumnView) (left right : List ℕ) → Knows column left l.fn.one → Knows column right l.other
    → Knows column (left ++ right) l.all)
