use Rattle.std.proofs.Common.{◌≡◌, ℕ, ◌+◌, ◌*◌, ◌≤◌, List, take, true}
use Rattle.std.specs.List.Sorted.{IsStrictlyIncreasing}
use Rattle.table_sizes.specs.Sizes.{row_len}
use Rattle.rule_set.specs.Rule.{RuleSetView}
use Rattle.trie_merge.proofs.merge.price_all.Given as goal
use Rattle.trie_merge.specs.Cuts.{CutsFor}
use Rattle.trie_merge.specs.Shared.{RuleTree, AreIn}
use Rattle.trie_merge.specs.Words.{least_cost}

abbrev pub invariant-loop-k : goal.invariant-loop-k
invariant-loop-k l = record {
  cuts : CutsFor l.place.next l.target l.cuts.items;
  price : (set : RuleSetView) (tree : RuleTree) (lists : List (List ℕ)) → IsStrictlyIncreasing tree.rules
      → AreIn set l.target tree lists l.found
      → least_cost l.place.next l.place.is_last (take l.seen lists) + l.words
      ≤ least_cost l.place.next l.place.is_last (take l.k lists);
  some : l.k ≤ l.seen + l.words;
  bound : l.words + 256 * l.seen ≤ 256 * l.k;
  rows : l.place.is_last ≡ true → row_len * l.k ≤ row_len * l.seen + l.words;
}
