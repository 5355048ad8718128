-- the price of the states before this one is within the cap
use Rattle.std.proofs.Common.{ℕ, ◌+◌, ◌≤◌, List, take, Some}
use Rattle.std.specs.List.{sum_by}
use Rattle.std.specs.List.Sorted.{IsStrictlyIncreasing}
use Rattle.rule_set.specs.Rule.{RuleSetView}
use Rattle.trie_merge.proofs.probe.price_rest.Given as goal
use Rattle.trie_merge.specs.Cuts.{CutsFor}
use Rattle.trie_merge.specs.Shared.{RuleTree, AreIn}
use Rattle.trie_merge.specs.Words.{cost_ahead}

abbrev pub invariant-loop-state : goal.invariant-loop-state
invariant-loop-state l = record {
  cuts : CutsFor (Some l.next) l.target l.cuts.items;
  within : l.words ≤ l.budget.cap;
  price : (set : RuleSetView) (tree : RuleTree) (lists : List (List ℕ)) → IsStrictlyIncreasing tree.rules
      → AreIn set l.target tree lists l.states
      → l.words ≤ l.budget.before + sum_by (cost_ahead l.next) (take l.state-index lists);
}
