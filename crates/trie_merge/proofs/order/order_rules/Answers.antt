use Rattle.std.proofs.lemmas.List.Sorted.{IsPermutation-map}
use Rattle.trie_merge.proofs.order.order_rules.Goals as goal
use Rattle.trie_merge.specs.declared.order.Keyed.{Keyed}

pub returns : goal.returns
returns c =
    rw c.in_ok-keyed.ensures at (IsPermutation-map (λ (keyed : Keyed). keyed.number) c.in_ok-keyed.keyed.rules.items
    c.sort_unstable_by.new.self.items c.sort_unstable_by.ensures.permutation)
