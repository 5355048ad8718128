use Rattle.std.proofs.lemmas.List.Sorted.{IsPermutation-map}
use Rattle.rule_order.specs.declared.order.Keyed.{Keyed}
use Rattle.rule_order.proofs.order.order_rules.Goals as goal

pub returns : goal.returns
returns c =
    rw (c.in_ok-order.ensures, c.as_slice.ensures.value)
    (rw c.in_ok-keyed.ensures at (IsPermutation-map (λ (keyed : Keyed). keyed.number) c.in_ok-keyed.keyed.items
    c.sort_unstable_by.new.self.items c.sort_unstable_by.ensures.permutation))
