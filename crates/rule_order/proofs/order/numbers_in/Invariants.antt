use Rattle.std.proofs.Common.{◌≡◌, take}
use Rattle.rule_order.specs.Order.{numbers_in}
use Rattle.rule_order.proofs.order.numbers_in.Given as goal

abbrev pub invariant-loop-rule : goal.invariant-loop-rule
invariant-loop-rule l = l.numbers.items ≡ numbers_in (take l.rule-index l.keyed)
