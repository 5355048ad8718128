use Rattle.std.proofs.Common.{◌≡◌}
use Rattle.std.specs.List.{range_with_len}
use Rattle.rule_order.specs.Order.{numbers_in}
use Rattle.rule_order.proofs.order.keyed_rules.Given as goal

abbrev pub invariant-loop-number : goal.invariant-loop-number
invariant-loop-number l = numbers_in l.keyed.items ≡ range_with_len 0 l.number
