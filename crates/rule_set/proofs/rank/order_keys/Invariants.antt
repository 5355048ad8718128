use Rattle.std.proofs.Common.{◌≡◌, length, map}
use Rattle.std.specs.List.{range_with_len}
use Rattle.rule_set.specs.Among.{priority_at}
use Rattle.rule_set.specs.Keys.{order_key}
use Rattle.rule_set.proofs.rank.order_keys.Given as goal

-- the keys of the rules so far
abbrev pub invariant-loop-rule : goal.invariant-loop-rule
invariant-loop-rule l =
    (l.keys.items ≡ map (λ place. order_key (priority_at l.rules place) place) (range_with_len 0 l.rule-index))
    × (length l.keys.items ≡ l.rule-index)
