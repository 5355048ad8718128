-- The rules of a set in an order.
use Rattle.std.specs.Prelude.{ℕ, List, map}
use Rattle.rule_order.specs.declared.order.Keyed.{Keyed}

-- the places of the rules
abbrev pub numbers_in : List Keyed → List ℕ
numbers_in keyed = map (λ (rule : Keyed). rule.number) keyed
