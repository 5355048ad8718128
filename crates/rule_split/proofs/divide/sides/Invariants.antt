use Rattle.std.proofs.Common.{◌≡◌, take}
use Rattle.rule_split.specs.Divide.{wild_rules, bound_rules}
use Rattle.rule_split.proofs.divide.sides.Given as goal

-- the sides of the rules so far
abbrev pub invariant-loop-number : goal.invariant-loop-number
invariant-loop-number l =
    (l.sides.first.items ≡ bound_rules l.rules (take l.number-index l.group) l.field)
    × (l.sides.second.items ≡ wild_rules l.rules (take l.number-index l.group) l.field)
