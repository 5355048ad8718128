use Rattle.std.specs.Prelude.{IfSome}
use Rattle.rule_order.specs.Cut.{IsFirst}
use Rattle.rule_order.proofs.part.longest_part.Given as goal

-- what fits so far is a part
abbrev pub invariant-loop : goal.invariant-loop
invariant-loop l = IfSome l.longest.part (IsFirst l.rules l.left l.cap)
