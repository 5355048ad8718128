use Rattle.std.proofs.Common.{◌≤◌, length}
use Rattle.rule_order.specs.Cut.{AreParts}
use Rattle.rule_order.proofs.cut.cut_under.Given as goal

-- the parts so far, of which there are at most as many as turns
abbrev pub invariant-loop : goal.invariant-loop
invariant-loop l =
    AreParts l.rules l.order l.cut.levels.items l.cut.taken l.cut.total
    × (length l.cut.levels.items ≤ l.counter)
