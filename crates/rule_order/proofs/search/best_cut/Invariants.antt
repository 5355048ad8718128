use Rattle.std.proofs.Common.{◌≤◌}
use Rattle.std.specs.Prelude.{IfSome}
use Rattle.table_sizes.specs.Sizes.{max_words}
use Rattle.rule_order.specs.Cut.{HoldAll}
use Rattle.rule_order.proofs.search.best_cut.Given as goal

-- the best cut so far holds all rules, and the cap is one
abbrev pub invariant-loop : goal.invariant-loop
invariant-loop l = IfSome l.search.best (λ best. HoldAll l.rules best.levels.items) × (l.cap ≤ max_words)
