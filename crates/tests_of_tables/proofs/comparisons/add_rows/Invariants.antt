-- the layout stays
use Rattle.std.proofs.Common.{◌≡◌}
use Rattle.tests_of_tables.proofs.comparisons.add_rows.Given as goal

abbrev pub invariant-loop-place : goal.invariant-loop-place
invariant-loop-place g l = l.rules.layout ≡ l.fn.rules.layout
