-- the layout stays
use Rattle.std.proofs.Common.{◌≡◌}
use Rattle.tests_of_tables.proofs.comparisons.fill_up.Given as goal

abbrev pub invariant-loop-userdata : goal.invariant-loop-userdata
invariant-loop-userdata g l = l.rules.layout ≡ l.fn.rules.layout
