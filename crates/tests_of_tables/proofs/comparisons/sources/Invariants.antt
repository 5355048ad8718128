-- the layout stays
use Rattle.std.proofs.Common.{◌≡◌}
use Rattle.field_defs.specs.Layout.{ip4_fields}
use Rattle.tests_of_tables.proofs.comparisons.sources.Given as goal

abbrev pub invariant-loop-source : goal.invariant-loop-source
invariant-loop-source g l = l.rules.layout ≡ ip4_fields
