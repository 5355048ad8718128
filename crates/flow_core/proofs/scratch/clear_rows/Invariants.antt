-- the rows so far are zero
use Rattle.std.proofs.Common.{◌≡◌}
use Rattle.flow_core.specs.Rows.{cleared}
use Rattle.flow_core.proofs.scratch.clear_rows.Given as goal

abbrev pub invariant-loop-k : goal.invariant-loop-k
invariant-loop-k l = l.rows ≡ cleared l.k l.fn.rows
