-- so many rows were made
use Rattle.std.proofs.Common.{◌≡◌, replicate}
use Rattle.flow_core.specs.Rows.{zero_row}
use Rattle.flow_core.proofs.scratch.Scratch.new.Given as goal

abbrev pub invariant-loop : goal.invariant-loop
invariant-loop l = l.rows.items ≡ replicate l.counter zero_row
