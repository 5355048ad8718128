-- the verdicts of the first keys are written
use Rattle.std.proofs.Common.{◌≡◌, ◌*◌, ◌++◌, drop, take}
use Rattle.std.specs.Prelude.{flat_map}
use Rattle.flow_core.specs.Rows.{row_verdicts}
use Rattle.flow_core.proofs.schedule.write_verdicts.Given as goal

abbrev pub invariant-loop-k : goal.invariant-loop-k
invariant-loop-k l =
    l.out ≡ flat_map (row_verdicts l.count) (take l.k l.scratch) ++ drop (l.k * l.count) l.fn.out
