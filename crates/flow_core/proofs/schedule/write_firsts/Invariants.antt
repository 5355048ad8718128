-- the verdicts so far
use Rattle.std.proofs.Common.{◌≡◌, ◌<◌, ◌%◌, ℕ, [], get_or}
use Rattle.std.specs.Prelude.{slice_index}
use Rattle.flat_table.specs.Walk.{userdatas}
use Rattle.flow_core.proofs.schedule.write_firsts.Given as goal

abbrev pub invariant-loop-k : goal.invariant-loop-k
invariant-loop-k l =
    (j : ℕ) → j < l.k → get_or l.out j 0 ≡ slice_index (get_or l.scratch j []) 0 % userdatas
