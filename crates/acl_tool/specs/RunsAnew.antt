-- What `aclc` promises as a program.
use Rattle.std.specs.Prelude.{◌≡◌, ℕ, List}
use Rattle.program_edge.specs.Edge.{World}
use Rattle.command_ending.specs.declared.status.Status.{Status}
use Rattle.command_ending.specs.Message.{code_of}
use Rattle.command_ending.specs.StepEffects.{outside}
use Rattle.acl_tool.specs.CommandEffects.{Runs}

-- The exit code is that of a status with which all holds that `run` promises. The counter of the
-- transitions stood at the first number before, and stands at the second.
abbrev pub IsRunOfAclc : ℕ → ℕ → List (List ℕ) → World → World → ℕ → Type 0
IsRunOfAclc steps_old steps_new words old new code =
    (status : Status) × (code ≡ code_of status)
    × Runs words (outside old.desk old.out steps_old) (outside new.desk new.out steps_new) old.err
    new.err status
