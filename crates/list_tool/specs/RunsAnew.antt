-- What `aclc-lists` promises as a program.
use Rattle.std.specs.Prelude.{◌≡◌, ℕ, List}
use Rattle.program_edge.specs.Edge.{World}
use Rattle.command_ending.specs.StepEffects.{outside}
use Rattle.list_tool.specs.declared.status.ListStatus.{ListStatus}
use Rattle.list_tool.specs.Message.{code_of}
use Rattle.list_tool.specs.RunsLists.{RunsLists}

-- The exit code is that of a status with which all holds that `run_lists` promises. No transition
-- is taken.
abbrev pub IsRunOfLists : List (List ℕ) → World → World → ℕ → Type 0
IsRunOfLists words old new code =
    (status : ListStatus) × (code ≡ code_of status)
    × RunsLists words (outside old.desk old.out 0) (outside new.desk new.out 0) old.err new.err
    status
