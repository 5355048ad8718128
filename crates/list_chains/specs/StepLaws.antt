-- What a list of tasks writes, by the flat list of chains.
use Rattle.std.specs.Prelude.{◌≡◌, ℕ, List, [], ◌∷◌, ◌++◌}
use Rattle.list_chains.specs.declared.span.Span.{Span}
use Rattle.list_chains.specs.declared.task.Frame.{Frame}
use Rattle.list_chains.specs.declared.task.Act.{Act}
use Rattle.list_chains.specs.declared.task.Act.TheVariants.{Follow, Leave, Answer}
use Rattle.list_chains.specs.Spans.{box_meet}
use Rattle.list_chains.specs.Flat.{Entry, rules_flat, chains_flat, policy_entry}
use Rattle.list_chains.specs.Tasks.{Chains, TaskView, frame_rules, task_tasks}

-- what is written for the packets of a box that leave a chain, by the rules after the jumps there
abbrev pub frames_flat : Chains → ℕ → List Frame → List Span → List (Entry (List Span))
frames_flat chains policy [] = policy_entry policy
frames_flat chains policy (frame ∷ frames) =
    λ box. rules_flat box_meet (chains_flat box_meet frame.depth chains) (frame_rules chains frame)
    box (frames_flat chains policy frames)
    ++ frames_flat chains policy frames box

-- what a task writes
abbrev pub act_flat : Chains → ℕ → Act → List Span → List Frame → List (Entry (List Span))
act_flat chains policy (Follow frame) box frames =
    rules_flat box_meet (chains_flat box_meet frame.depth chains) (frame_rules chains frame) box
    (frames_flat chains policy frames)
act_flat chains policy Leave box frames = frames_flat chains policy frames box
act_flat chains policy (Answer userdata) box frames =
    record { box = box; userdata = userdata } ∷ []

-- what tasks write, one after the other
abbrev pub tasks_flat : Chains → ℕ → List TaskView → List (Entry (List Span))
tasks_flat chains policy [] = []
tasks_flat chains policy (task ∷ tasks) =
    act_flat chains policy task.act task.within task.frames ++ tasks_flat chains policy tasks

-- an act that writes nothing itself
abbrev pub IsNoAnswer : Act → Type 0
IsNoAnswer act = (userdata : ℕ) → act ≡ Answer userdata → ⊥

-- What a task leaves to do writes the same as the task.
abbrev pub StepsWriteTheSame : Type 0
StepsWriteTheSame =
    (chains : Chains) (policy : ℕ) (act : Act) (box : List Span) (frames : List Frame)
    (tasks : List TaskView) → IsNoAnswer act →
    tasks_flat chains policy (task_tasks chains policy act box frames tasks)
    ≡ act_flat chains policy act box frames ++ tasks_flat chains policy tasks
