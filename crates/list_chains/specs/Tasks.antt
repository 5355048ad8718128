-- The turning step by step, with a list of what is left to do.
use Rattle.std.specs.Prelude.{ℕ, ◌+◌, ◌-◌, ◌==◌, List, [], ◌∷◌, drop, Option, Some, None}
use Rattle.std.specs.Prelude.{if◌then◌else◌}
use Rattle.list_chains.specs.declared.chain.Target.{Target}
use Rattle.list_chains.specs.declared.chain.Target.TheVariants.{Decide, Return, Jump, Go}
use Rattle.list_chains.specs.declared.task.Frame.{Frame}
use Rattle.list_chains.specs.declared.task.Act.{Act}
use Rattle.list_chains.specs.declared.task.Act.TheVariants.{Follow, Leave, Answer}
use Rattle.list_chains.specs.declared.task.Task.{Task}
use Rattle.list_chains.specs.declared.span.Span.{Span}
use Rattle.list_chains.specs.Spans.{box_meet}
use Rattle.list_chains.specs.Chains.{ListRule, at_or}
use Rattle.list_chains.specs.Flat.{shared}

-- what is done with the packets of a box, and the rules after the jumps that led to them, the last
-- one first
pub record TaskView : Type 0 where
  pub act : Act
  pub within : List Span
  pub frames : List Frame

-- a task as contracts see it
abbrev pub task_of : Task → TaskView
task_of task = record { act = task.act; within = task.within; frames = task.frames.items }

-- the chains of a list
abbrev pub Chains : Type 0
Chains = List (List (ListRule (List Span)))

-- the rules of a frame's chain from its rule on
abbrev pub frame_rules : Chains → Frame → List (ListRule (List Span))
frame_rules chains frame = drop frame.rule (at_or chains frame.chain [])

-- the frame of the next rule
abbrev pub next_frame : Frame → Frame
next_frame frame = record frame { rule = frame.rule + 1 }

-- a task before others
abbrev pub task_before : Act → List Span → List Frame → List TaskView → List TaskView
task_before act within frames tasks = record { act = act; within = within; frames = frames } ∷ tasks

-- the packets of a box come to a chain, if jumps may lead through one more
abbrev pub enter : ℕ → ℕ → List Span → List Frame → List TaskView → List TaskView
enter depth place met frames tasks =
    if depth == 0 then tasks
    else task_before (Follow (record { depth = depth - 1; chain = place; rule = 0 })) met frames
    tasks

-- what a rule does with the packets of a box that it catches, by the frame after it and those below
abbrev pub target_tasks : ℕ → Target → Frame → List Frame → List Span → List TaskView →
    List TaskView
target_tasks userdata Decide next frames met tasks = task_before (Answer userdata) met [] tasks
target_tasks userdata Return next frames met tasks = task_before Leave met frames tasks
target_tasks userdata (Jump place) next frames met tasks =
    enter next.depth place met (next ∷ frames) tasks
target_tasks userdata (Go place) next frames met tasks =
    enter next.depth place met frames (task_before Leave met frames tasks)

-- those of boxes that a rule leaves out go on after it
abbrev pub parts_tasks : List Frame → List (List Span) → List TaskView → List TaskView
parts_tasks after [] tasks = tasks
parts_tasks after (part ∷ parts) tasks =
    parts_tasks after parts (task_before Leave part after tasks)

-- what a rule does with what its box and another have in common
abbrev pub met_tasks : ListRule (List Span) → Frame → List Frame → Option (List Span) →
    List TaskView → List TaskView
met_tasks rule next frames None tasks = tasks
met_tasks rule next frames (Some met) tasks =
    parts_tasks (next ∷ frames) (shared box_meet met rule.but)
    (target_tasks rule.userdata rule.target next frames met tasks)

-- the packets of a box come to the first of some rules, if there is one
abbrev pub rule_tasks : List (ListRule (List Span)) → Frame → List Frame → List Span →
    List TaskView → List TaskView
rule_tasks [] next frames box tasks = tasks
rule_tasks (rule ∷ rules) next frames box tasks =
    met_tasks rule next frames (box_meet box rule.inside)
    (task_before (Follow next) box frames tasks)

-- they leave their chain: to the rule after the last jump, or to the policy
abbrev pub leave_tasks : ℕ → List Frame → List Span → List TaskView → List TaskView
leave_tasks policy [] box tasks = task_before (Answer policy) box [] tasks
leave_tasks policy (frame ∷ frames) box tasks =
    task_before (Follow frame) box frames (task_before Leave box frames tasks)

-- what a task leaves to do, before others; an answer is written and leaves nothing
abbrev pub task_tasks : Chains → ℕ → Act → List Span → List Frame → List TaskView → List TaskView
task_tasks chains policy (Follow frame) box frames tasks =
    rule_tasks (frame_rules chains frame) (next_frame frame) frames box tasks
task_tasks chains policy Leave box frames tasks = leave_tasks policy frames box tasks
task_tasks chains policy (Answer userdata) box frames tasks = tasks
