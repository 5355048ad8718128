-- The rules that tasks make, step by step and within two limits.
use Rattle.std.specs.Prelude.{ℕ, ◌-◌, List, [], ◌∷◌, ◌++◌, length, Bool, false, Option, Some, None}
use Rattle.std.specs.Prelude.{if◌then◌else◌, nat_lt, Result, Ok, Err}
use Rattle.std.proofs.Common.{zero, suc}
use Rattle.field_defs.specs.declared.field.FieldDef.{FieldDef}
use Rattle.field_defs.specs.declared.field.FieldValue.{FieldValue}
use Rattle.rule_set.specs.Rule.{RuleView}
use Rattle.list_chains.specs.declared.span.Span.{Span}
use Rattle.list_chains.specs.declared.task.Frame.{Frame}
use Rattle.list_chains.specs.declared.task.Act.{Act}
use Rattle.list_chains.specs.declared.task.Act.TheVariants.{Follow, Leave, Answer}
use Rattle.list_chains.specs.declared.fault.LimitFault.{LimitFault}
use Rattle.list_chains.specs.declared.fault.LimitFault.TheVariants.{TooManyRules, TooManySteps}
use Rattle.list_chains.specs.Spans.{is_inside}
use Rattle.list_chains.specs.Tasks.{Chains, TaskView, task_before, task_tasks, enter}
use Rattle.list_chains.specs.Values.{box_rows}
use Rattle.list_chains.specs.Ranked.{ranked, answered}

-- a box lies within the last that was written: its packets are decided
abbrev pub is_decided : Option (List Span) → List Span → Bool
is_decided None box = false
is_decided (Some last) box = is_inside box last

-- rules before others
abbrev pub rules_before : List RuleView → Result (List RuleView) LimitFault →
    Result (List RuleView) LimitFault
rules_before rules (Ok others) = Ok (rules ++ others)
rules_before rules (Err fault) = Err fault

-- what is made from a step on, by the room for rules, the last box that was written, and what is
-- left to do
abbrev pub Making : Type 0
Making = ℕ → Option (List Span) → List TaskView → Result (List RuleView) LimitFault

-- rows of an answer are written if there is room for all of them
abbrev pub rows_made : Making → ℕ → ℕ → List Span → List TaskView → List (List FieldValue) →
    Result (List RuleView) LimitFault
rows_made making room userdata box tasks rows =
    if nat_lt room (length rows) then Err TooManyRules
    else rules_before (ranked room (answered userdata rows))
    (making (room - length rows) (Some box) tasks)

-- a step: an answer is written, and anything else leaves other things to do
abbrev pub act_made : List FieldDef → Chains → ℕ → Making → ℕ → Option (List Span) → Act →
    List Span → List Frame → List TaskView → Result (List RuleView) LimitFault
act_made layout chains policy making room last (Answer userdata) box frames tasks =
    rows_made making room userdata box tasks (box_rows layout box)
act_made layout chains policy making room last (Follow frame) box frames tasks =
    making room last (task_tasks chains policy (Follow frame) box frames tasks)
act_made layout chains policy making room last Leave box frames tasks =
    making room last (task_tasks chains policy Leave box frames tasks)

-- The rules that are made in so many steps, the last of which finds nothing left. A box that is
-- decided already is passed over, and so is what would follow where a chain surely ends.
unfoldable pub made : List FieldDef → Chains → ℕ → ℕ → Making
made layout chains policy zero room last tasks = Err TooManySteps
made layout chains policy (suc steps) room last [] = Ok []
made layout chains policy (suc steps) room last (task ∷ tasks) =
    if is_decided last task.within then made layout chains policy steps room last tasks
    else act_made layout chains policy (made layout chains policy steps) room last task.act
    task.within task.frames tasks

-- what is left to do at first: the packets of a box come to a chain, and then leave it
abbrev pub first_tasks : ℕ → ℕ → List Span → List TaskView
first_tasks depth place box = enter depth place box [] (task_before Leave box [] [])
