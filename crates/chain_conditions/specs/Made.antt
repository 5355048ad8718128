-- The rules that tasks over boxes with marks make, step by step and within two limits.
use Rattle.std.specs.Prelude.{ℕ, pos, ◌-◌, List, [], ◌∷◌, length, Option, Some}
use Rattle.std.specs.Prelude.{if◌then◌else◌, nat_lt, Result, Ok, Err}
use Rattle.std.proofs.Common.{zero, suc}
use Rattle.field_defs.specs.declared.field.FieldDef.{FieldDef}
use Rattle.field_defs.specs.declared.field.FieldValue.{FieldValue}
use Rattle.rule_set.specs.Rule.{RuleView}
use Rattle.list_chains.specs.declared.span.Span.{Span}
use Rattle.list_chains.specs.declared.task.Frame.{Frame}
use Rattle.list_chains.specs.declared.task.Act.{Act}
use Rattle.list_chains.specs.declared.task.Act.TheVariants.{Follow, Leave, Answer}
use Rattle.list_chains.specs.declared.fault.LimitFault.{LimitFault}
use Rattle.list_chains.specs.declared.fault.LimitFault.TheVariants.{TooManyRules, TooManySteps}
use Rattle.list_chains.specs.Tasks.{Chains, TaskView, task_tasks}
use Rattle.list_chains.specs.Values.{box_rows}
use Rattle.list_chains.specs.Ranked.{every_category}
use Rattle.list_chains.specs.Made.{Making, is_decided, rules_before}
use Rattle.chain_conditions.specs.Marked.{is_sure_box, unmarked_spans}

-- the categories of a box's rules: all, or those of its answer under a condition
abbrev pub box_mask : (ℕ → ℕ) → ℕ → List Span → ℕ
box_mask masks userdata box = if is_sure_box box then every_category else masks userdata

-- rows of an answer as rules in some categories, of falling priority
abbrev pub tagged : ℕ → ℕ → ℕ → List (List FieldValue) → List RuleView
tagged priority mask userdata [] = []
tagged priority mask userdata (row ∷ rows) =
    record {
      tag = record { category_mask = mask; priority = pos priority; userdata = userdata };
      fields = row;
    } ∷ tagged (priority - 1) mask userdata rows

-- only a box without conditions becomes the last one, which passes over the boxes inside it
abbrev pub last_sure : Option (List Span) → List Span → Option (List Span)
last_sure last box = if is_sure_box box then Some box else last

-- rows of an answer are written if there is room for all of them
abbrev pub rows_made : Making → ℕ → ℕ → ℕ → Option (List Span) → List Span → List TaskView →
    List (List FieldValue) → Result (List RuleView) LimitFault
rows_made making room mask userdata last box tasks rows =
    if nat_lt room (length rows) then Err TooManyRules
    else rules_before (tagged room mask userdata rows)
    (making (room - length rows) (last_sure last box) tasks)

-- a step: an answer is written, and anything else leaves other things to do
abbrev pub act_made : List FieldDef → (ℕ → ℕ) → Chains → ℕ → Making → ℕ → Option (List Span) →
    Act → List Span → List Frame → List TaskView → Result (List RuleView) LimitFault
act_made layout masks chains policy making room last (Answer userdata) box frames tasks =
    rows_made making room (box_mask masks userdata box) userdata last box tasks
    (box_rows layout (unmarked_spans box))
act_made layout masks chains policy making room last (Follow frame) box frames tasks =
    making room last (task_tasks chains policy (Follow frame) box frames tasks)
act_made layout masks chains policy making room last Leave box frames tasks =
    making room last (task_tasks chains policy Leave box frames tasks)

-- The rules that are made in so many steps, the last of which finds nothing left. A box that is
-- decided already is passed over.
unfoldable pub made : List FieldDef → (ℕ → ℕ) → Chains → ℕ → ℕ → Making
made layout masks chains policy zero room last tasks = Err TooManySteps
made layout masks chains policy (suc steps) room last [] = Ok []
made layout masks chains policy (suc steps) room last (task ∷ tasks) =
    if is_decided last task.within then made layout masks chains policy steps room last tasks
    else act_made layout masks chains policy (made layout masks chains policy steps) room last
    task.act task.within task.frames tasks
