-- The box of each task has a lawful span for each field, and each step keeps that.
use Rattle.std.proofs.Common.{ℕ, ◌≤◌, List, [], ◌∷◌, eqb, leb}
use Rattle.std.proofs.Common.{Option, Some, None, inl, inr, arith}
use Rattle.std.specs.List.{AllByRecursion, AllZip}
use Rattle.std.proofs.lemmas.Bool.{cases_Bool, leb-true}
use Rattle.std.proofs.lemmas.Bool.Decides.{leb_tells}
use Rattle.field_defs.specs.declared.field.FieldDef.{FieldDef}
use Rattle.list_chains.specs.declared.chain.Target.{Target}
use Rattle.list_chains.specs.declared.chain.Target.TheVariants.{Decide, Return, Jump, Go}
use Rattle.list_chains.specs.declared.span.Span.{Span}
use Rattle.list_chains.specs.declared.task.Frame.{Frame}
use Rattle.list_chains.specs.declared.task.Act.{Act}
use Rattle.list_chains.specs.declared.task.Act.TheVariants.{Follow, Leave, Answer}
use Rattle.list_chains.specs.Spans.{IsFieldSpan, common, before, box_meet}
use Rattle.list_chains.specs.Chains.{ListRule}
use Rattle.list_chains.specs.Flat.{met_before, shared}
use Rattle.list_chains.specs.Tasks.{Chains, TaskView, frame_rules, next_frame, enter, target_tasks, parts_tasks, met_tasks}
use Rattle.list_chains.specs.Tasks.{rule_tasks, leave_tasks, task_tasks}
use Rattle.list_chains.specs.Made.{first_tasks}
use Rattle.list_chains.specs.Turned.{HaveBoxes}

-- a box has a lawful span for each field
abbrev pub Fits : List FieldDef → List Span → Type 0
Fits layout box = AllZip IsFieldSpan layout box

-- and so has one that may be there
abbrev FitsIn : List FieldDef → Option (List Span) → Type 0
FitsIn layout None = Unit {0}
FitsIn layout (Some box) = Fits layout box

-- the greater end of what two spans have in common is no greater than that of the first
common_high : (one other : Span) → (common one other).high ≤ one.high
common_high one other = elim (cases_Bool (leb one.high other.high)) [
  | inl e ↦ rw e (omega arith)
  | inr e ↦ rw e (grind (arith, e, leb_tells one.high other.high))
]

-- a lawful span before others
before_fits : (def : FieldDef) (defs : List FieldDef) (span : Span) (rest : Option (List Span)) → IsFieldSpan def span →
    FitsIn defs rest → FitsIn (def ∷ defs) (before span rest)
before_fits def defs span None lawful fits = tt
before_fits def defs span (Some spans) lawful fits = (lawful, fits)

-- what a box has in common with another
met_fits : (layout : List FieldDef) (box other : List Span) → Fits layout box → FitsIn layout (box_meet box other)
met_fits [] [] [] fits = tt
met_fits [] [] (y ∷ ys) fits = tt
met_fits [] (x ∷ xs) other fits = absurd fits
met_fits (def ∷ defs) [] other fits = absurd fits
met_fits (def ∷ defs) (x ∷ xs) [] fits = tt
met_fits (def ∷ defs) (x ∷ xs) (y ∷ ys) fits = elim (cases_Bool (leb (common x y).low (common x y).high)) [
  | inl e ↦ rw e (before_fits def defs (common x y) (box_meet xs ys) (record {
    size = fits.0.size;
    filled = leb-true (common x y).low (common x y).high e;
    within = let below = common_high x y in let small = fits.0.within in omega (arith, below, small);
  }) (met_fits defs xs ys fits.1))
  | inr e ↦ rw e tt
]

-- one box more
more_fit : (layout : List FieldDef) (met : Option (List Span)) (rest : List (List Span)) → FitsIn layout met →
    AllByRecursion (Fits layout) rest → AllByRecursion (Fits layout) (met_before met rest)
more_fit layout None rest it fit = fit
more_fit layout (Some met) rest it fit = (it, fit)

-- what it has in common with some others
shared_fit : (layout : List FieldDef) (box : List Span) (others : List (List Span)) → Fits layout box →
    AllByRecursion (Fits layout) (shared box_meet box others)
shared_fit layout box [] fits = tt
shared_fit layout box (other ∷ others) fits =
    more_fit layout (box_meet box other) (shared box_meet box others) (met_fits layout box other fits)
    (shared_fit layout box others fits)

module _ (layout : List FieldDef) where
  -- a chain that is entered
  enter_keeps : (depth place : ℕ) (met : List Span) (frames : List Frame) (tasks : List TaskView) → Fits layout met →
      HaveBoxes layout tasks → HaveBoxes layout (enter depth place met frames tasks)
  enter_keeps depth place met frames tasks fits kept = elim (cases_Bool (eqb depth 0)) [
    | inl e ↦ rw e kept
    | inr e ↦ rw e (fits, kept)
  ]

  -- a target
  target_keeps : (userdata : ℕ) (target : Target) (next : Frame) (frames : List Frame) (met : List Span)
      (tasks : List TaskView) → Fits layout met → HaveBoxes layout tasks →
      HaveBoxes layout (target_tasks userdata target next frames met tasks)
  target_keeps userdata Decide next frames met tasks fits kept = (fits, kept)
  target_keeps userdata Return next frames met tasks fits kept = (fits, kept)
  target_keeps userdata (Jump place) next frames met tasks fits kept =
      enter_keeps next.depth place met (next ∷ frames) tasks fits kept
  target_keeps userdata (Go place) next frames met tasks fits kept =
      enter_keeps next.depth place met frames (record { act = Leave; within = met; frames = frames } ∷ tasks) fits
      (fits, kept)

  -- what a rule leaves out
  parts_keep : (after : List Frame) (parts : List (List Span)) (tasks : List TaskView) →
      AllByRecursion (Fits layout) parts → HaveBoxes layout tasks → HaveBoxes layout (parts_tasks after parts tasks)
  parts_keep after [] tasks fit kept = kept
  parts_keep after (part ∷ parts) tasks fit kept =
      parts_keep after parts (record { act = Leave; within = part; frames = after } ∷ tasks) fit.1 (fit.0, kept)

  -- a rule and a box
  met_keeps : (rule : ListRule (List Span)) (next : Frame) (frames : List Frame) (met : Option (List Span))
      (tasks : List TaskView) → FitsIn layout met → HaveBoxes layout tasks →
      HaveBoxes layout (met_tasks rule next frames met tasks)
  met_keeps rule next frames None tasks fits kept = kept
  met_keeps rule next frames (Some met) tasks fits kept =
      parts_keep (next ∷ frames) (shared box_meet met rule.but)
      (target_tasks rule.userdata rule.target next frames met tasks) (shared_fit layout met rule.but fits)
      (target_keeps rule.userdata rule.target next frames met tasks fits kept)

  -- some rules and a box
  rule_keeps : (rules : List (ListRule (List Span))) (next : Frame) (frames : List Frame) (box : List Span)
      (tasks : List TaskView) → Fits layout box → HaveBoxes layout tasks →
      HaveBoxes layout (rule_tasks rules next frames box tasks)
  rule_keeps [] next frames box tasks fits kept = kept
  rule_keeps (rule ∷ rules) next frames box tasks fits kept =
      met_keeps rule next frames (box_meet box rule.inside)
      (record { act = Follow next; within = box; frames = frames } ∷ tasks)
      (met_fits layout box rule.inside fits) (fits, kept)

  -- what leaves a chain
  leave_keeps : (policy : ℕ) (frames : List Frame) (box : List Span) (tasks : List TaskView) → Fits layout box →
      HaveBoxes layout tasks → HaveBoxes layout (leave_tasks policy frames box tasks)
  leave_keeps policy [] box tasks fits kept = (fits, kept)
  leave_keeps policy (frame ∷ frames) box tasks fits kept = (fits, (fits, kept))

  -- any task
  pub step_keeps : (chains : Chains) (policy : ℕ) (act : Act) (box : List Span) (frames : List Frame)
      (tasks : List TaskView) → Fits layout box → HaveBoxes layout tasks →
      HaveBoxes layout (task_tasks chains policy act box frames tasks)
  step_keeps chains policy (Follow frame) box frames tasks fits kept =
      rule_keeps (frame_rules chains frame) (next_frame frame) frames box tasks fits kept
  step_keeps chains policy Leave box frames tasks fits kept = leave_keeps policy frames box tasks fits kept
  step_keeps chains policy (Answer userdata) box frames tasks fits kept = kept

-- the first tasks
pub first_fit : (layout : List FieldDef) (depth start : ℕ) (whole : List Span) → Fits layout whole →
    HaveBoxes layout (first_tasks depth start whole)
first_fit layout depth start whole fits =
    enter_keeps layout depth start whole [] (record { act = Leave; within = whole; frames = [] } ∷ []) fits (fits, tt)
