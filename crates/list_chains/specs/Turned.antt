-- The turning of chains into rules as a whole.
use Rattle.std.specs.Prelude.{◌≡◌, ℕ, ◌-◌, ◌<◌, ◌≤◌, List, length, true, false, if◌then◌else◌}
use Rattle.std.specs.Prelude.{nat_lt, None, Result, Ok, Err}
use Rattle.std.specs.List.{AllByRecursion, AllZip, list_all}
use Rattle.std.proofs.Common.{suc}
use Rattle.field_defs.specs.declared.field.FieldDef.{FieldDef}
use Rattle.rule_set.specs.Limits.{max_categories}
use Rattle.rule_set.specs.Rule.{RuleView, RuleSetView}
use Rattle.rule_set.specs.Winner.{verdict}
use Rattle.table_sizes.specs.Sizes.{max_rules}
use Rattle.list_chains.specs.declared.span.Span.{Span}
use Rattle.list_chains.specs.declared.fault.LimitFault.{LimitFault}
use Rattle.list_chains.specs.declared.fault.LimitFault.TheVariants.{TooManyRules, TooDeep}
use Rattle.list_chains.specs.declared.fault.ChainsFault.{ChainsFault}
use Rattle.list_chains.specs.declared.fault.ChainsFault.TheVariants.{Limit}
use Rattle.list_chains.specs.declared.turning.TheConstants.{MAX_DEPTH, MAX_STEPS}
use Rattle.list_chains.specs.declared.turning.Turning.{Turning}
use Rattle.list_chains.specs.declared.turning.Turn.{Turn}
use Rattle.list_chains.specs.declared.turning.Turn.TheVariants.{More, Done, Full}
use Rattle.list_chains.specs.Spans.{IsFieldSpan, in_box, whole_box}
use Rattle.list_chains.specs.Chains.{at_or, decides}
use Rattle.list_chains.specs.Jumps.{ending, shallow, way}
use Rattle.list_chains.specs.Tasks.{Chains, TaskView}
use Rattle.list_chains.specs.Values.{box_rows}
use Rattle.list_chains.specs.Made.{Making, made, first_tasks, rows_made, rules_before}

-- a limit as a fault
abbrev pub or_limit : Result (List RuleView) LimitFault → Result (List RuleView) ChainsFault
or_limit (Ok rules) = Ok rules
or_limit (Err fault) = Err (Limit fault)

-- how many chains jumps lead through at most, that of the first rule counted
abbrev pub max_depth : ℕ
max_depth = MAX_DEPTH

-- the rules of a chain from which jumps come to an end: they lead through so many chains at most,
-- and then there are so many steps and rules at most
abbrev pub turned_within : ℕ → List FieldDef → Chains → ℕ → ℕ →
    Result (List RuleView) ChainsFault
turned_within depth layout chains start policy =
    if at_or (shallow depth chains) start false
    then or_limit (made layout chains policy MAX_STEPS max_rules None
    (first_tasks (length chains) start (whole_box layout)))
    else Err (Limit TooDeep)

-- the rules of a chain that packets come to, or why there are none: jumps come to an end first
abbrev pub turned : List FieldDef → Chains → ℕ → ℕ → Result (List RuleView) ChainsFault
turned layout chains start policy =
    if at_or (ending chains) start false
    then turned_within max_depth layout chains start policy
    else Err (way (length chains) chains (ending chains) start)

-- A set for the layout has these rules, and the winner of each key has the answer of the chains.
pub record AnswersAsChains (its_layout : List FieldDef) (chains : Chains) (start policy : ℕ)
    (set : RuleSetView) : Type 0 where
  pub layout : set.layout ≡ its_layout
  pub rules : turned its_layout chains start policy ≡ Ok set.rules
  pub verdicts : (key : List ℕ) (category : ℕ) → list_all (λ byte. nat_lt byte 256) key ≡ true →
      category < max_categories →
      verdict its_layout set.rules key category
      ≡ decides (λ box. in_box its_layout box key) (length chains) chains start policy

-- each task's box has a lawful span for each field
abbrev pub HaveBoxes : List FieldDef → List TaskView → Type 0
HaveBoxes layout tasks =
    AllByRecursion (λ (task : TaskView). AllZip IsFieldSpan layout task.within) tasks

-- what holds at each step
pub record IsTurning (turning : Turning) : Type 0 where
  pub few : length turning.set.rules ≤ max_rules
  pub boxes : HaveBoxes turning.set.layout turning.tasks

-- the rules so far, and those that are made from here on
abbrev pub with_rest : Making → Turning → Result (List RuleView) LimitFault
with_rest making turning =
    rules_before turning.set.rules
    (making (max_rules - length turning.set.rules) turning.last turning.tasks)

-- and those of so many steps
abbrev pub left_made : Chains → ℕ → ℕ → Turning → Result (List RuleView) LimitFault
left_made chains policy steps turning =
    with_rest (made turning.set.layout chains policy steps) turning

-- what a step came to is what is made by one step more
abbrev pub TurnIs : Chains → ℕ → Turning → Turning → Turn → Type 0
TurnIs chains policy old new More =
    (steps : ℕ) → left_made chains policy (suc steps) old ≡ left_made chains policy steps new
TurnIs chains policy old new Done =
    (steps : ℕ) → left_made chains policy (suc steps) old ≡ Ok new.set.rules
TurnIs chains policy old new Full =
    (steps : ℕ) → left_made chains policy (suc steps) old ≡ Err TooManyRules

-- a step keeps what holds at each, and the layout
pub record Turns (chains : Chains) (policy : ℕ) (old new : Turning) (turn : Turn) : Type 0 where
  pub kept : IsTurning new
  pub layout : new.set.layout ≡ old.set.layout
  pub is : TurnIs chains policy old new turn

-- what an answer for a box came to is what is made of its rows
abbrev pub WriteIs : ℕ → List Span → Turning → Turning → Turn → Type 0
WriteIs userdata box old new Full =
    (making : Making) →
    rules_before old.set.rules (rows_made making (max_rules - length old.set.rules) userdata box
    old.tasks (box_rows old.set.layout box)) ≡ Err TooManyRules
WriteIs userdata box old new More =
    (making : Making) →
    rules_before old.set.rules (rows_made making (max_rules - length old.set.rules) userdata box
    old.tasks (box_rows old.set.layout box)) ≡ with_rest making new
WriteIs userdata box old new Done = ⊥

-- it keeps what holds at each step, and the layout
pub record Writes (userdata : ℕ) (box : List Span) (old new : Turning) (turn : Turn) : Type 0 where
  pub kept : IsTurning new
  pub layout : new.set.layout ≡ old.set.layout
  pub is : WriteIs userdata box old new turn
