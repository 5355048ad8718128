-- The turning of chains with conditions into rules as a whole.
use Rattle.std.specs.Prelude.{◌≡◌, ℕ, ◌-◌, ◌<◌, ◌≤◌, List, ◌∷◌, length, true, false, if◌then◌else◌}
use Rattle.std.specs.Prelude.{nat_lt, None, Result, Ok, Err}
use Rattle.std.specs.List.{list_all}
use Rattle.std.proofs.Common.{suc}
use Rattle.field_defs.specs.declared.field.FieldDef.{FieldDef}
use Rattle.rule_set.specs.Limits.{max_categories}
use Rattle.rule_set.specs.Rule.{RuleView, RuleSetView}
use Rattle.rule_set.specs.Winner.{verdict}
use Rattle.table_sizes.specs.Sizes.{max_rules}
use Rattle.list_chains.specs.declared.span.Span.{Span}
use Rattle.list_chains.specs.declared.fault.LimitFault.{LimitFault}
use Rattle.list_chains.specs.declared.fault.LimitFault.TheVariants.{TooManyRules, TooDeep}
use Rattle.list_chains.specs.declared.fault.ChainsFault.{ChainsFault}
use Rattle.list_chains.specs.declared.fault.ChainsFault.TheVariants.{Limit}
use Rattle.list_chains.specs.declared.turning.TheConstants.{MAX_STEPS}
use Rattle.list_chains.specs.declared.turning.Turn.{Turn}
use Rattle.list_chains.specs.declared.turning.Turn.TheVariants.{More, Done, Full}
use Rattle.list_chains.specs.Spans.{box_meet, in_box, whole_box}
use Rattle.list_chains.specs.Chains.{at_or}
use Rattle.list_chains.specs.Jumps.{ending, shallow, way}
use Rattle.list_chains.specs.Tasks.{Chains}
use Rattle.list_chains.specs.Values.{box_rows}
use Rattle.list_chains.specs.Made.{Making, first_tasks, rules_before}
use Rattle.list_chains.specs.Turned.{HaveBoxes, max_depth, or_limit}
use Rattle.chain_conditions.specs.declared.kind.AnswerKind.{AnswerKind}
use Rattle.chain_conditions.specs.declared.turning.Turning.{Turning}
use Rattle.chain_conditions.specs.Laws.{ConditionalChains, conditional_list, category_answer}
use Rattle.chain_conditions.specs.Kinds.{is_of, masks_of}
use Rattle.chain_conditions.specs.Marked.{mark_def, marked_chains, unmarked_spans}
use Rattle.chain_conditions.specs.Made.{made, rows_made}

-- the rules of a chain over boxes with marks from which jumps come to an end
abbrev pub turned_within : ℕ → List FieldDef → (ℕ → ℕ) → Chains → ℕ → ℕ →
    Result (List RuleView) ChainsFault
turned_within depth layout masks chains start policy =
    if at_or (shallow depth chains) start false
    then or_limit (made layout masks chains policy MAX_STEPS max_rules None
    (first_tasks (length chains) start (whole_box (mark_def ∷ layout))))
    else Err (Limit TooDeep)

-- the rules, or why there are none: jumps come to an end first
abbrev pub turned : List FieldDef → (ℕ → ℕ) → Chains → ℕ → ℕ → Result (List RuleView) ChainsFault
turned layout masks chains start policy =
    if at_or (ending chains) start false
    then turned_within max_depth layout masks chains start policy
    else Err (way (length chains) chains (ending chains) start)

-- a set for the layout has these rules, which are those that all steps make
pub record IsTurned (its_layout : List FieldDef) (masks : ℕ → ℕ) (chains : Chains)
    (start policy : ℕ) (set : RuleSetView) : Type 0 where
  pub layout : set.layout ≡ its_layout
  pub rules : turned its_layout masks chains start policy ≡ Ok set.rules
  pub steps : made its_layout masks chains policy MAX_STEPS max_rules None
      (first_tasks (length chains) start (whole_box (mark_def ∷ its_layout))) ≡ Ok set.rules

-- the rules of chains with conditions, by the kinds of their answers
abbrev pub turned_under : List FieldDef → ConditionalChains (List Span) → ℕ → ℕ →
    List AnswerKind → Result (List RuleView) ChainsFault
turned_under layout chains start policy kinds =
    turned layout (masks_of kinds) (marked_chains chains) start policy

-- A set for the layout has these rules, and in each category the winner of each key is that of the
-- flat list's entries that are sure or of the category's kind.
pub record AnswersUnderConditions (its_layout : List FieldDef)
    (chains : ConditionalChains (List Span)) (start policy : ℕ) (kinds : List AnswerKind)
    (set : RuleSetView) : Type 0 where
  pub layout : set.layout ≡ its_layout
  pub rules : turned_under its_layout chains start policy kinds ≡ Ok set.rules
  pub verdicts : (key : List ℕ) (category : ℕ) → list_all (λ byte. nat_lt byte 256) key ≡ true →
      category < max_categories →
      verdict its_layout set.rules key category
      ≡ category_answer (λ box. in_box its_layout box key) (is_of kinds category)
      (conditional_list box_meet (length chains) chains start policy (whole_box its_layout))

-- what holds at each step
pub record IsTurning (turning : Turning) : Type 0 where
  pub few : length turning.set.rules ≤ max_rules
  pub boxes : HaveBoxes (mark_def ∷ turning.set.layout) turning.tasks

-- the rules so far, and those that are made from here on
abbrev pub with_rest : Making → Turning → Result (List RuleView) LimitFault
with_rest making turning =
    rules_before turning.set.rules
    (making (max_rules - length turning.set.rules) turning.last turning.tasks)

-- and those of so many steps
abbrev pub left_made : (ℕ → ℕ) → Chains → ℕ → ℕ → Turning → Result (List RuleView) LimitFault
left_made masks chains policy steps turning =
    with_rest (made turning.set.layout masks chains policy steps) turning

-- what a step came to is what is made by one step more
abbrev pub TurnIs : (ℕ → ℕ) → Chains → ℕ → Turning → Turning → Turn → Type 0
TurnIs masks chains policy old new More =
    (steps : ℕ) →
    left_made masks chains policy (suc steps) old ≡ left_made masks chains policy steps new
TurnIs masks chains policy old new Done =
    (steps : ℕ) → left_made masks chains policy (suc steps) old ≡ Ok new.set.rules
TurnIs masks chains policy old new Full =
    (steps : ℕ) → left_made masks chains policy (suc steps) old ≡ Err TooManyRules

-- a step keeps what holds at each, and the layout
pub record Turns (masks : ℕ → ℕ) (chains : Chains) (policy : ℕ) (old new : Turning) (turn : Turn)
    : Type 0 where
  pub kept : IsTurning new
  pub layout : new.set.layout ≡ old.set.layout
  pub is : TurnIs masks chains policy old new turn

-- what is made of an answer for a box, after the rules so far
abbrev pub written : Making → ℕ → ℕ → List Span → Turning → Result (List RuleView) LimitFault
written making mask userdata box old =
    rules_before old.set.rules (rows_made making (max_rules - length old.set.rules) mask userdata
    old.last box old.tasks (box_rows old.set.layout (unmarked_spans box)))

-- what an answer for a box came to is what is made of its rows
abbrev pub WriteIs : ℕ → ℕ → List Span → Turning → Turning → Turn → Type 0
WriteIs mask userdata box old new Full =
    (making : Making) → written making mask userdata box old ≡ Err TooManyRules
WriteIs mask userdata box old new More =
    (making : Making) → written making mask userdata box old ≡ with_rest making new
WriteIs mask userdata box old new Done = ⊥

-- it keeps what holds at each step, and the layout
pub record Writes (mask userdata : ℕ) (box : List Span) (old new : Turning) (turn : Turn)
    : Type 0 where
  pub kept : IsTurning new
  pub layout : new.set.layout ≡ old.set.layout
  pub is : WriteIs mask userdata box old new turn
