-- How a context that has a table stands for one that has lists of rules alone.
use Rattle.std.specs.Prelude.{◌≡◌, ℕ, List, ◌++◌, map, Option, Some, None, IfSome, ⊤}
use Rattle.std.specs.List.{range_with_len}
use Rattle.field_defs.specs.declared.field.FieldDef.{FieldDef}
use Rattle.rule_set.specs.Rule.{RuleSetView, RuleView}
use Rattle.rule_set.specs.Winner.{verdict}
use Rattle.flat_table.specs.Table.{TableView}
use Rattle.table_fill.specs.Serves.{Serves}
use Rattle.acl_context.specs.Context.{ContextView}
use Rattle.acl_session.specs.declared.made.Made.{Made}
use Rattle.acl_session.specs.State.{Answer, Held, HeldAnswer, State, set_of}

-- the table answers as the rules of the last build, and there is none where nothing was built
abbrev pub IsBuilt : List FieldDef → Option (List RuleView) → Option TableView → Type 0
IsBuilt layout None None = ⊤
IsBuilt layout None (Some table) = ⊥
IsBuilt layout (Some rules) None = ⊥
IsBuilt layout (Some rules) (Some table) = Serves (record { layout = layout; rules = rules }) table

-- The verdicts are those of every list of rules that the table answers as, for the key in so many
-- categories.
abbrev pub SaysOf : List FieldDef → Option TableView → ℕ → List ℕ → List ℕ → Type 0
SaysOf layout table count key verdicts = (set : RuleSetView) → set.layout ≡ layout →
    IfSome table (λ t. Serves set t →
    verdicts ≡ map (verdict set.layout set.rules key) (range_with_len 0 count))

-- the context holds these rules, and its table answers as those of the last build
pub record Holds (held : Held) (context : ContextView) : Type 0 where
  pub set : context.set ≡ set_of held
  pub limit : context.max_rules ≡ held.limit
  pub table : IsBuilt held.layout held.built context.table

-- there is a context exactly where there is one in the state
abbrev pub IsHeld : Option Held → Option ContextView → Type 0
IsHeld None None = ⊤
IsHeld None (Some context) = ⊥
IsHeld (Some held) None = ⊥
IsHeld (Some held) (Some context) = Holds held context

-- what the lines made is what the state says
pub record Mirrors (state : State) (made : Made) : Type 0 where
  pub collected : made.collected ≡ state.collected
  pub context : IsHeld state.context made.context

-- the new state is that of the answer, and its reply was put after the others
pub record IsAnswered (answer : Answer) (new : Made) (before after : List ℕ) : Type 0 where
  pub state : Mirrors answer.state new
  pub text : after ≡ before ++ answer.text

-- so it is, whatever the state was
abbrev pub Answers : (State → Answer) → Made → Made → List ℕ → List ℕ → Type 0
Answers ask old new before after =
    (state : State) → Mirrors state old → IsAnswered (ask state) new before after

-- the same of a call on a context
pub record IsHeldAnswered (answer : HeldAnswer) (new : ContextView) (before after : List ℕ)
    : Type 0 where
  pub held : Holds answer.held new
  pub text : after ≡ before ++ answer.text

-- so it is, whatever the context held
abbrev pub AnswersHeld : (Held → HeldAnswer) → ContextView → ContextView → List ℕ → List ℕ → Type 0
AnswersHeld ask old new before after =
    (held : Held) → Holds held old → IsHeldAnswered (ask held) new before after
