-- What the lines of a script made so far: definitions that were collected, and a context with lists
-- of rules.
use Rattle.std.specs.Prelude.{ℕ, List, [], Option, None}
use Rattle.field_defs.specs.declared.field.FieldDef.{FieldDef}
use Rattle.rule_set.specs.Rule.{RuleSetView, RuleView}

-- A context: its layout, how many rules it may hold, those that it holds, and those that it held at
-- the last build that was ok since it was made or reset.
pub record Held : Type 0 where
  pub layout : List FieldDef
  pub limit : ℕ
  pub rules : List RuleView
  pub built : Option (List RuleView)

-- the collected definitions, and the context, if there is one
pub record State : Type 0 where
  pub collected : List FieldDef
  pub context : Option Held

-- before the first line
abbrev pub first_state : State
first_state = record { collected = []; context = None }

-- the rules of a context, for its layout
abbrev pub set_of : Held → RuleSetView
set_of held = record { layout = held.layout; rules = held.rules }

-- what a line makes of a state, and its reply
pub record Answer : Type 0 where
  pub state : State
  pub text : List ℕ

-- what a call makes of a context, and its reply
pub record HeldAnswer : Type 0 where
  pub held : Held
  pub text : List ℕ
