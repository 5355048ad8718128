-- Sessions: each line of a script is one call on what the lines before it made, and has one line of
-- reply. Verdicts are those of the rules, and no table is spoken of.
use Rattle.std.specs.Prelude.{ℕ, ◌+◌, nat_le, nat_lt, List, [], ◌∷◌, ◌++◌, length, map}
use Rattle.std.specs.Prelude.{Option, Some, None}
use Rattle.std.specs.Prelude.{if◌then◌else◌}
use Rattle.std.specs.List.{range_with_len}
use Rattle.field_defs.specs.declared.field.FieldDef.{FieldDef}
use Rattle.field_defs.specs.declared.lawful.LayoutFault.{LayoutFault}
use Rattle.field_defs.specs.Layout.{buffer_len_of, key_of, max_fields}
use Rattle.field_defs.specs.LayoutFault.{layout_fault}
use Rattle.rule_set.specs.Rule.{RuleView}
use Rattle.rule_set.specs.declared.check.RuleFault.{RuleFault}
use Rattle.rule_set.specs.Fault.{rule_fault}
use Rattle.rule_set.specs.Winner.{verdict}
use Rattle.rule_split.specs.Split.{total_of}
use Rattle.classbench_reader.specs.Line.{is_skipped}
use Rattle.text_scan.specs.Parts.{lines_of, words_of}
use Rattle.acl_session.specs.declared.arguments.WrittenField.{WrittenField}
use Rattle.acl_session.specs.Command.{Command, Field, Context, AddRule, Build, ResetRules, Reset}
use Rattle.acl_session.specs.Command.{Classify, command_of, placed}
use Rattle.acl_session.specs.State.{Answer, Held, HeldAnswer, State, first_state, set_of}
use Rattle.acl_session.specs.Replies.{bad_line_text, full_text, layout_fault_text}
use Rattle.acl_session.specs.Replies.{no_context_text, not_built_text}
use Rattle.acl_session.specs.Replies.{ok_text, rule_fault_text, short_text}
use Rattle.acl_session.specs.Replies.{too_large_text, too_many_text, verdicts_text}

-- the state stays, and this is the reply
abbrev pub replied : State → List ℕ → Answer
replied state text = record { state = state; text = text }

-- the definition is collected, if there is room
abbrev pub collected : State → WrittenField → Answer
collected state field =
    if nat_le max_fields (length state.collected) then replied state too_many_text
    else record {
      state = record {
        collected = state.collected ++ placed field (length state.collected) ∷ [];
        context = state.context;
      };
      text = ok_text;
    }

-- a context without rules
abbrev pub new_context : List FieldDef → ℕ → Held
new_context layout limit = record { layout = layout; limit = limit; rules = []; built = None }

-- No definition is collected any more. A context of the definitions takes the place of the one
-- before, unless they have a fault.
abbrev pub opened : State → ℕ → Option LayoutFault → Answer
opened state limit None = record {
  state = record { collected = []; context = Some (new_context state.collected limit) };
  text = ok_text;
}
opened state limit (Some fault) = record {
  state = record { collected = []; context = state.context };
  text = layout_fault_text fault;
}

-- the context stays, and this is the reply
abbrev pub said : Held → List ℕ → HeldAnswer
said held text = record { held = held; text = text }

-- the rule is added, unless it has a fault
abbrev pub added_unless : Held → RuleView → Option RuleFault → HeldAnswer
added_unless held rule None = record {
  held = record {
    layout = held.layout;
    limit = held.limit;
    rules = held.rules ++ rule ∷ [];
    built = held.built;
  };
  text = ok_text;
}
added_unless held rule (Some fault) = said held (rule_fault_text fault)

-- a context that holds as many rules as it may is full
abbrev pub added : Held → RuleView → HeldAnswer
added held rule =
    if nat_le (length held.rules + 1) held.limit
    then added_unless held rule (rule_fault held.layout rule.tag rule.fields)
    else said held full_text

-- From now on buffers are classified by the rules that are held, if their table has no more words
-- than the budget.
abbrev pub built : Held → ℕ → HeldAnswer
built held budget =
    if nat_le (total_of (set_of held) budget) budget
    then record {
      held = record {
        layout = held.layout;
        limit = held.limit;
        rules = held.rules;
        built = Some held.rules;
      };
      text = ok_text;
    } else said held (too_large_text (total_of (set_of held) budget) budget)

-- all rules are removed, and buffers are classified as before
abbrev pub without_rules : Held → HeldAnswer
without_rules held = record {
  held = record { layout = held.layout; limit = held.limit; rules = []; built = held.built };
  text = ok_text;
}

-- all rules are removed, and no buffer is classified before the next build
abbrev pub cleared : Held → HeldAnswer
cleared held = record { held = new_context held.layout held.limit; text = ok_text }

-- what the rules say of a buffer, in so many categories from 0 on
abbrev pub verdicts_on : List FieldDef → List RuleView → ℕ → List ℕ → List ℕ
verdicts_on layout rules count buffer =
    map (verdict layout rules (key_of layout buffer)) (range_with_len 0 count)

-- the reply by the rules of the last build
abbrev pub verdicts_reply : List FieldDef → Option (List RuleView) → ℕ → List ℕ → List ℕ
verdicts_reply layout None count buffer = not_built_text
verdicts_reply layout (Some rules) count buffer =
    verdicts_text (verdicts_on layout rules count buffer)

-- the reply of a classification
abbrev pub classified_text : Held → ℕ → List ℕ → List ℕ
classified_text held count buffer =
    if nat_lt (length buffer) (buffer_len_of held.layout) then short_text
    else verdicts_reply held.layout held.built count buffer

-- a classification leaves the context as it is
abbrev pub classified : Held → ℕ → List ℕ → HeldAnswer
classified held count buffer = said held (classified_text held count buffer)

-- a call on the context, which is refused where there is none
abbrev pub within : State → (Held → HeldAnswer) → Option Held → Answer
within state call None = replied state no_context_text
within state call (Some held) = record {
  state = record { collected = state.collected; context = Some (call held).held };
  text = (call held).text;
}

-- the same on the context of the state
abbrev pub on_context : State → (Held → HeldAnswer) → Answer
on_context state call = within state call state.context

-- what a line makes of the state that says this
abbrev pub step : State → Command → Answer
step state (Field field) = collected state field
step state (Context limit) = opened state limit (layout_fault state.collected)
step state (AddRule rule) = on_context state (λ held. added held rule)
step state (Build budget) = on_context state (λ held. built held budget)
step state ResetRules = on_context state without_rules
step state Reset = on_context state cleared
step state (Classify count buffer) = on_context state (λ held. classified held count buffer)

-- the same of a line that may say nothing
abbrev pub step_if : State → Option Command → Answer
step_if state None = replied state bad_line_text
step_if state (Some command) = step state command

-- what a line makes of the state
abbrev pub answer : State → List ℕ → Answer
answer state line = step_if state (command_of (words_of line))

-- the replies to lines, but for those that are blank or a comment
abbrev pub replies_from : State → List (List ℕ) → List ℕ
replies_from state [] = []
replies_from state (line ∷ lines) =
    if is_skipped line then replies_from state lines
    else (answer state line).text ++ replies_from (answer state line).state lines

-- the replies to a script
abbrev pub session_of : List ℕ → List ℕ
session_of script = replies_from first_state (lines_of script)
