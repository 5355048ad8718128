-- What each call makes of the state, and of what mirrors it.
use Rattle.std.proofs.Common.{◌≡◌, ℕ, ◌+◌, ◌<◌, ◌≤◌, List, [], ◌∷◌, ◌++◌, length, Bool, true, false, Option, Some}
use Rattle.std.proofs.Common.{None}
use Rattle.std.proofs.Common.{Result, Ok, Err, refl, sym, ap, subst, ◌∙◌, nat_le}
use Rattle.std.specs.Prelude.{if◌then◌else◌}
use Rattle.std.specs.Option.{option_map}
use Rattle.std.proofs.lemmas.Bool.{le-leb, lt-leb}
use Rattle.field_defs.specs.declared.field.FieldDef.{FieldDef}
use Rattle.field_defs.specs.declared.lawful.LayoutFault.{LayoutFault}
use Rattle.field_defs.specs.Faults.{fault_unless, first_of}
use Rattle.field_defs.specs.Layout.{max_fields}
use Rattle.field_defs.specs.LayoutFault.{layout_fault}
use Rattle.rule_set.specs.Rule.{RuleSetView, RuleView}
use Rattle.rule_set.specs.declared.check.RuleFault.{RuleFault}
use Rattle.rule_set.specs.Fault.{rule_fault}
use Rattle.rule_split.specs.Split.{total_of}
use Rattle.table_fill.specs.Serves.{Serves}
use Rattle.acl_context.specs.Context.{ContextView, built_of, with_rules}
use Rattle.acl_context.specs.Add.{Adds, add_fault}
use Rattle.acl_context.specs.declared.add.AddFault.{AddFault}
use Rattle.acl_context.specs.declared.add.AddFault.TheVariants.{Full, RuleRefused, OutOfMemory}
use Rattle.acl_session.specs.declared.arguments.WrittenField.{WrittenField}
use Rattle.acl_session.specs.declared.made.Made.{Made}
use Rattle.acl_session.specs.declared.verb.Verb.{Verb}
use Rattle.acl_session.specs.Command.{Command, command_of, placed, said_to, verb_named}
use Rattle.acl_session.specs.WordReading.{◌>>=◌, Read, are_none, ended, next_word, read_of}
use Rattle.acl_session.specs.State.{Held, HeldAnswer, State, set_of}
use Rattle.acl_session.specs.Replies.{bad_line_text, full_text, layout_fault_text, no_context_text, ok_text}
use Rattle.acl_session.specs.Replies.{rule_fault_text, too_large_text, too_many_text}
use Rattle.acl_session.specs.Session.{added, added_unless, built, cleared, collected, new_context, on_context, opened}
use Rattle.acl_session.specs.Session.{said, step, step_if, within, without_rules}
use Rattle.acl_session.specs.Mirrors.{Answers, AnswersHeld, Holds, IsAnswered, IsHeld, Mirrors}

-- what a line says that says this call
pub asked : (command : Command) (words : Option Command) (old new : Made) (before after : List ℕ)
    → words ≡ Some command → Answers (λ state. step state command) old new before after
    → Answers (λ state. step_if state words) old new before after
asked command words old new before after is answers =
    subst (λ (w : Option Command). Answers (λ state. step_if state w) old new before after) (sym is) answers

-- the line says nothing
pub nothing_said : (old new : Made) (before after : List ℕ) (words : Option Command) → words ≡ None → new ≡ old
    → after ≡ before ++ bad_line_text → Answers (λ state. step_if state words) old new before after
nothing_said old new before after words none same text = λ state mirrors.
    subst (λ (w : Option Command). IsAnswered (step_if state w) new before after) (sym none)
    (record { state = subst (Mirrors state) (sym same) mirrors; text = text })

-- a call on the context answers, where what it finds is held
called_within : (call : Held → HeldAnswer) (state : State) (held : Option Held) (old : Made)
    (context next : ContextView) (before after : List ℕ) → old.collected ≡ state.collected
    → IsHeld held (Some context) → AnswersHeld call context next before after
    → IsAnswered (within state call held) (record old { context = Some next }) before after
called_within call state None old context next before after defs is answers = absurd is
called_within call state (Some held) old context next before after defs is answers =
    let answered = answers held is in
    record { state = record { collected = defs; context = answered.held }; text = answered.text }

-- a call on the context, which is there
pub called : (call : Held → HeldAnswer) (old new : Made) (context next : ContextView) (before after : List ℕ)
    → old.context ≡ Some context → new ≡ record old { context = Some next }
    → AnswersHeld call context next before after → Answers (λ state. on_context state call) old new before after
called call old new context next before after there now answers = λ state mirrors.
    rw now (called_within call state state.context old context next before after mirrors.collected
    (subst (λ c. IsHeld state.context c) there mirrors.context) answers)

-- a call without a context is answered so, and nothing changes
missing_within : (call : Held → HeldAnswer) (state : State) (held : Option Held) (old new : Made)
    (before after : List ℕ) → Mirrors state old → IsHeld held old.context → old.context ≡ None → new ≡ old
    → after ≡ before ++ no_context_text → IsAnswered (within state call held) new before after
missing_within call state None old new before after mirrors is none same text =
    record { state = subst (Mirrors state) (sym same) mirrors; text = text }
missing_within call state (Some held) old new before after mirrors is none same text =
    absurd (subst (λ c. IsHeld (Some held) c) none is)

-- a call on the context, where there is none
pub missing : (call : Held → HeldAnswer) (old new : Made) (before after : List ℕ) → old.context ≡ None → new ≡ old
    → after ≡ before ++ no_context_text → Answers (λ state. on_context state call) old new before after
missing call old new before after none same text = λ state mirrors.
    missing_within call state state.context old new before after mirrors mirrors.context none same text

-- words after the name of a call that takes none
pub has_words : (command : Command) (words : List (List ℕ)) (made : Made) (before after : List ℕ)
    → are_none words ≡ false → after ≡ before ++ bad_line_text
    → Answers (λ state. step_if state (ended words command)) made made before after
has_words command words made before after some text =
    nothing_said made made before after (ended words command) (rw some refl) refl text

-- no word after the name of such a call on the context, which is there
pub calls_it : (command : Command) (call : Held → HeldAnswer) (words : List (List ℕ)) (old : Made)
    (context next : ContextView) (before after : List ℕ)
    → ((state : State) → on_context state call ≡ step state command)
    → are_none words ≡ true → old.context ≡ Some context → AnswersHeld call context next before after
    → Answers (λ state. step_if state (ended words command)) old (record old { context = Some next }) before after
calls_it command call words old context next before after same none there answers =
    asked command (ended words command) old (record old { context = Some next }) before after (rw none refl)
    (λ state mirrors. subst (λ done. IsAnswered done (record old { context = Some next }) before after) (same state)
    (called call old (record old { context = Some next }) context next before after there refl answers state mirrors))

-- and where there is none
pub calls_none : (command : Command) (call : Held → HeldAnswer) (words : List (List ℕ)) (made : Made)
    (before after : List ℕ) → ((state : State) → on_context state call ≡ step state command)
    → are_none words ≡ true → made.context ≡ None → after ≡ before ++ no_context_text
    → Answers (λ state. step_if state (ended words command)) made made before after
calls_none command call words made before after same none there text =
    asked command (ended words command) made made before after (rw none refl)
    (λ state mirrors. subst (λ done. IsAnswered done made before after) (same state)
    (missing call made made before after there refl text state mirrors))

-- a definition too many
pub too_many : (field : WrittenField) (old new : Made) (before after : List ℕ)
    → nat_le max_fields (length old.collected) ≡ true → new ≡ old → after ≡ before ++ too_many_text
    → Answers (λ state. collected state field) old new before after
too_many field old new before after full same text = λ state mirrors.
    let test : nat_le max_fields (length state.collected) ≡ true =
    ap (λ (defs : List FieldDef). nat_le max_fields (length defs)) (sym mirrors.collected) ∙ full in
    rw test (record { state = subst (Mirrors state) (sym same) mirrors; text = text })

-- one more definition
pub one_more : (field : WrittenField) (old new : Made) (before after : List ℕ)
    → nat_le max_fields (length old.collected) ≡ false
    → new ≡ record old { collected = old.collected ++ placed field (length old.collected) ∷ [] }
    → after ≡ before ++ ok_text → Answers (λ state. collected state field) old new before after
one_more field old new before after room now text = λ state mirrors.
    let test : nat_le max_fields (length state.collected) ≡ false =
    ap (λ (defs : List FieldDef). nat_le max_fields (length defs)) (sym mirrors.collected) ∙ room in
    rw test (record {
      state = record {
        collected = ap (λ (made : Made). made.collected) now
            ∙ ap (λ (defs : List FieldDef). defs ++ placed field (length defs) ∷ []) mirrors.collected;
        context = subst (λ c. IsHeld state.context c) (sym (ap (λ (made : Made). made.context) now)) mirrors.context;
      };
      text = text;
    })

-- the collected definitions are a layout
pub opens : (limit : ℕ) (old new : Made) (context : ContextView) (before after : List ℕ)
    → layout_fault old.collected ≡ None → new.collected ≡ [] → new.context ≡ Some context
    → context ≡ record {
      set = record { layout = old.collected; rules = [] };
      max_rules = limit;
      table = None;
    } → after ≡ before ++ ok_text
    → Answers (λ state. opened state limit (layout_fault state.collected)) old new before after
opens limit old new context before after none defs there made text = λ state mirrors.
    let fault : layout_fault state.collected ≡ None = ap layout_fault (sym mirrors.collected) ∙ none in
    let is : context ≡ record {
      set = record { layout = state.collected; rules = [] };
      max_rules = limit;
      table = None;
    } = made ∙ ap (λ (layout : List FieldDef). record {
      set = record { layout = layout; rules = [] };
      max_rules = limit;
      table = None;
    }) mirrors.collected in
    let holds : Holds (new_context state.collected limit) context =
    subst (Holds (new_context state.collected limit)) (sym is) (record { set = refl; limit = refl; table = tt }) in
    subst (λ f. IsAnswered (opened state limit f) new before after) (sym fault) (record {
      state = record {
        collected = defs;
        context = subst (λ c. IsHeld (Some (new_context state.collected limit)) c) (sym there) holds;
      };
      text = text;
    })

-- they are none
pub refuses : (limit : ℕ) (fault : LayoutFault) (old new : Made) (before after : List ℕ)
    → layout_fault old.collected ≡ Some fault → new.collected ≡ [] → new.context ≡ old.context
    → after ≡ before ++ layout_fault_text fault
    → Answers (λ state. opened state limit (layout_fault state.collected)) old new before after
refuses limit fault old new before after is defs same text = λ state mirrors.
    subst (λ f. IsAnswered (opened state limit f) new before after)
    (sym (ap layout_fault (sym mirrors.collected) ∙ is)) (record {
      state = record {
        collected = defs;
        context = subst (λ c. IsHeld state.context c) (sym same) mirrors.context;
      };
      text = text;
    })

-- what is told of a rule that was given to a context
abbrev pub told : {T : Type 0} → Result T AddFault → List ℕ
told (Ok done) = ok_text
told (Err Full) = full_text
told (Err (RuleRefused place fault)) = rule_fault_text fault
told (Err OutOfMemory) = []

-- a context holds what a call makes of one, and its reply is this one
record IsTold (answer : HeldAnswer) (new : ContextView) (text : List ℕ) : Type 0 where
  held : Holds answer.held new
  says : answer.text ≡ text

-- the first reason why a rule isn't added
abbrev reason : Bool → Option RuleFault → Option AddFault
reason room fault = first_of (fault_unless room Full ∷ option_map (RuleRefused 0) fault ∷ [])

-- the reason that a context gives is read off what is held
reason_is : (rule : RuleView) (held : Held) (old : ContextView) → Holds held old
    → add_fault old (rule ∷ [])
    ≡ reason (nat_le (length held.rules + 1) held.limit) (rule_fault held.layout rule.tag rule.fields)
unfolding add_fault
reason_is rule held old holds =
    ap (λ (set : RuleSetView). reason (nat_le (length set.rules + 1) old.max_rules)
    (rule_fault set.layout rule.tag rule.fields)) holds.set
    ∙ ap (λ (limit : ℕ). reason (nat_le (length held.rules + 1) limit)
    (rule_fault held.layout rule.tag rule.fields)) holds.limit

-- what is told of a rule that was given is what the state's own addition says
added_told : {T : Type 0} (rule : RuleView) (held : Held) (old new : ContextView) (room : Bool)
    (fault : Option RuleFault) (result : Result T AddFault) → Holds held old → Adds (rule ∷ []) old new result
    → add_fault old (rule ∷ []) ≡ reason room fault → (result ≡ Err OutOfMemory → ⊥)
    → IsTold (if room then added_unless held rule fault else said held full_text) new (told result)
added_told rule held old new false fault (Ok done) holds adds is memory =
    absurd (let e = adds.refused Full is in cc)
added_told rule held old new false fault (Err found) holds adds is memory =
    record { held = subst (Holds held) (sym adds.kept) holds; says = sym (ap told (adds.refused Full is)) }
added_told rule held old new true (Some fault) (Ok done) holds adds is memory =
    absurd (let e = adds.refused (RuleRefused 0 fault) is in cc)
added_told rule held old new true (Some fault) (Err found) holds adds is memory = record {
  held = subst (Holds held) (sym adds.kept) holds;
  says = sym (ap told (adds.refused (RuleRefused 0 fault) is));
}
added_told rule held old new true None (Ok done) holds adds is memory = record {
  held = subst (Holds (added_unless held rule None).held) (sym adds.added) (record {
    set = ap (λ (set : RuleSetView). record { layout = set.layout; rules = set.rules ++ rule ∷ [] }) holds.set;
    limit = holds.limit;
    table = holds.table;
  });
  says = refl;
}
added_told rule held old new true None (Err found) holds adds is memory =
    absurd (memory (ap Err (adds.lawful is)))

-- a rule was given to the context, which had memory for it
pub adds_rule : {T : Type 0} (rule : RuleView) (old new : ContextView) (result : Result T AddFault)
    (before after : List ℕ) → Adds (rule ∷ []) old new result → (result ≡ Err OutOfMemory → ⊥)
    → after ≡ before ++ told result → AnswersHeld (λ held. added held rule) old new before after
adds_rule rule old new result before after adds memory text = λ held holds.
    let done = added_told rule held old new (nat_le (length held.rules + 1) held.limit)
    (rule_fault held.layout rule.tag rule.fields) result holds adds (reason_is rule held old holds) memory in
    record { held = done.held; text = text ∙ ap (λ t. before ++ t) (sym done.says) }

-- the table was built
pub builds : (budget : ℕ) (old new : ContextView) (before after : List ℕ)
    → new ≡ record old { table = Some (built_of old.set budget) } → Serves old.set (built_of old.set budget)
    → total_of old.set budget ≤ budget → after ≡ before ++ ok_text
    → AnswersHeld (λ held. built held budget) old new before after
builds budget old new before after now serves fits text = λ held holds.
    let test : nat_le (total_of (set_of held) budget) budget ≡ true =
    le-leb (total_of (set_of held) budget) budget
    (subst (λ (set : RuleSetView). total_of set budget ≤ budget) holds.set fits) in
    let serves_held : Serves (set_of held) (built_of old.set budget) =
    subst (λ (set : RuleSetView). Serves set (built_of old.set budget)) holds.set serves in
    rw test (record {
      held = subst (Holds record {
        layout = held.layout;
        limit = held.limit;
        rules = held.rules;
        built = Some held.rules;
      }) (sym now) (record { set = holds.set; limit = holds.limit; table = serves_held });
      text = text;
    })

-- the table would be too large
pub is_too_large : (budget words most : ℕ) (old new : ContextView) (before after : List ℕ) → new ≡ old
    → words ≡ total_of old.set budget → most ≡ budget → budget < words → after ≡ before ++ too_large_text words most
    → AnswersHeld (λ held. built held budget) old new before after
is_too_large budget words most old new before after same total is above text = λ held holds.
    let all : words ≡ total_of (set_of held) budget =
    total ∙ ap (λ (set : RuleSetView). total_of set budget) holds.set in
    let test : nat_le (total_of (set_of held) budget) budget ≡ false =
    lt-leb (total_of (set_of held) budget) budget (subst (λ n. budget < n) all above) in
    rw test (record {
      held = subst (Holds held) (sym same) holds;
      text = text ∙ (λ i. before ++ too_large_text (all i) (is i));
    })

-- all rules were removed
pub removes : (old new : ContextView) (before after : List ℕ) → new ≡ with_rules old []
    → after ≡ before ++ ok_text → AnswersHeld without_rules old new before after
removes old new before after now text = λ held holds. record {
  held = subst (Holds (without_rules held).held) (sym now) (record {
    set = ap (λ (set : RuleSetView). record { layout = set.layout; rules = [] }) holds.set;
    limit = holds.limit;
    table = holds.table;
  });
  text = text;
}

-- and the table too
pub clears : (old new : ContextView) (before after : List ℕ) → new ≡ record (with_rules old []) { table = None }
    → after ≡ before ++ ok_text → AnswersHeld cleared old new before after
clears old new before after now text = λ held holds. record {
  held = subst (Holds (cleared held).held) (sym now) (record {
    set = ap (λ (set : RuleSetView). record { layout = set.layout; rules = [] }) holds.set;
    limit = holds.limit;
    table = tt;
  });
  text = text;
}

-- what a line says, by its first word and those after it
pub said_is : (words : List (List ℕ)) (name : List ℕ) (rest : List (List ℕ)) (verb : Verb)
    → next_word words ≡ Some (read_of name rest) → verb_named name ≡ Some verb → command_of words ≡ said_to verb rest
said_is words name rest verb read is =
    ap (λ (found : Option (Read (List ℕ))). found >>= λ word. verb_named word.value >>= λ v. said_to v word.rest) read
    ∙ ap (λ (found : Option Verb). found >>= λ v. said_to v rest) is

-- a word that names no call
pub unnamed : (words : List (List ℕ)) (name : List ℕ) (rest : List (List ℕ))
    → next_word words ≡ Some (read_of name rest) → verb_named name ≡ None → command_of words ≡ None
unnamed words name rest read is =
    ap (λ (found : Option (Read (List ℕ))). found >>= λ word. verb_named word.value >>= λ v. said_to v word.rest) read
    ∙ ap (λ (found : Option Verb). found >>= λ v. said_to v rest) is
