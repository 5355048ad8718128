-- What an answer to rules that are given has to be, case by case.
use Rattle.std.proofs.Common.{◌≡◌, ◌+◌, ◌≤◌, ◌<◌, ◌++◌, List, length, Some, None, Ok, Err, refl, ◌∙◌}
use Rattle.std.proofs.lemmas.Bool.{le-leb, lt-leb}
use Rattle.field_defs.specs.Faults.{first_of}
use Rattle.rule_set.specs.Rule.{RuleView}
use Rattle.acl_context.specs.declared.add.AddFault.{AddFault}
use Rattle.acl_context.specs.declared.add.AddFault.TheVariants.{Full, OutOfMemory}
use Rattle.acl_context.specs.Context.{ContextView, with_rules}
use Rattle.acl_context.specs.Add.{add_fault, refusals, Adds}

-- where there is no room, the rules are too many
fault_without_room : (context : ContextView) (given : List RuleView) →
    context.max_rules < length context.set.rules + length given → add_fault context given ≡ Some Full
unfolding add_fault
fault_without_room context given many =
    rw (lt-leb (length context.set.rules + length given) context.max_rules many) refl

-- and otherwise the fault is that of the first rule that isn't lawful
fault_with_room : (context : ContextView) (given : List RuleView) →
    length context.set.rules + length given ≤ context.max_rules →
    add_fault context given ≡ first_of (refusals context.set.layout given)
unfolding add_fault
fault_with_room context given room =
    rw (le-leb (length context.set.rules + length given) context.max_rules room) refl

-- rules that have a fault
adds_none : {T : Type 0} (context : ContextView) (given : List RuleView) (fault : AddFault) →
    add_fault context given ≡ Some fault → Adds {T = T} given context context (Err fault)
adds_none context given fault is = record {
  added = tt;
  kept = refl;
  refused = λ other found. cc;
  lawful = λ none. absurd (cc);
}

-- too many rules
pub adds_too_many : {T : Type 0} (context : ContextView) (given : List RuleView) →
    context.max_rules < length context.set.rules + length given → Adds {T = T} given context context (Err Full)
adds_too_many context given many = adds_none context given Full (fault_without_room context given many)

-- rules of which one isn't lawful
pub adds_no_unlawful : {T : Type 0} (context : ContextView) (given : List RuleView) (fault : AddFault) →
    length context.set.rules + length given ≤ context.max_rules →
    first_of (refusals context.set.layout given) ≡ Some fault → Adds {T = T} given context context (Err fault)
adds_no_unlawful context given fault room first =
    adds_none context given fault (fault_with_room context given room ∙ first)

-- rules that find no memory
pub adds_without_memory : {T : Type 0} (context : ContextView) (given : List RuleView) →
    length context.set.rules + length given ≤ context.max_rules →
    first_of (refusals context.set.layout given) ≡ None → Adds {T = T} given context context (Err OutOfMemory)
adds_without_memory context given room none =
    let no_fault = fault_with_room context given room ∙ none in
    record { added = tt; kept = refl; refused = λ fault found. absurd (cc); lawful = λ none. refl }

-- rules that are added
pub adds_all : {T : Type 0} (context : ContextView) (given : List RuleView) (value : T) →
    length context.set.rules + length given ≤ context.max_rules →
    first_of (refusals context.set.layout given) ≡ None →
    Adds given context (with_rules context (context.set.rules ++ given)) (Ok value)
adds_all context given value room none =
    let no_fault = fault_with_room context given room ∙ none in
    record { added = refl; kept = tt; refused = λ fault found. absurd (cc); lawful = λ none. tt }
