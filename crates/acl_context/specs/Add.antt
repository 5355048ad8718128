-- Why rules aren't added to a context.
use Rattle.std.specs.Prelude.{◌≡◌, ℕ, ◌+◌, nat_le, List, ◌∷◌, ◌++◌, length, map, Bool, Option, Some}
use Rattle.std.specs.Prelude.{None}
use Rattle.std.specs.Prelude.{Result, Err, IfErr, OnOk, OnErr}
use Rattle.std.specs.List.{enumerate_from}
use Rattle.std.specs.Option.{option_map}
use Rattle.field_defs.specs.declared.field.FieldDef.{FieldDef}
use Rattle.field_defs.specs.Faults.{fault_unless, first_of}
use Rattle.rule_set.specs.Rule.{RuleView}
use Rattle.rule_set.specs.Fault.{rule_fault}
use Rattle.acl_context.specs.declared.add.AddFault.{AddFault}
use Rattle.acl_context.specs.declared.add.AddFault.TheVariants.{Full, RuleRefused, OutOfMemory}
use Rattle.acl_context.specs.Context.{ContextView, with_rules}

-- the refusal of a rule that is given at a place, where it isn't lawful for the layout
abbrev pub refusal : List FieldDef → ℕ × RuleView → Option AddFault
refusal layout (place, rule) = option_map (RuleRefused place)
    (rule_fault layout rule.tag rule.fields)

-- the refusals of the rules that are given, in order
abbrev pub refusals : List FieldDef → List RuleView → List (Option AddFault)
refusals layout given = map (refusal layout) (enumerate_from 0 given)

-- with the rules that are given the context holds no more than it may
abbrev pub has_room : ContextView → List RuleView → Bool
has_room context given = nat_le (length context.set.rules + length given) context.max_rules

-- why the rules aren't added, if they aren't: they are too many, or else the first that isn't
-- lawful
unfoldable pub add_fault : ContextView → List RuleView → Option AddFault
add_fault context given =
    first_of (fault_unless (has_room context given) Full ∷ refusals context.set.layout given)

-- The rules are given to a context, which answers: it adds all of them after its own, or refuses
-- them and stays as it was. It refuses them for their fault, and where there is none for want of
-- memory alone.
pub record Adds {T : Type 0} (given : List RuleView) (old new : ContextView)
    (result : Result T AddFault) : Type 0 where
  pub added : OnOk result (new ≡ with_rules old (old.set.rules ++ given))
  pub kept : OnErr result (new ≡ old)
  pub refused : (fault : AddFault) → add_fault old given ≡ Some fault → result ≡ Err fault
  pub lawful : add_fault old given ≡ None → IfErr result (λ fault. fault ≡ OutOfMemory)
