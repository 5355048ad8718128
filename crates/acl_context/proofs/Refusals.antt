-- The refusals of rules that are given, one after the other.
use Rattle.std.proofs.Common.{◌≡◌, ℕ, ◌+◌, ◌<◌, ◌≤◌, List, map, drop, length, Option, Some, None, get_or, refl, sym, ap}
use Rattle.std.proofs.Common.{◌∙◌, arith, zero-add}
use Rattle.std.specs.List.{enumerate_from}
use Rattle.std.specs.Option.{option_map}
use Rattle.std.proofs.lemmas.List.{drop_more, drop_all, get_or-map}
use Rattle.std.proofs.lemmas.List.FromFn.{length-enumerate_from, get_or-enumerate_from}
use Rattle.field_defs.specs.declared.field.FieldDef.{FieldDef}
use Rattle.field_defs.specs.Faults.{first_of}
use Rattle.field_defs.proofs.Offered.{none_at}
use Rattle.rule_set.specs.Rule.{RuleView}
use Rattle.rule_set.specs.Fault.{rule_fault}
use Rattle.rule_set.specs.declared.check.RuleFault.{RuleFault}
use Rattle.acl_context.specs.declared.add.AddFault.{AddFault}
use Rattle.acl_context.specs.declared.add.AddFault.TheVariants.{RuleRefused}
use Rattle.acl_context.specs.Add.{refusal, refusals}

-- the first refusal of the rules from a place on
unfoldable pub first_from : List FieldDef → List RuleView → ℕ → Option AddFault
first_from layout given place = first_of (map (refusal layout) (enumerate_from place (drop place given)))

-- from the first place on it is that of all
pub first_from_start : (layout : List FieldDef) (given : List RuleView) →
    first_from layout given 0 ≡ first_of (refusals layout given)
unfolding first_from
first_from_start layout given = refl

-- a rule as it is given stands among all as contracts see them
pub seen_at : {R : Type 0} (view : R → RuleView) (rules : List R) (place : ℕ) (rule : R) →
    place < length rules → rule ≡ get_or rules place rule →
    get_or (map view rules) place (view rule) ≡ view rule
seen_at view rules place rule below is =
    get_or-map view rules place rule (view rule) below ∙ ap view (sym is)

-- a lawful rule isn't refused
pub first_from_more : (layout : List FieldDef) (given : List RuleView) (place : ℕ) (rule : RuleView) →
    place < length given → get_or given place rule ≡ rule → rule_fault layout rule.tag rule.fields ≡ None →
    first_from layout given place ≡ first_from layout given (place + 1)
unfolding first_from
first_from_more layout given place rule below is lawful =
    rw (drop_more given place rule below, is, lawful) refl

-- and one that isn't lawful is
pub first_from_here : (layout : List FieldDef) (given : List RuleView) (place : ℕ) (rule : RuleView)
    (fault : RuleFault) → place < length given → get_or given place rule ≡ rule →
    rule_fault layout rule.tag rule.fields ≡ Some fault →
    first_from layout given place ≡ Some (RuleRefused place fault)
unfolding first_from
first_from_here layout given place rule fault below is refused =
    rw (drop_more given place rule below, is, refused) refl

-- after the last rule nothing is refused
pub first_from_end : (layout : List FieldDef) (given : List RuleView) (place : ℕ) → length given ≤ place →
    first_from layout given place ≡ None
unfolding first_from
first_from_end layout given place after = rw (drop_all place given after) refl

-- a rule that isn't refused has no fault
no_refusal : (place : ℕ) (fault : Option RuleFault) → option_map (RuleRefused place) fault ≡ None → fault ≡ None
no_refusal place None none = refl
no_refusal place (Some fault) none = absurd (cc)

-- where nothing is refused each rule is lawful
pub lawful_at : (layout : List FieldDef) (given : List RuleView) (place : ℕ) (rule : RuleView) →
    first_of (refusals layout given) ≡ None → place < length given → get_or given place rule ≡ rule →
    rule_fault layout rule.tag rule.fields ≡ None
lawful_at layout given place rule none below is =
    let numbered = enumerate_from 0 given in
    let here : get_or (refusals layout given) place None ≡ refusal layout (place, rule) =
    get_or-map (refusal layout) numbered place (0, rule) None (omega (arith, length-enumerate_from 0 given, below))
    ∙ ap (refusal layout) (get_or-enumerate_from 0 given place (0, rule) below)
    ∙ rw (is, zero-add place) refl in
    no_refusal place (rule_fault layout rule.tag rule.fields) (sym here ∙ none_at (refusals layout given) place none)
