-- What an answer to rules that are given comes to, as C hears it.
use Rattle.std.proofs.Common.{◌≡◌, List, Ok, Err, refl, inl, inr, ap, subst, arith}
use Rattle.std.specs.Prelude.{Result}
use Rattle.rule_set.specs.Rule.{RuleView}
use Rattle.rule_set.specs.declared.check.RuleFault.{RuleFault}
use Rattle.rule_set.specs.declared.check.RuleFault.TheVariants as rule_faults
use Rattle.acl_context.specs.declared.add.AddFault.{AddFault}
use Rattle.acl_context.specs.declared.add.AddFault.TheVariants.{Full, RuleRefused, OutOfMemory}
use Rattle.acl_context.specs.Context.{ContextView}
use Rattle.acl_context.specs.Add.{Adds}
use Rattle.acl_c.specs.declared.context.Context.{Context}
use Rattle.acl_c.specs.declared.rules.Place.{Place}
use Rattle.acl_c.specs.Codes.{rule_code}
use Rattle.acl_c.specs.Calls.{code_of, told_of, IsTold, AddsStored}

-- no fault of a rule has the code of success
refuses : (fault : RuleFault) → (rule_code fault).0 ≡ 0 → ⊥
refuses rule_faults.FieldCount is = omega (arith, is)
refuses (rule_faults.FieldKind place) is = omega (arith, is)
refuses rule_faults.NoCategory is = omega (arith, is)
refuses rule_faults.PriorityRange is = omega (arith, is)
refuses (rule_faults.FieldTooWide place) is = omega (arith, is)
refuses (rule_faults.MaskTooLong place) is = omega (arith, is)
refuses (rule_faults.EmptyRange place) is = omega (arith, is)

-- a fault that is the answer is told as the answer is
is_told : (fault other : AddFault) (before : Place) → fault ≡ other →
    IsTold other before (told_of before (Err fault)) (code_of (Err fault))
is_told fault other before same =
    subst (λ (one : AddFault). (code_of (Err fault) ≡ code_of (Err one))
    × (told_of before (Err fault) ≡ told_of before (Err one))) same (refl, refl)

-- the code and the place that are told are those of the answer of the context
pub adds_stored : (given : List RuleView) (old : Context) (new : ContextView) (before : Place)
    (answer : Result (Unit {0}) AddFault) → Adds given old.acl new answer →
    AddsStored given old (record old { acl = new }) before (told_of before answer) (code_of answer)
adds_stored given old new before (Ok done) adds = record {
  added = λ _. ap (λ (acl : ContextView). record old { acl = acl }) adds.added;
  kept = λ wrong. absurd (cc);
  refused = λ fault is. absurd (cc (adds.refused fault is));
  lawful = λ none. (inl refl, refl);
}
adds_stored given old new before (Err Full) adds = record {
  added = λ wrong. absurd (omega (arith, wrong));
  kept = λ _. ap (λ (acl : ContextView). record old { acl = acl }) adds.kept;
  refused = λ fault is. is_told Full fault before (cc (adds.refused fault is));
  lawful = λ none. absurd (cc (adds.lawful none));
}
adds_stored given old new before (Err (RuleRefused place fault)) adds = record {
  added = λ wrong. absurd (refuses fault wrong);
  kept = λ _. ap (λ (acl : ContextView). record old { acl = acl }) adds.kept;
  refused = λ other is. is_told (RuleRefused place fault) other before (cc (adds.refused other is));
  lawful = λ none. absurd (cc (adds.lawful none));
}
adds_stored given old new before (Err OutOfMemory) adds = record {
  added = λ wrong. absurd (omega (arith, wrong));
  kept = λ _. ap (λ (acl : ContextView). record old { acl = acl }) adds.kept;
  refused = λ fault is. is_told OutOfMemory fault before (cc (adds.refused fault is));
  lawful = λ none. (inr refl, refl);
}
