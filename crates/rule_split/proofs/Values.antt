-- The values of a rule that a set holds are lawful.
use Rattle.std.proofs.Common.{◌≡◌, ℕ, zero, suc, ◌<◌, List, [], ◌∷◌, length, get_or, None, arith}
use Rattle.std.specs.List.{AllZip}
use Rattle.field_defs.specs.declared.field.FieldDef.{FieldDef}
use Rattle.field_defs.specs.declared.field.FieldValue.{FieldValue}
use Rattle.field_defs.specs.Lawful.{IsLayout}
use Rattle.rule_set.specs.Rule.{RuleView}
use Rattle.rule_set.specs.Fault.{rule_fault}
use Rattle.rule_set.specs.Lawful.{IsLawfulValue}
use Rattle.rule_set.proofs.Offered.{faultless_rules}

-- there is a lawful value for each field
pub values_of_rule : (layout : List FieldDef) (rule : RuleView) → IsLayout layout →
    rule_fault layout rule.tag rule.fields ≡ None → AllZip IsLawfulValue layout rule.fields
values_of_rule layout rule is lawful = ((faultless_rules layout rule.tag rule.fields is).0 lawful).values

-- so at each place
pub value_at : (defs : List FieldDef) (values : List FieldValue) (field : ℕ) (no_def : FieldDef)
    (no_value : FieldValue) →
    AllZip IsLawfulValue defs values → field < length defs →
    IsLawfulValue (get_or defs field no_def) (get_or values field no_value)
value_at [] values field no_def no_value lawful within = absurd (omega arith)
value_at (def ∷ defs) [] field no_def no_value lawful within = absurd lawful
value_at (def ∷ defs) (value ∷ values) zero no_def no_value lawful within = lawful.0
value_at (def ∷ defs) (value ∷ values) (suc field) no_def no_value lawful within =
    value_at defs values field no_def no_value lawful.1 (omega arith)
