-- The values of a rule can be asked about numbers, each for its field.
use Rattle.std.proofs.Common.{◌≡◌, ℕ, zero, suc, ◌<◌, List, [], ◌∷◌, length, get_or, None, arith}
use Rattle.std.specs.List.{AllZip}
use Rattle.field_defs.specs.declared.field.FieldDef.{FieldDef}
use Rattle.field_defs.specs.declared.field.FieldValue.{FieldValue}
use Rattle.field_defs.specs.FieldBounds.{CanMatch}
use Rattle.field_defs.specs.Lawful.{IsLayout}
use Rattle.rule_set.specs.Fault.{rule_fault}
use Rattle.rule_set.specs.Lawful.{IsLawfulValue}
use Rattle.rule_set.specs.Rule.{RuleView}
use Rattle.rule_set.specs.ValuesMatch.{CanMatchAll}
use Rattle.rule_set.proofs.Offered.{faultless_rules}

-- a value at a place can be asked about the numbers of its field's size
pub can_match_at : (defs : List FieldDef) (values : List FieldValue) (i : ℕ) (d : FieldDef) (v : FieldValue) →
    CanMatchAll defs values → i < length defs → CanMatch (get_or values i v) (get_or defs i d).size
can_match_at [] values i d v can h = absurd (omega arith)
can_match_at (def ∷ defs) [] i d v can h = absurd can
can_match_at (def ∷ defs) (value ∷ values) zero d v can h = can.0
can_match_at (def ∷ defs) (value ∷ values) (suc i) d v can h = can_match_at defs values i d v can.1 (omega arith)

-- lawful values can be asked about the numbers of their fields' sizes
can_match_lawful : (layout : List FieldDef) (values : List FieldValue) → AllZip IsLawfulValue layout values →
    CanMatchAll layout values
can_match_lawful [] [] lawful = tt
can_match_lawful [] (v ∷ vs) lawful = absurd lawful
can_match_lawful (d ∷ ds) [] lawful = absurd lawful
can_match_lawful (d ∷ ds) (v ∷ vs) lawful = (lawful.0.can_match, can_match_lawful ds vs lawful.1)

-- so can those of each rule without a fault
pub can_match_rule : (layout : List FieldDef) (rule : RuleView) → IsLayout layout →
    rule_fault layout rule.tag rule.fields ≡ None → CanMatchAll layout rule.fields
can_match_rule layout rule is lawful =
    can_match_lawful layout rule.fields ((faultless_rules layout rule.tag rule.fields is).0 lawful).values
