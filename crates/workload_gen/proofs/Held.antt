-- The numbers of a rule that is lawful for IPv4.
use Rattle.std.proofs.Common.{◌≡◌, ◌^◌, ◌<◌, List, [], ◌∷◌, length, get_or, None, arith}
use Rattle.std.specs.List.{AllZip}
use Rattle.std.proofs.lemmas.Bool.{and_parts, ltb-true}
use Rattle.field_defs.specs.declared.field.FieldDef.{FieldDef}
use Rattle.field_defs.specs.declared.field.FieldValue.{FieldValue}
use Rattle.field_defs.specs.declared.field.FieldValue.TheVariants.{Mask, Range, Bitmask}
use Rattle.field_defs.specs.Layout.{ip4_fields}
use Rattle.field_defs.proofs.Offered.{ip4_is_layout}
use Rattle.rule_set.specs.Fault.{rule_fault}
use Rattle.rule_set.specs.Lawful.{IsLawfulValue}
use Rattle.rule_set.specs.Rule.{RuleView}
use Rattle.rule_set.proofs.Offered.{faultless_rules}
use Rattle.workload_gen.specs.Packet.{first_number}

-- the first number of a lawful value is one of the field's size
pub first_number_fits : (def : FieldDef) (value : FieldValue) → IsLawfulValue def value →
    first_number value < 256 ^ def.size
first_number_fits def (Mask value bits) lawful = ltb-true _ _ lawful.can_match.within_size
first_number_fits def (Range low high) lawful = ltb-true _ _ (and_parts _ _ lawful.can_match.within_size).0
first_number_fits def (Bitmask value mask) lawful = ltb-true _ _ (and_parts _ _ lawful.can_match.within_size).0

-- five values, whose first numbers are those of a protocol, two addresses and two ports
pub record HoldsNumbers (values : List FieldValue) : Type 0 where
  pub count : length values ≡ 5
  pub protocol : (d : FieldValue) → first_number (get_or values 0 d) < 2 ^ 8
  pub source : (d : FieldValue) → first_number (get_or values 1 d) < 2 ^ 32
  pub destination : (d : FieldValue) → first_number (get_or values 2 d) < 2 ^ 32
  pub destination_port : (d : FieldValue) → first_number (get_or values 4 d) < 2 ^ 16

-- five lawful values of an IPv4 rule hold such numbers
holds_numbers : (values : List FieldValue) → AllZip IsLawfulValue ip4_fields values → HoldsNumbers values
holds_numbers [] lawful = absurd lawful
holds_numbers (a ∷ []) lawful = absurd lawful.1
holds_numbers (a ∷ b ∷ []) lawful = absurd lawful.1.1
holds_numbers (a ∷ b ∷ e ∷ []) lawful = absurd lawful.1.1.1
holds_numbers (a ∷ b ∷ e ∷ f ∷ []) lawful = absurd lawful.1.1.1.1
holds_numbers (a ∷ b ∷ e ∷ f ∷ g ∷ []) lawful = record {
  count = omega arith;
  protocol = λ d. first_number_fits _ a lawful.0;
  source = λ d. first_number_fits _ b lawful.1.0;
  destination = λ d. first_number_fits _ e lawful.1.1.0;
  destination_port = λ d. first_number_fits _ g lawful.1.1.1.1.0;
}
holds_numbers (a ∷ b ∷ e ∷ f ∷ g ∷ h ∷ values) lawful = absurd lawful.1.1.1.1.1

-- so has each rule of the IPv4 layout
pub numbers_held : (rule : RuleView) → rule_fault ip4_fields rule.tag rule.fields ≡ None → HoldsNumbers rule.fields
numbers_held rule lawful =
    holds_numbers rule.fields ((faultless_rules ip4_fields rule.tag rule.fields ip4_is_layout).0 lawful).values
