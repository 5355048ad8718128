-- The line of a rule says the rule.
use Rattle.std.proofs.Common.{◌≡◌, ℕ, ◌*◌, ◌^◌, ◌<◌, ◌≤◌, true, ◌&&◌, ◌||◌, eqb, List, [], ◌∷◌, length, get_or, IsTrue}
use Rattle.std.proofs.Common.{refl, ap, ◌∙◌, arith, nat_lt, nat_le}
use Rattle.std.specs.List.{AllZip}
use Rattle.std.proofs.lemmas.Bool.{and_from, and_parts, ltb-true, leb-true, false≢true}
use Rattle.field_defs.specs.declared.field.Family.{Family}
use Rattle.field_defs.specs.declared.field.Family.TheVariants as family
use Rattle.field_defs.specs.declared.field.FieldKind.TheVariants as kinds
use Rattle.field_defs.specs.declared.field.FieldDef.{FieldDef}
use Rattle.field_defs.specs.declared.field.FieldValue.{FieldValue}
use Rattle.field_defs.specs.declared.field.FieldValue.TheVariants.{Mask, Range, Bitmask}
use Rattle.field_defs.specs.Layout.{ip4_fields, ip6_fields}
use Rattle.field_defs.proofs.Offered.{ip4_is_layout, ip6_is_layout}
use Rattle.rule_set.specs.declared.rule.RuleTag.{RuleTag}
use Rattle.rule_set.specs.Rule.{RuleView}
use Rattle.rule_set.specs.Lawful.{IsLawfulValue, IsLawfulTag, IsLawfulRule}
use Rattle.list_lemmas.proofs.Elements.{length-AllZip}
use Rattle.rule_set.proofs.Offered.{faultless_rules}
use Rattle.classbench_reader.specs.Line.{rule_of, family_of_line}
use Rattle.classbench_reader.specs.Lawful.{is_lawful, IsLawfulLine}
use Rattle.classbench_reader.specs.Print.{fields_of, is_one_prefix, has_prefixes, IsPrintable, line_of_rule, rule_text}
use Rattle.classbench_reader.specs.Print.{rule_alone}
use Rattle.classbench_reader.specs.RuleFile.{rule_file_of}
use Rattle.classbench_reader.proofs.PrintedLines.{FitsTag}
use Rattle.classbench_reader.proofs.PrintedFiles.{rule_file_of-text}
use Rattle.std.specs.Prelude.{Ok}
use Rattle.list_lemmas.proofs.Numbers.{first_half, second_half}
use Rattle.std.proofs.lemmas.Nat.{shr_high, mod_low}

-- the tests of a lawful value, together
is_lawful_of : (def : FieldDef) (value : FieldValue) → IsLawfulValue def value
    → IsTrue (is_lawful def.kind def.size value)
is_lawful_of def value lawful =
    and_from _ _ (and_from _ _ (and_from _ _ lawful.kind lawful.can_match.within_size) lawful.can_match.mask_within)
    lawful.filled

-- a printable rule is lawful as a whole
pub lawful_rule : (its : Family) (rule : RuleView) → IsPrintable its rule
    → IsLawfulRule (fields_of its) rule.tag rule.fields
lawful_rule family.Ip4 rule printable =
    (faultless_rules ip4_fields rule.tag rule.fields ip4_is_layout).0 printable.lawful
lawful_rule family.Ip6 rule printable =
    (faultless_rules ip6_fields rule.tag rule.fields ip6_is_layout).0 printable.lawful

-- a rule that a line can say has a value for each field of its family
pub printable_length : (its : Family) (rule : RuleView) → IsPrintable its rule
    → length rule.fields ≡ length (fields_of its)
printable_length its rule printable =
    length-AllZip IsLawfulValue (fields_of its) rule.fields (lawful_rule its rule printable).values

-- the values of the addresses are masks
pub record Ip4Masks (values : List FieldValue) (d : FieldValue) : Type 0 where
  pub source : IsTrue (is_lawful kinds.Mask 4 (get_or values 1 d))
  pub destination : IsTrue (is_lawful kinds.Mask 4 (get_or values 2 d))

-- of lawful IPv4 values those of the addresses are masks
ip4_masks_of : (values : List FieldValue) (d : FieldValue) → AllZip IsLawfulValue ip4_fields values → Ip4Masks values d
ip4_masks_of [] d all = absurd all
ip4_masks_of (a ∷ []) d all = absurd all.1
ip4_masks_of (a ∷ b ∷ []) d all = absurd all.1.1
ip4_masks_of (a ∷ b ∷ e ∷ values) d all =
    record { source = is_lawful_of _ b all.1.0; destination = is_lawful_of _ e all.1.1.0 }

-- of an IPv4 rule that a line can say the values of the addresses are masks
pub ip4_masks : (rule : RuleView) (d : FieldValue) → IsPrintable family.Ip4 rule → Ip4Masks rule.fields d
ip4_masks rule d printable = ip4_masks_of rule.fields d (lawful_rule family.Ip4 rule printable).values

-- the four halves of the addresses are masks
pub record Ip6Masks (values : List FieldValue) (d : FieldValue) : Type 0 where
  pub source_high : IsTrue (is_lawful kinds.Mask 8 (get_or values 1 d))
  pub source_low : IsTrue (is_lawful kinds.Mask 8 (get_or values 2 d))
  pub high : IsTrue (is_lawful kinds.Mask 8 (get_or values 3 d))
  pub low : IsTrue (is_lawful kinds.Mask 8 (get_or values 4 d))

-- of lawful IPv6 values the halves of the addresses are masks
ip6_masks_of : (values : List FieldValue) (d : FieldValue) → AllZip IsLawfulValue ip6_fields values → Ip6Masks values d
ip6_masks_of [] d all = absurd all
ip6_masks_of (a ∷ []) d all = absurd all.1
ip6_masks_of (a ∷ b ∷ []) d all = absurd all.1.1
ip6_masks_of (a ∷ b ∷ e ∷ []) d all = absurd all.1.1.1
ip6_masks_of (a ∷ b ∷ e ∷ f ∷ []) d all = absurd all.1.1.1.1
ip6_masks_of (a ∷ b ∷ e ∷ f ∷ g ∷ values) d all = record {
  source_high = is_lawful_of _ b all.1.0;
  source_low = is_lawful_of _ e all.1.1.0;
  high = is_lawful_of _ f all.1.1.1.0;
  low = is_lawful_of _ g all.1.1.1.1.0;
}

-- of an IPv6 rule that a line can say the halves of the addresses are masks
pub ip6_masks : (rule : RuleView) (d : FieldValue) → IsPrintable family.Ip6 rule → Ip6Masks rule.fields d
ip6_masks rule d printable = ip6_masks_of rule.fields d (lawful_rule family.Ip6 rule printable).values

-- the line of a rule is lawful, of the rule's family, and says the rule
pub record SaysRule (its : Family) (rule : RuleView) : Type 0 where
  pub lawful : IsLawfulLine (line_of_rule its rule)
  pub says : rule_of (line_of_rule its rule) ≡ rule
  pub of_family : family_of_line (line_of_rule its rule) ≡ its

-- a mask by its numbers
record IsMask (value : FieldValue) (size : ℕ) : Type 0 where
  number : ℕ
  bits : ℕ
  is : value ≡ Mask number bits
  fits : number < 256 ^ size
  within : bits ≤ 8 * size

-- a lawful value of a mask is one that fits its size
mask_of : (value : FieldValue) (size : ℕ) → IsTrue (is_lawful kinds.Mask size value) → IsMask value size
mask_of (Mask number bits) size lawful =
    let filled = and_parts (nat_lt number (256 ^ size) && nat_le bits (8 * size)) true lawful in
    let tests = and_parts (nat_lt number (256 ^ size)) (nat_le bits (8 * size)) filled.0 in
    record {
      number = number;
      bits = bits;
      is = refl;
      fits = ltb-true number (256 ^ size) tests.0;
      within = leb-true bits (8 * size) tests.1;
    }
mask_of (Range low high) size lawful = absurd (false≢true lawful)
mask_of (Bitmask number mask) size lawful = absurd (false≢true lawful)

-- the line of an IPv4 rule of five lawful values says the rule
says_ip4 : (its_tag : RuleTag) (proto source destination ports others : FieldValue) → IsLawfulTag its_tag
    → AllZip IsLawfulValue ip4_fields (proto ∷ source ∷ destination ∷ ports ∷ others ∷ [])
    → SaysRule family.Ip4 (record { tag = its_tag; fields = proto ∷ source ∷ destination ∷ ports ∷ others ∷ [] })
says_ip4 its_tag proto source destination ports others tagged all =
    let from = mask_of source 4 (is_lawful_of _ source all.1.0) in
    let to = mask_of destination 4 (is_lawful_of _ destination all.1.1.0) in
    rw (from.is, to.is) (record {
      lawful = record {
        source_network = record { fits = from.fits; within = omega (arith, from.within) };
        destination_network = record { fits = to.fits; within = omega (arith, to.within) };
        one_family = refl;
        source_range = is_lawful_of _ ports all.1.1.1.0;
        destination_range = is_lawful_of _ others all.1.1.1.1.0;
        protocol_bits = is_lawful_of _ proto all.0;
        lawful_tag = tagged;
      };
      says = refl;
      of_family = refl;
    })

-- and so is each of an IPv6 rule whose masks are prefixes of whole addresses
says_ip6 : (its_tag : RuleTag) (proto source rest high low ports others : FieldValue) → IsLawfulTag its_tag
    → AllZip IsLawfulValue ip6_fields (proto ∷ source ∷ rest ∷ high ∷ low ∷ ports ∷ others ∷ [])
    → (is_one_prefix source rest && is_one_prefix high low) ≡ true
    → SaysRule family.Ip6 (record { tag = its_tag; fields = proto ∷ source ∷ rest ∷ high ∷ low ∷ ports ∷ others ∷ [] })
says_ip6 its_tag proto source rest high low ports others tagged all prefixes =
    let a = mask_of source 8 (is_lawful_of _ source all.1.0) in
    let b = mask_of rest 8 (is_lawful_of _ rest all.1.1.0) in
    let d = mask_of high 8 (is_lawful_of _ high all.1.1.1.0) in
    let e = mask_of low 8 (is_lawful_of _ low all.1.1.1.1.0) in
    let parts = and_parts (is_one_prefix source rest) (is_one_prefix high low) prefixes in
    let first : (eqb b.bits 0 || eqb a.bits 64) ≡ true = rw (a.is, b.is) at parts.0 in
    let second : (eqb e.bits 0 || eqb d.bits 64) ≡ true = rw (d.is, e.is) at parts.1 in
    rw (a.is, b.is, d.is, e.is) (record {
      lawful = record {
        source_network = record { fits = omega (arith, a.fits, b.fits); within = omega (arith, a.within, b.within) };
        destination_network =
            record { fits = omega (arith, d.fits, e.fits); within = omega (arith, d.within, e.within) };
        one_family = refl;
        source_range = is_lawful_of _ ports all.1.1.1.1.1.0;
        destination_range = is_lawful_of _ others all.1.1.1.1.1.1.0;
        protocol_bits = is_lawful_of _ proto all.0;
        lawful_tag = tagged;
      };
      says = rw (
        shr_high a.number 64 b.number b.fits,
        first_half a.bits b.bits (omega (arith, a.within))
            (omega (arith, b.within)) first,
        mod_low a.number 64 b.number b.fits,
        second_half a.bits b.bits (omega (arith, a.within))
            (omega (arith, b.within)) first,
        shr_high d.number 64 e.number e.fits,
        first_half d.bits e.bits (omega (arith, d.within))
            (omega (arith, e.within)) second,
        mod_low d.number 64 e.number e.fits,
        second_half d.bits e.bits (omega (arith, d.within))
            (omega (arith, e.within)) second,
      ) refl;
      of_family = refl;
    })

-- the line of a lawful IPv4 rule says the rule
says_ip4_values : (its_tag : RuleTag) (values : List FieldValue) → IsLawfulTag its_tag
    → AllZip IsLawfulValue ip4_fields values
    → SaysRule family.Ip4 (record { tag = its_tag; fields = values })
says_ip4_values its_tag [] tagged all = absurd all
says_ip4_values its_tag (a ∷ []) tagged all = absurd all.1
says_ip4_values its_tag (a ∷ b ∷ []) tagged all = absurd all.1.1
says_ip4_values its_tag (a ∷ b ∷ d ∷ []) tagged all = absurd all.1.1.1
says_ip4_values its_tag (a ∷ b ∷ d ∷ e ∷ []) tagged all = absurd all.1.1.1.1
says_ip4_values its_tag (a ∷ b ∷ d ∷ e ∷ f ∷ []) tagged all = says_ip4 its_tag a b d e f tagged all
says_ip4_values its_tag (a ∷ b ∷ d ∷ e ∷ f ∷ g ∷ values) tagged all = absurd all.1.1.1.1.1

-- the line of a lawful IPv6 rule whose addresses have prefixes says the rule
says_ip6_values : (its_tag : RuleTag) (values : List FieldValue) → IsLawfulTag its_tag
    → AllZip IsLawfulValue ip6_fields values
    → has_prefixes family.Ip6 values ≡ true → SaysRule family.Ip6 (record { tag = its_tag; fields = values })
says_ip6_values its_tag [] tagged all prefixes = absurd all
says_ip6_values its_tag (a ∷ []) tagged all prefixes = absurd all.1
says_ip6_values its_tag (a ∷ b ∷ []) tagged all prefixes = absurd all.1.1
says_ip6_values its_tag (a ∷ b ∷ d ∷ []) tagged all prefixes = absurd all.1.1.1
says_ip6_values its_tag (a ∷ b ∷ d ∷ e ∷ []) tagged all prefixes = absurd all.1.1.1.1
says_ip6_values its_tag (a ∷ b ∷ d ∷ e ∷ f ∷ []) tagged all prefixes = absurd all.1.1.1.1.1
says_ip6_values its_tag (a ∷ b ∷ d ∷ e ∷ f ∷ g ∷ []) tagged all prefixes = absurd all.1.1.1.1.1.1
says_ip6_values its_tag (a ∷ b ∷ d ∷ e ∷ f ∷ g ∷ h ∷ []) tagged all prefixes =
    says_ip6 its_tag a b d e f g h tagged all prefixes
says_ip6_values its_tag (a ∷ b ∷ d ∷ e ∷ f ∷ g ∷ h ∷ i ∷ values) tagged all prefixes = absurd all.1.1.1.1.1.1.1

-- the line of a rule that a line can say says the rule
pub says_rule : (its : Family) (rule : RuleView) → IsPrintable its rule → SaysRule its rule
says_rule family.Ip4 rule printable =
    let lawful = lawful_rule family.Ip4 rule printable in
    says_ip4_values rule.tag rule.fields lawful.tag lawful.values
says_rule family.Ip6 rule printable =
    let lawful = lawful_rule family.Ip6 rule printable in
    says_ip6_values rule.tag rule.fields lawful.tag lawful.values printable.prefixes

-- the line of a printable rule is a file of that rule alone
pub rule_file_of-rule_text : (its : Family) (rule : RuleView) → IsPrintable its rule
    → FitsTag (line_of_rule its rule).tag
    → rule_file_of (rule_text its rule) ≡ Ok (rule_alone its rule)
rule_file_of-rule_text its rule printable fits =
    let said = says_rule its rule printable in
    rule_file_of-text (line_of_rule its rule) said.lawful fits
    ∙ ap (λ f. Ok (rule_alone f (rule_of (line_of_rule its rule)))) said.of_family
    ∙ ap (λ r. Ok (rule_alone its r)) said.says
