-- The rule of a line is lawful for the layout of its family.
use Rattle.std.proofs.Common.{◌≡◌, ℕ, ◌-◌, ◌*◌, ◌/◌, ◌%◌, ◌^◌, ◌<◌, ◌≤◌, true, min, max, None, IsTrue, [], ◌∷◌, refl}
use Rattle.std.proofs.Common.{sym, ◌∙◌, arith}
use Rattle.std.specs.List.{AllZip}
use Rattle.std.proofs.lemmas.Bool.{and_parts, lt-ltb, le-leb}
use Rattle.std.proofs.lemmas.Nat.{div_below, mod_below}
use Rattle.field_defs.specs.declared.field.Family.{Family}
use Rattle.field_defs.specs.declared.field.Family.TheVariants as family
use Rattle.field_defs.specs.declared.field.FieldKind.TheVariants as kinds
use Rattle.field_defs.specs.declared.field.FieldDef.{FieldDef}
use Rattle.field_defs.specs.declared.field.FieldValue.{FieldValue}
use Rattle.field_defs.specs.declared.field.FieldValue.TheVariants.{Mask}
use Rattle.field_defs.specs.FieldBounds.{is_size}
use Rattle.field_defs.specs.Layout.{ip4_fields, ip6_fields}
use Rattle.field_defs.proofs.Offered.{ip4_is_layout, ip6_is_layout}
use Rattle.rule_set.specs.Fault.{rule_fault}
use Rattle.rule_set.specs.Lawful.{IsLawfulValue}
use Rattle.rule_set.proofs.Offered.{faultless_rules}
use Rattle.classbench_reader.specs.declared.network.Address.{Address}
use Rattle.classbench_reader.specs.declared.network.Address.TheVariants.{Ip4, Ip6}
use Rattle.classbench_reader.specs.declared.line.RuleLine.{RuleLine}
use Rattle.classbench_reader.specs.Network.{family_of_address, family_of}
use Rattle.classbench_reader.specs.Line.{values_of, same_family}
use Rattle.classbench_reader.specs.Lawful.{is_lawful, IsLawfulLine}

-- the tests of a value, one by one
lawful_value : (def : FieldDef) (value : FieldValue) → IsTrue (is_size def.size)
    → IsTrue (is_lawful def.kind def.size value)
    → IsLawfulValue def value
lawful_value def value size lawful =
    let filled = and_parts _ _ lawful in
    let short = and_parts _ _ filled.0 in
    let narrow = and_parts _ _ short.0 in
    record {
      kind = narrow.0;
      can_match = record { lawful_size = size; within_size = narrow.1; mask_within = short.1 };
      filled = filled.1;
    }

-- a mask of the bits of its field
lawful_mask : (value bits size : ℕ) → value < 256 ^ size → bits ≤ 8 * size
    → IsTrue (is_lawful kinds.Mask size (Mask value bits))
lawful_mask value bits size fits within = rw (lt-ltb value (256 ^ size) fits, le-leb bits (8 * size) within) refl

-- an address of a family, by its number
record IsIp4 (address : Address) : Type 0 where
  number : ℕ
  is : address ≡ Ip4 number

-- an IPv6 address, by its number
record IsIp6 (address : Address) : Type 0 where
  number : ℕ
  is : address ≡ Ip6 number

-- an address of the family IPv4 is an IPv4 address
ip4_of_family : (address : Address) → family_of_address address ≡ family.Ip4 → IsIp4 address
ip4_of_family (Ip4 number) same = record { number = number; is = refl }
ip4_of_family (Ip6 number) same = absurd (cc)

-- an address of the family IPv6 is an IPv6 address
ip6_of_family : (address : Address) → family_of_address address ≡ family.Ip6 → IsIp6 address
ip6_of_family (Ip4 number) same = absurd (cc)
ip6_of_family (Ip6 number) same = record { number = number; is = refl }

-- two families that are one
pub one_family : (one other : Family) → same_family one other ≡ true → one ≡ other
one_family family.Ip4 family.Ip4 same = refl
one_family family.Ip4 family.Ip6 same = absurd (cc)
one_family family.Ip6 family.Ip4 same = absurd (cc)
one_family family.Ip6 family.Ip6 same = refl

-- the values of an address of either family
lawful_ip4 : (source destination bits others : ℕ) (line : RuleLine) → source < 2 ^ 32 → bits ≤ 32 → destination < 2 ^ 32
    → others ≤ 32
    → IsLawfulLine line
    → AllZip IsLawfulValue ip4_fields
    (line.protocol ∷ Mask source bits ∷ Mask destination others ∷ line.source_ports ∷ line.destination_ports ∷ [])
lawful_ip4 source destination bits others line source_fits source_within fits within lawful = (
  lawful_value _ line.protocol refl lawful.protocol_bits,
  (
    lawful_value _ (Mask source bits) refl (lawful_mask source bits 4 (omega arith) (omega arith)),
    (
      lawful_value _ (Mask destination others) refl (lawful_mask destination others 4 (omega arith) (omega arith)),
      (
        lawful_value _ line.source_ports refl lawful.source_range,
        (lawful_value _ line.destination_ports refl lawful.destination_range, tt),
      ),
    ),
  ),
)

-- the values of an IPv6 line are lawful, each address as the masks of its two halves
lawful_ip6 : (source destination bits others : ℕ) (line : RuleLine) → source < 2 ^ 128 → bits ≤ 128
    → destination < 2 ^ 128 → others ≤ 128
    → IsLawfulLine line
    → AllZip IsLawfulValue ip6_fields
    (line.protocol ∷ Mask (source / 2 ^ 64) (min bits 64) ∷ Mask (source % 2 ^ 64) (max bits 64 - 64)
    ∷ Mask (destination / 2 ^ 64) (min others 64) ∷ Mask (destination % 2 ^ 64) (max others 64 - 64)
    ∷ line.source_ports ∷ line.destination_ports ∷ [])
lawful_ip6 source destination bits others line source_fits source_within fits within lawful =
    let high = λ (n : ℕ) (h : n < 2 ^ 128). div_below n (2 ^ 64) (2 ^ 64) (omega arith) h in
    let low = λ (n : ℕ). mod_below n (2 ^ 64) (omega arith) in (
      lawful_value _ line.protocol refl lawful.protocol_bits,
      (
        lawful_value _ (Mask (source / 2 ^ 64) (min bits 64)) refl
            (lawful_mask _ _ 8 (high source source_fits) (omega arith)),
        (
          lawful_value _ (Mask (source % 2 ^ 64) (max bits 64 - 64)) refl
              (lawful_mask _ _ 8 (low source) (omega arith)),
          (
            lawful_value _ (Mask (destination / 2 ^ 64) (min others 64)) refl
                (lawful_mask _ _ 8 (high destination fits) (omega arith)),
            (
              lawful_value _ (Mask (destination % 2 ^ 64) (max others 64 - 64)) refl
                  (lawful_mask _ _ 8 (low destination) (omega arith)),
              (
                lawful_value _ line.source_ports refl lawful.source_range,
                (lawful_value _ line.destination_ports refl lawful.destination_range, tt),
              ),
            ),
          ),
        ),
      ),
    )

-- the rule of an IPv4 line
pub rule_fault-ip4 : (line : RuleLine) → IsLawfulLine line → family_of line.source ≡ family.Ip4
    → rule_fault ip4_fields line.tag (values_of line) ≡ None
rule_fault-ip4 line lawful four =
    let source = ip4_of_family line.source.address four in
    let destination = ip4_of_family line.destination.address (sym (one_family _ _ lawful.one_family) ∙ four) in
    let from = rw source.is at lawful.source_network in
    let to = rw destination.is at lawful.destination_network in
    let values = lawful_ip4 source.number destination.number line.source.bits line.destination.bits line from.fits
    from.within to.fits to.within lawful in
    let all : AllZip IsLawfulValue ip4_fields (values_of line) = rw (source.is, destination.is) values in
    (faultless_rules ip4_fields line.tag (values_of line) ip4_is_layout).1
    (record { tag = lawful.lawful_tag; values = all })

-- the rule of an IPv6 line
pub rule_fault-ip6 : (line : RuleLine) → IsLawfulLine line → family_of line.source ≡ family.Ip6
    → rule_fault ip6_fields line.tag (values_of line) ≡ None
rule_fault-ip6 line lawful six =
    let source = ip6_of_family line.source.address six in
    let destination = ip6_of_family line.destination.address (sym (one_family _ _ lawful.one_family) ∙ six) in
    let from = rw source.is at lawful.source_network in
    let to = rw destination.is at lawful.destination_network in
    let values = lawful_ip6 source.number destination.number line.source.bits line.destination.bits line from.fits
    from.within to.fits to.within lawful in
    let all : AllZip IsLawfulValue ip6_fields (values_of line) = rw (source.is, destination.is) values in
    (faultless_rules ip6_fields line.tag (values_of line) ip6_is_layout).1
    (record { tag = lawful.lawful_tag; values = all })
