-- A packet that is aimed at a rule matches it.
use Rattle.std.proofs.Common.{◌≡◌, ℕ, ◌/◌, ◌^◌, ◌<◌, List, [], ◌∷◌, Some}
use Rattle.std.proofs.Common.{true, refl, arith, nat_le, slice_index, slice_get}
use Rattle.std.specs.Int.{w16, w32, to_be_bytes}
use Rattle.std.specs.List.{AllZip}
use Rattle.std.proofs.lemmas.Bool.{eq-eqb, and_from}
use Rattle.std.proofs.lemmas.Bool.Decides.{nat_tests}
use Rattle.byte_numbers.specs.Number.{number_of}
use Rattle.field_defs.specs.declared.field.FieldDef.{FieldDef}
use Rattle.field_defs.specs.declared.field.FieldValue.{FieldValue}
use Rattle.field_defs.specs.declared.field.FieldValue.TheVariants.{Mask, Range, Bitmask}
use Rattle.field_defs.specs.FieldMatch.{field_match}
use Rattle.field_defs.specs.Layout.{ip4_fields}
use Rattle.field_defs.proofs.Offered.{ip4_is_layout}
use Rattle.rule_set.specs.Rule.{RuleView}
use Rattle.rule_set.specs.Lawful.{IsLawfulValue}
use Rattle.rule_set.specs.Winner.{rule_match}
use Rattle.rule_set.proofs.Offered.{faultless_rules}
use Rattle.workload_gen.specs.Laws.{AimedPacketsMatch}
use Rattle.workload_gen.specs.Packet.{aimed_packet, first_number, packet_key}
use Rattle.workload_gen.specs.Rule.{last_port}
use Rattle.workload_gen.proofs.Held.{first_number_fits}

-- a lawful value lets its first number through
first_number_matches : (def : FieldDef) (value : FieldValue) → IsLawfulValue def value →
    field_match value def.size (first_number value) ≡ true
first_number_matches def (Mask value bits) lawful = eq-eqb _ _ refl
first_number_matches def (Range low high) lawful =
    let from : nat_le low low ≡ true = grind (arith, nat_tests) in
    and_from _ _ from lawful.filled
first_number_matches def (Bitmask value mask) lawful = eq-eqb _ _ refl

-- ---- the bytes of a number spell it
spelled_1 : (n : ℕ) → number_of (n ∷ []) ≡ n
spelled_1 n = omega arith

-- two bytes spell a number of 16 bits
spelled_2 : (n : ℕ) → n < 2 ^ 16 → number_of (to_be_bytes w16 n) ≡ n
spelled_2 n h = omega arith

-- four bytes spell a number of 32 bits
spelled_4 : (n : ℕ) → n < 2 ^ 32 → number_of (to_be_bytes w32 n) ≡ n
spelled_4 n h = omega arith

-- a number of bytes that spell the first number of a lawful value
spelled_matches : (def : FieldDef) (value : FieldValue) (bytes : List ℕ) → IsLawfulValue def value →
    number_of bytes ≡ first_number value → field_match value def.size (number_of bytes) ≡ true
spelled_matches def value bytes lawful spells = rw spells (first_number_matches def value lawful)

-- all ports let each port through
port_matches : (port : ℕ) → port < 2 ^ 16 →
    field_match (Range 0 last_port) 2 (number_of (to_be_bytes w16 port)) ≡ true
port_matches port h =
    let above : nat_le 0 port ≡ true = grind (arith, nat_tests) in
    let below : nat_le port last_port ≡ true = grind (arith, nat_tests) in
    rw (spelled_2 port h) (and_from _ _ above below)

-- five lawful values, all source ports among them, match the packet that is aimed at them
values_match : (rule : RuleView) (words : List ℕ) (a b e f g : FieldValue) →
    rule.fields ≡ a ∷ b ∷ e ∷ f ∷ g ∷ [] → AllZip IsLawfulValue ip4_fields (a ∷ b ∷ e ∷ f ∷ g ∷ []) →
    f ≡ Range 0 last_port → slice_index words 3 < 2 ^ 32 →
    rule_match ip4_fields rule.fields (packet_key (aimed_packet rule words)) ≡ true
values_match rule words a b e f g is lawful all_ports fits =
    let port = slice_index words 3 / 2 ^ 16 in
    let source = spelled_4 (first_number b) (first_number_fits _ b lawful.1.0) in
    let destination = spelled_4 (first_number e) (first_number_fits _ e lawful.1.1.0) in
    let low = spelled_2 (first_number g) (first_number_fits _ g lawful.1.1.1.1.0) in
    rw (is, all_ports) (
    and_from _ _ (spelled_matches _ a (first_number a ∷ []) lawful.0 (spelled_1 (first_number a))) (
    and_from _ _ (spelled_matches _ b (to_be_bytes w32 (first_number b)) lawful.1.0 source) (
    and_from _ _ (spelled_matches _ e (to_be_bytes w32 (first_number e)) lawful.1.1.0 destination) (
    and_from _ _ (port_matches port (omega arith)) (
    and_from _ _ (spelled_matches _ g (to_be_bytes w16 (first_number g)) lawful.1.1.1.1.0 low) refl)))))

-- and so do the values of a rule, however they are given
fields_match : (rule : RuleView) (words : List ℕ) (values : List FieldValue) → rule.fields ≡ values →
    AllZip IsLawfulValue ip4_fields values → slice_get values 3 ≡ Some (Range 0 last_port) →
    slice_index words 3 < 2 ^ 32 →
    rule_match ip4_fields rule.fields (packet_key (aimed_packet rule words)) ≡ true
fields_match rule words [] is lawful all_ports fits = absurd lawful
fields_match rule words (a ∷ []) is lawful all_ports fits = absurd lawful.1
fields_match rule words (a ∷ b ∷ []) is lawful all_ports fits = absurd lawful.1.1
fields_match rule words (a ∷ b ∷ e ∷ []) is lawful all_ports fits = absurd lawful.1.1.1
fields_match rule words (a ∷ b ∷ e ∷ f ∷ []) is lawful all_ports fits = absurd lawful.1.1.1.1
fields_match rule words (a ∷ b ∷ e ∷ f ∷ g ∷ []) is lawful all_ports fits =
    let all : f ≡ Range 0 last_port = cc in
    values_match rule words a b e f g is lawful all fits
fields_match rule words (a ∷ b ∷ e ∷ f ∷ g ∷ h ∷ values) is lawful all_ports fits = absurd lawful.1.1.1.1.1

-- a packet that is aimed at a lawful rule for all source ports matches it
pub aimed_packets_match : AimedPacketsMatch
aimed_packets_match rule words lawful all_ports fits =
    let values = ((faultless_rules ip4_fields rule.tag rule.fields ip4_is_layout).0 lawful).values in
    fields_match rule words rule.fields refl values all_ports fits
