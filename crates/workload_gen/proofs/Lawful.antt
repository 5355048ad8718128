-- The rule of six words is lawful.
use Rattle.std.proofs.Common.{◌≡◌, ℕ, zero, suc, ◌+◌, ◌/◌, ◌%◌, ◌^◌, ◌<◌, ◌≤◌, ◌==◌, List, true, not}
use Rattle.std.proofs.Common.{None, refl, sym, ◌∙◌, arith, nat_le, nat_lt, min, inl, inr, slice_index}
use Rattle.std.specs.Prelude.{bit_and}
use Rattle.std.proofs.lemmas.Bool.{cases_Bool, lt-ltb}
use Rattle.std.proofs.lemmas.Bool.Decides.{nat_tests}
use Rattle.std.proofs.lemmas.Int.{ints}
use Rattle.std.proofs.lemmas.Nat.{and_mask}
use Rattle.field_defs.specs.declared.field.FieldDef.{FieldDef}
use Rattle.field_defs.specs.declared.field.FieldKind.{FieldKind}
use Rattle.field_defs.specs.declared.field.FieldKind.TheVariants as kinds
use Rattle.field_defs.specs.declared.field.FieldValue.TheVariants.{Range, Bitmask}
use Rattle.field_defs.specs.Layout.{ip4_fields}
use Rattle.field_defs.proofs.Offered.{ip4_is_layout}
use Rattle.rule_set.specs.Fault.{rule_fault}
use Rattle.rule_set.specs.Lawful.{IsLawfulTag, IsLawfulValue}
use Rattle.rule_set.proofs.Offered.{some_category, faultless_rules}
use Rattle.workload_gen.specs.Rule.{address, category_masks, protocol_value, source_value, destination_value}
use Rattle.workload_gen.specs.Rule.{choice, destination_bits, destination_ports, first_user_port, last_port}
use Rattle.workload_gen.specs.Rule.{ports_after, rule_of, source_bits}

-- some category is named, and the priority is a lawful one
tag_of_words : (number : ℕ) (words : List ℕ) → IsLawfulTag (rule_of number words).tag
tag_of_words number words =
    let n = slice_index words 5 % category_masks in
    let low : bit_and (1 + n) 65535 ≡ 1 + n = and_mask (1 + n) 16 ∙ omega arith in
    let some : not (bit_and (1 + n) 65535 == 0) ≡ true = rw low (grind (arith, nat_tests)) in
    record {
      category = sym (some_category (rule_of number words).tag) ∙ some;
      not_below = grind (arith, ints);
      not_above = grind (arith, ints);
    }

-- a field of a kind and a size
abbrev field : FieldKind → ℕ → ℕ → ℕ → ℕ → FieldDef
field kind size index input offset =
    record { kind = kind; size = size; field_index = index; input_index = input; offset = offset }

-- a protocol and the bits of it that decide
protocol : (index input offset value mask : ℕ) → value < 256 → mask < 256 →
    IsLawfulValue (field kinds.Bitmask 1 index input offset) (Bitmask value mask)
protocol index input offset value mask fits decides = record {
  kind = refl;
  can_match = record {
    lawful_size = refl;
    within_size = rw (lt-ltb value 256 fits, lt-ltb mask 256 decides) refl;
    mask_within = refl;
  };
  filled = refl;
}

-- the protocol of a word is a lawful value
protocol_of_words : (index input offset word : ℕ) →
    IsLawfulValue (field kinds.Bitmask 1 index input offset) (protocol_value word)
protocol_of_words index input offset word =
    elim (cases_Bool (word % 4 == 1)) [
      | inl e ↦ rw e (protocol index input offset 17 0xFF (omega arith) (omega arith))
      | inr e ↦ rw e (elim (cases_Bool (word % 4 == 3)) [
        | inl f ↦ rw f (protocol index input offset 0 0 (omega arith) (omega arith))
        | inr f ↦ rw f (protocol index input offset 6 0xFF (omega arith) (omega arith))
      ])
    ]

-- at most 32 bits of a source decide
few_source_bits : (i : ℕ) → i < 3 → nat_le (slice_index source_bits i) 32 ≡ true
few_source_bits zero h = refl
few_source_bits (suc zero) h = refl
few_source_bits (suc (suc zero)) h = refl
few_source_bits (suc (suc (suc i))) h = absurd (omega arith)

-- at most 32 bits of a destination decide
few_destination_bits : (i : ℕ) → i < 4 → nat_le (slice_index destination_bits i) 32 ≡ true
few_destination_bits zero h = refl
few_destination_bits (suc zero) h = refl
few_destination_bits (suc (suc zero)) h = refl
few_destination_bits (suc (suc (suc zero))) h = refl
few_destination_bits (suc (suc (suc (suc i)))) h = absurd (omega arith)

-- the address of a word has 4 bytes
address_fits : (word : ℕ) → nat_lt (address word) (256 ^ 4) ≡ true
address_fits word = grind (arith, nat_tests)

-- the source of a word is a lawful value
source_of_words : (index input offset word : ℕ) →
    IsLawfulValue (field kinds.Mask 4 index input offset) (source_value word)
source_of_words index input offset word = record {
  kind = refl;
  can_match = record {
    lawful_size = refl;
    within_size = address_fits word;
    mask_within = few_source_bits (choice word % 3) (omega arith);
  };
  filled = refl;
}

-- the destination of a word is a lawful value
destination_of_words : (index input offset word : ℕ) →
    IsLawfulValue (field kinds.Mask 4 index input offset) (destination_value word)
destination_of_words index input offset word = record {
  kind = refl;
  can_match = record {
    lawful_size = refl;
    within_size = address_fits word;
    mask_within = few_destination_bits (choice word % 4) (omega arith);
  };
  filled = refl;
}

-- a range of ports
ports : (index input offset low high : ℕ) → low ≤ high → high < 2 ^ 16 →
    IsLawfulValue (field kinds.Range 2 index input offset) (Range low high)
ports index input offset low high filled fits = record {
  kind = refl;
  can_match = record {
    lawful_size = refl;
    within_size = rw (lt-ltb low 65536 (omega arith), lt-ltb high 65536 (omega arith)) refl;
    mask_within = refl;
  };
  filled = grind (arith, nat_tests);
}

-- the destination ports of a word are a lawful value
ports_of_words : (index input offset word : ℕ) → word < 2 ^ 32 →
    IsLawfulValue (field kinds.Range 2 index input offset) (destination_ports word)
ports_of_words index input offset word fits =
    let first = word / 2 ^ 16 in
    let last = min (first + ports_after) last_port in
    elim (cases_Bool (word % 4 == 0)) [
      | inl e ↦ rw e (ports index input offset 0 last_port (omega arith) (omega arith))
      | inr e ↦ rw e (elim (cases_Bool (word % 4 == 1)) [
        | inl f ↦ rw f (ports index input offset first_user_port last_port (omega arith) (omega arith))
        | inr f ↦ rw f (elim (cases_Bool (word % 4 == 2)) [
          | inl g ↦ rw g (ports index input offset first first (omega arith) (omega arith))
          | inr g ↦ rw g (ports index input offset first last (omega arith) (omega arith))
        ])
      ])
    ]

-- the rule of six words is lawful, whatever the words are
pub rule_of_words : (number : ℕ) (words : List ℕ) → slice_index words 3 < 2 ^ 32 →
    rule_fault ip4_fields (rule_of number words).tag (rule_of number words).fields ≡ None
rule_of_words number words fits =
    (faultless_rules ip4_fields (rule_of number words).tag (rule_of number words).fields ip4_is_layout).1 (record {
      tag = tag_of_words number words;
      values = (
        protocol_of_words _ _ _ (slice_index words 0),
        (
          source_of_words _ _ _ (slice_index words 1),
          (
            destination_of_words _ _ _ (slice_index words 2),
            (
              ports _ _ _ 0 last_port (omega arith) (omega arith),
              (ports_of_words _ _ _ (slice_index words 3) fits, tt),
            ),
          ),
        ),
      );
    })
