-- Bits of numbers: by blocks, from the lowest one on, and from a place on.
use Rattle.std.proofs.lemmas.Bool.{ne_eqb, eq-eqb, cases_eq, le-ltb, lt-ltb}
use Rattle.std.proofs.Common.{inl, inr, refl, eqb, ℕ, ◌≡◌, ◌+◌, ◌*◌, ◌<◌, ◌&&◌, ap, sym, ◌/◌, ◌%◌, ◌^◌, ◌∙◌, arith, ◌-◌}
use Rattle.std.proofs.Common.{◌≤◌, not, ltb, ◌==◌, ◌||◌, suc, add-one, zero}
use Rattle.std.proofs.lemmas.Nat.{same_from_place, mod_below, pow_pos, div-add-mod', and_block, and_le_l, and_comm}
use Rattle.std.proofs.lemmas.Nat.{and_mask, and-not, and_assoc, mod-pow-add, shr-shr}
use Rattle.std.specs.Prelude.{bit_and, bit_or}
use Rattle.std.proofs.Math.Pow.{pow_mono}
use Rattle.std.specs.Int.Bits.{or_add_and, and_self}
use Rattle.std.proofs.lemmas.Bool.Decides.{nat_tests}
use Rattle.std.specs.List.{list_any, range_with_len}
use Rattle.std.proofs.Math.Nat.{mod-one}
use Rattle.std.specs.Int.{bit_at}

-- two numbers are one where their blocks are
pub eqb-blocks : (a b c d : ℕ) → b < 256 → d < 256 → eqb (a * 256 + b) (c * 256 + d) ≡ (eqb a c && eqb b d)
eqb-blocks a b c d short short' =
    elim (cases_eq (a * 256 + b) (c * 256 + d)) [
      | inl same ↦
          let parts = same_from_place a b c d 256 short short' same in
          rw (eq-eqb (a * 256 + b) (c * 256 + d) same, eq-eqb a c parts.0, eq-eqb b d parts.1) refl
      | inr other ↦ elim (cases_eq a c) [
        | inl first ↦ rw (
          ne_eqb (a * 256 + b) (c * 256 + d) other,
          eq-eqb a c first,
          ne_eqb b d (λ e. other (rw (first, e) refl)),
        ) refl
        | inr differ ↦ rw (ne_eqb (a * 256 + b) (c * 256 + d) other, ne_eqb a c differ) refl
      ]
    ]

-- the bits that two numbers share, by their last block
pub shared_by_block : (bits high low mask : ℕ) → low < 2 ^ bits →
    bit_and (high * 2 ^ bits + low) mask ≡ bit_and high (mask / 2 ^ bits) * 2 ^ bits + bit_and low (mask % 2 ^ bits)
shared_by_block bits high low mask below =
    ap (bit_and (high * 2 ^ bits + low)) (sym (div-add-mod' mask (2 ^ bits)))
    ∙ and_block bits high (mask / 2 ^ bits) low (mask % 2 ^ bits) below (mod_below mask (2 ^ bits) (pow_pos bits))

-- the bits that two numbers share are those of their first and those of their last block
pub shared_in_blocks : (bits value mask : ℕ) →
    bit_and value mask ≡ bit_and (value / 2 ^ bits) (mask / 2 ^ bits) * 2 ^ bits + bit_and (value % 2 ^ bits)
    (mask % 2 ^ bits)
shared_in_blocks bits value mask =
    ap (λ n. bit_and n mask) (sym (div-add-mod' value (2 ^ bits)))
    ∙ shared_by_block bits (value / 2 ^ bits) (value % 2 ^ bits) mask (mod_below value (2 ^ bits) (pow_pos bits))

-- the bits of a prefix and one more byte agree where those of the prefix and those of the byte do
pub agree_by_byte : (value mask prefix byte : ℕ) → byte < 256 →
    eqb (bit_and (prefix * 256 + byte) mask) (bit_and value mask)
    ≡ (eqb (bit_and prefix (mask / 256)) (bit_and (value / 256) (mask / 256)) && eqb (bit_and byte (mask % 256))
    (bit_and (value % 256) (mask % 256)))
agree_by_byte value mask prefix byte below =
    let last : value % 256 < 256 = mod_below value 256 (omega arith) in
    rw (shared_by_block 8 prefix byte mask below, shared_in_blocks 8 value mask)
    (eqb-blocks _ _ _ _ (omega (arith, and_le_l byte (mask % 256)))
    (omega (arith, and_le_l (value % 256) (mask % 256))))

-- all bits but the lowest
pub high_bits : (value free : ℕ) → value < 2 ^ 64 → free ≤ 64 →
    bit_and value (2 ^ 64 - 1 - (2 ^ free - 1)) ≡ value / 2 ^ free * 2 ^ free
high_bits value free fits within =
    let split = div-add-mod' value (2 ^ free) in
    let fit : 2 ^ free ≤ 2 ^ 64 = pow_mono within in
    let parts = and-not 64 (2 ^ free - 1) value (omega (arith, pow_pos free)) fits in
    let low : bit_and (2 ^ free - 1) value ≡ value % 2 ^ free = and_comm (2 ^ free - 1) value ∙ and_mask value free in
    and_comm value _ ∙ omega arith

-- with the lowest bits set
pub low_bits_set : (value free : ℕ) → bit_or value (2 ^ free - 1) ≡ value / 2 ^ free * 2 ^ free + (2 ^ free - 1)
low_bits_set value free =
    let split = div-add-mod' value (2 ^ free) in
    let both = or_add_and value (2 ^ free - 1) in
    omega (arith, and_mask value free)

-- whether an end's last bits are all clear, or all set
pub some_bit_set : (number bits : ℕ) → not (eqb (bit_and number (2 ^ bits - 1)) 0) ≡ ltb 0 (number % 2 ^ bits)
some_bit_set number bits =
    rw (and_mask number bits) (elim (cases_eq (number % 2 ^ bits) 0) [
      | inl clear ↦ rw (eq-eqb _ _ clear, le-ltb 0 (number % 2 ^ bits) (omega arith)) refl
      | inr set ↦ rw (ne_eqb _ _ set, lt-ltb 0 (number % 2 ^ bits) (omega arith)) refl
    ])

-- a number lacks one of its lowest bits exactly if its rest by their power is below the greatest
pub some_bit_clear : (number bits : ℕ) → not (eqb (bit_and number (2 ^ bits - 1)) (2 ^ bits - 1))
    ≡ ltb (number % 2 ^ bits) (2 ^ bits - 1)
some_bit_clear number bits =
    let below : number % 2 ^ bits < 2 ^ bits = mod_below number (2 ^ bits) (pow_pos bits) in
    rw (and_mask number bits) (elim (cases_eq (number % 2 ^ bits) (2 ^ bits - 1)) [
      | inl set ↦ rw (eq-eqb _ _ set, le-ltb (number % 2 ^ bits) (2 ^ bits - 1) (omega arith)) refl
      | inr clear ↦ rw (ne_eqb _ _ clear, lt-ltb (number % 2 ^ bits) (2 ^ bits - 1) (omega arith)) refl
    ])

-- a mask leaves nothing more to take away
pub and_again : (value mask : ℕ) → bit_and (bit_and value mask) mask ≡ bit_and value mask
and_again value mask = and_assoc mask value mask ∙ ap (bit_and value) (and_self mask)

-- two times a number and a bit are 0 where both are
pub twice_and_a_bit : (m bit : ℕ) → bit < 2 → (bit == 1 || not (m == 0)) ≡ not (m * 2 + bit == 0)
twice_and_a_bit m bit h = grind (arith, nat_tests)

-- some of the n bits from place a on is set exactly where they aren't all 0
pub some_bit_from : (mask a n : ℕ) → list_any (λ c. bit_at mask c == 1) (range_with_len a n)
    ≡ not (mask / 2 ^ a % 2 ^ n == 0)
some_bit_from mask a zero = rw (mod-one (mask / 2 ^ a)) refl
some_bit_from mask a (suc n) =
    let q : ℕ = mask / 2 ^ a in
    let higher : list_any (λ c. bit_at mask c == 1) (range_with_len (a + 1) n) ≡ not (q / 2 % 2 ^ n == 0) =
    rw (shr-shr mask a 1) (some_bit_from mask (a + 1) n) in
    let split : q % 2 ^ suc n ≡ (q / 2 % 2 ^ n) * 2 + q % 2 = rw (← add-one n) (mod-pow-add q n 1) in
    rw (higher, split) (twice_and_a_bit (q / 2 % 2 ^ n) (q % 2) (omega arith))
