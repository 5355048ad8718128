-- When a value lets every number of a size through.
use Rattle.std.proofs.Common.{◌≡◌, ◌≢◌, ◌↔◌, ℕ, ◌-◌, ◌*◌, ◌/◌, ◌^◌, ◌<◌, ◌≤◌, ◌+◌, ◌==◌, ◌&&◌, nat_le, true, IsTrue}
use Rattle.std.proofs.Common.{sym, ◌∙◌, inl, inr, arith}
use Rattle.std.specs.Prelude.{bit_and}
use Rattle.std.specs.Int.Bits.{and_self, and_zero_l, and_zero_r}
use Rattle.std.proofs.Math.Nat.{sub-zero, div_self, zero-div, one-le-pow}
use Rattle.std.proofs.lemmas.Nat.{pow_pos, pow_below}
use Rattle.std.proofs.lemmas.Bool.{eqb-true, eq-eqb, leb-true, le-leb, ltb-true, and_parts, and_from, cases_eq}
use Rattle.field_defs.specs.declared.field.FieldValue.{FieldValue}
use Rattle.field_defs.specs.declared.field.FieldValue.TheVariants.{Mask, Range, Bitmask}
use Rattle.field_defs.specs.FieldBounds.{CanMatch, IsWild, is_wild}
use Rattle.list_lemmas.proofs.Powers.{bytes_as_bits, same_leading_no_bits}

-- a mask with bits stops 0 or the number in which only its last bit is set
no_wild_bits : (value bits size : ℕ) → bits ≢ 0 → bits ≤ 8 * size → IsWild (Mask value bits) size → ⊥
no_wild_bits value bits size some within wild =
    let last : ℕ = 2 ^ (8 * size - bits) in
    let last_fits : last < 256 ^ size = rw (← bytes_as_bits size)
    (pow_below (8 * size - bits) (8 * size) (omega arith)) in
    let at_zero : 0 / last ≡ value / last = eqb-true _ _ (wild 0 (omega arith)) in
    let at_last : last / last ≡ value / last = eqb-true _ _ (wild last last_fits) in
    omega (arith, at_zero, at_last, zero-div last, div_self (pow_pos (8 * size - bits)))

-- a mask lets every number through exactly where it has no bits
mask_is_wild : (value bits size : ℕ) → CanMatch (Mask value bits) size →
    IsTrue (bits == 0) ↔ IsWild (Mask value bits) size
mask_is_wild value bits size can = (
  λ none. rw (eqb-true bits 0 none, sub-zero (8 * size))
      (λ x h. eq-eqb _ _ (same_leading_no_bits value size x (ltb-true _ _ can.within_size) h)),
  λ wild. elim (cases_eq bits 0) [
    | inl e ↦ eq-eqb _ _ e
    | inr some ↦ absurd (no_wild_bits value bits size some (leb-true _ _ can.mask_within) wild)
  ],
)

-- a bitmask that lets 0 and the number of its own bits through has no bit
no_wild_bit : (value mask size : ℕ) → mask < 256 ^ size → IsWild (Bitmask value mask) size → mask ≡ 0
no_wild_bit value mask size fits wild =
    let at_zero : bit_and 0 mask ≡ bit_and value mask = eqb-true _ _ (wild 0 (omega arith)) in
    let at_mask : bit_and mask mask ≡ bit_and value mask = eqb-true _ _ (wild mask fits) in
    sym (and_self mask) ∙ at_mask ∙ sym at_zero ∙ and_zero_l mask

-- a bitmask lets every number through exactly where it has no bit
bitmask_is_wild : (value mask size : ℕ) → CanMatch (Bitmask value mask) size →
    IsTrue (mask == 0) ↔ IsWild (Bitmask value mask) size
bitmask_is_wild value mask size can = (
  λ none. rw (eqb-true mask 0 none) (λ x h. eq-eqb _ _ (and_zero_r x ∙ sym (and_zero_r value))),
  λ wild. eq-eqb _ _ (no_wild_bit value mask size (ltb-true _ _ (and_parts _ _ can.within_size).1) wild),
)

-- a range lets every number through exactly where it goes from 0 to the greatest number
range_is_wild : (low high size : ℕ) → IsTrue (low == 0 && nat_le (256 ^ size) (high + 1)) ↔ IsWild (Range low high) size
range_is_wild low high size = (
  λ whole x below.
      let ends = and_parts (low == 0) _ whole in
      let first : low ≡ 0 = eqb-true low 0 ends.0 in
      let last : 256 ^ size ≤ high + 1 = leb-true _ _ ends.1 in
      and_from _ _ (le-leb low x (omega arith)) (le-leb x high (omega arith)),
  λ wild.
      let some : 0 < 256 ^ size = one-le-pow size 256 (omega arith) in
      let first : nat_le low 0 ≡ true = (and_parts _ _ (wild 0 some)).0 in
      let last : nat_le (256 ^ size - 1) high ≡ true = (and_parts _ _ (wild (256 ^ size - 1) (omega arith))).1 in
      and_from _ _ (eq-eqb low 0 (omega (arith, leb-true low 0 first)))
      (le-leb (256 ^ size) (high + 1) (omega (arith, leb-true (256 ^ size - 1) high last))),
)

-- each kind of value is wild by its numbers exactly where every number matches
pub wild_is_every : (value : FieldValue) (size : ℕ) → CanMatch value size →
    (IsTrue (is_wild value size) ↔ IsWild value size)
wild_is_every (Mask value bits) size can = mask_is_wild value bits size can
wild_is_every (Range low high) size can = range_is_wild low high size
wild_is_every (Bitmask value mask) size can = bitmask_is_wild value mask size can
