-- Bits that agree under a mask, marks between two ends, and options.
use Rattle.std.proofs.Common.{◌≡◌, ℕ, ◌+◌, ◌-◌, ◌*◌, ◌/◌, ◌%◌, ◌^◌, ◌<◌, ◌≤◌, min, max, Bool, true, false, cond}
use Rattle.std.proofs.Common.{◌&&◌, ◌||◌, eqb, ltb, Option, Some, None, IsSome, IfSome, refl, sym, ◌∙◌, ap, arith}
use Rattle.std.proofs.Common.{inl, inr}
use Rattle.std.specs.Prelude.{bit_and, bit_or}
use Rattle.std.specs.Int.Bits.{and_self, and_zero_r, or_add_and}
use Rattle.std.proofs.Math.Nat.{mul_comm, div-div-eq-div-mul, mul-le-mul_right}
use Rattle.std.proofs.lemmas.Nat.{and_le_l, and_comm, and_assoc, and-not, and_or_apart, div-add-mod', mod_below}
use Rattle.std.proofs.lemmas.Nat.{pow-add, pow_pos, shr_below, same_from_place}
use Rattle.std.proofs.lemmas.Bool.{cases_eq, eqb-true, eq-eqb, ne_eqb, le-ltb}
use Rattle.std.proofs.lemmas.Bool.Decides.{nat_tests}
use Rattle.list_lemmas.proofs.Numbers.{byte_of_end}
use Rattle.list_lemmas.proofs.Tests.{marks_in_turn}
use Rattle.list_lemmas.proofs.Bits.{agree_by_byte, shared_by_block, shared_in_blocks}
use Rattle.list_lemmas.proofs.Powers.{bytes_as_bits}

-- what isn't there is none
pub none_from : {A : Type 0} (found : Option A) → (IsSome found → ⊥) → found ≡ None
none_from None never = refl
none_from (Some x) never = absurd (never refl)

-- where an answer is, its test holds
pub test_of : {A : Type 0} (test : Bool) (x : A) → IsSome (cond test (Some x) None) → test ≡ true
test_of true x h = refl
test_of false x h = absurd (cc)

-- what holds of whatever an option is holds of its value
pub IfSome_from : {A : Type 0} (found : Option A) {P : A → Type 0} → ((x : A) → found ≡ Some x → P x) → IfSome found P
IfSome_from None holds = tt
IfSome_from (Some x) holds = holds x refl

-- the bits of two numbers that a mask's leading part lets through are the same
abbrev pub agrees : ℕ → ℕ → ℕ → ℕ → Bool
agrees value mask count prefix = eqb (bit_and prefix (mask / count)) (bit_and (value / count) (mask / count))

-- the same before a last part of `count` numbers
pub agree_in_two : (value mask count prefix byte : ℕ) → 0 < count → byte < 256 →
    agrees value mask count (prefix * 256 + byte)
    ≡ (agrees value mask (256 * count) prefix && agrees (value % (256 * count)) (mask % (256 * count)) count byte)
agree_in_two value mask count prefix byte positive below =
    let order : 256 * count ≡ count * 256 = mul_comm 256 count in
    let shorter : (n : ℕ) → n / (256 * count) ≡ n / count / 256 = λ n.
    rw order (sym (div-div-eq-div-mul n count 256)) in
    rw (byte_of_end value count positive, byte_of_end mask count positive, shorter value, shorter mask)
    (agree_by_byte (value / count) (mask / count) prefix byte below)

-- a prefix that agrees is completed by the value's last bits
pub completed_bits : (value mask bits prefix : ℕ) → agrees value mask (2 ^ bits) prefix ≡ true →
    eqb (bit_and (prefix * 2 ^ bits + value % 2 ^ bits) mask) (bit_and value mask) ≡ true
completed_bits value mask bits prefix agree =
    eq-eqb _ _ (rw (
      shared_by_block bits prefix (value % 2 ^ bits) mask (mod_below value (2 ^ bits) (pow_pos bits)),
      shared_in_blocks bits value mask,
      eqb-true _ _ agree,
    ) refl)

-- and no other prefix is completed
pub bits_agree : (value mask bits prefix number : ℕ) → number < 2 ^ bits →
    eqb (bit_and (prefix * 2 ^ bits + number) mask) (bit_and value mask) ≡ true →
    agrees value mask (2 ^ bits) prefix ≡ true
bits_agree value mask bits prefix number below matches =
    let last : value % 2 ^ bits < 2 ^ bits = mod_below value (2 ^ bits) (pow_pos bits) in
    let same = sym (shared_by_block bits prefix number mask below) ∙ eqb-true _ _ matches
    ∙ shared_in_blocks bits value mask in
    eq-eqb _ _ (same_from_place _ _ _ _ (2 ^ bits) (omega (arith, and_le_l number (mask % 2 ^ bits)))
    (omega (arith, and_le_l (value % 2 ^ bits) (mask % 2 ^ bits))) same).0

-- the bytes that agree with a masked value lie between the value and the value with all other bits set
module _ (value mask : ℕ) (value_fits : value < 256) (mask_fits : mask < 256)
    (inside : bit_and value mask ≡ value) where
  -- a byte shares no bit with what it lacks
  apart : bit_and (255 - mask) mask ≡ 0
  apart = omega (arith, and-not 8 mask mask mask_fits mask_fits, and_self mask)

  -- a masked value shares no bit with what the mask lacks
  value_apart : bit_and value (255 - mask) ≡ 0
  value_apart =
      ap (λ n. bit_and n (255 - mask)) (sym inside)
      ∙ and_assoc (255 - mask) value mask
      ∙ ap (bit_and value) (and_comm mask (255 - mask) ∙ apart)
      ∙ and_zero_r value

  -- the value with all other bits set agrees
  pub last_agrees : bit_and (bit_or value (255 - mask)) mask ≡ value
  last_agrees = and_or_apart mask value (255 - mask) apart ∙ inside

  -- and what agrees lies between
  pub agreeing_between : (byte : ℕ) → byte < 256 → bit_and byte mask ≡ value →
      (value ≤ byte) × (byte ≤ bit_or value (255 - mask))
  agreeing_between byte below agrees = (
    omega (arith, and_le_l byte mask, agrees),
    omega (
      arith,
      and-not 8 mask byte mask_fits below,
      and_comm mask byte,
      agrees,
      and_le_l (255 - mask) byte,
      or_add_and value (255 - mask),
      value_apart,
    ),
  )

-- whether the numbers from a first one on lie above the first of their block
pub low_in_block : (low count byte : ℕ) → low / count ≤ byte → 0 < count →
    ltb 0 (max low (byte * count) - byte * count) ≡ (eqb byte (low / count) && ltb 0 (low % count))
low_in_block low count byte reached positive =
    let split = div-add-mod' low count in
    let end : low % count < count = mod_below low count positive in
    elim (cases_eq byte (low / count)) [
      | inl here ↦
          let left : max low (byte * count) - byte * count ≡ low % count =
          omega (arith, ap (λ n. n * count) here) in
          rw (eq-eqb byte (low / count) here, left) refl
      | inr after ↦
          let next : (low / count + 1) * count ≤ byte * count = mul-le-mul_right count (omega arith) in
          let left : max low (byte * count) - byte * count ≡ 0 = omega arith in
          rw (ne_eqb byte (low / count) after, left) refl
    ]

-- whether the numbers up to a last one end below the last of their block
pub high_in_block : (high count byte : ℕ) → byte ≤ high / count → 0 < count →
    ltb (min high (byte * count + (count - 1)) - byte * count) (count - 1)
    ≡ (eqb byte (high / count) && ltb (high % count) (count - 1))
high_in_block high count byte within positive =
    let split = div-add-mod' high count in
    let end : high % count < count = mod_below high count positive in
    elim (cases_eq byte (high / count)) [
      | inl here ↦
          let left : min high (byte * count + (count - 1)) - byte * count ≡ high % count =
          omega (arith, ap (λ n. n * count) here) in
          rw (eq-eqb byte (high / count) here, left) refl
      | inr before ↦
          let next : (byte + 1) * count ≤ high / count * count = mul-le-mul_right count (omega arith) in
          let left : min high (byte * count + (count - 1)) - byte * count ≡ count - 1 = omega arith in
          rw (ne_eqb byte (high / count) before, left) (le-ltb (count - 1) (count - 1) (omega arith))
    ]

-- the greatest number with the leading bits of another is of as many bytes
pub leading_within : (value bits size : ℕ) → bits ≤ 8 * size → value < 256 ^ size →
    value / 2 ^ (8 * size - bits) * 2 ^ (8 * size - bits) + (2 ^ (8 * size - bits) - 1) < 256 ^ size
leading_within value bits size within fits =
    let parts : bits + (8 * size - bits) ≡ 8 * size = omega arith in
    let whole : 2 ^ (8 * size) ≡ 2 ^ bits * 2 ^ (8 * size - bits) = rw parts at (pow-add 2 bits (8 * size - bits)) in
    let short : value < 2 ^ (bits + (8 * size - bits)) = rw (parts, bytes_as_bits size) fits in
    let quotient : value / 2 ^ (8 * size - bits) < 2 ^ bits = shr_below value bits (8 * size - bits) short in
    rw (← bytes_as_bits size) (omega (
      arith,
      whole,
      mul-le-mul_right (2 ^ (8 * size - bits)) quotient,
      pow_pos (8 * size - bits),
    ))

-- the marks of the bytes between two ends: at the lower end and after the upper one, and next to an inner end within
abbrev pub is_marked : ℕ → ℕ → Bool → Bool → ℕ → Bool
is_marked low high low_inner high_inner byte =
    (eqb byte (high + 1) && ltb high 255)
    || ((eqb byte high && (ltb low high && high_inner)) ||
    ((eqb byte (low + 1) && (ltb low high && low_inner)) || (eqb byte low && ltb 0 low)))

-- they are set one after the other, over the marks that were set before
pub marks_in_order : (low high : ℕ) (low_inner high_inner : Bool) (byte : ℕ) (old : Bool) →
    ((eqb byte (high + 1) && ltb high 255) ||
    ((eqb byte high && (ltb low high && high_inner)) ||
    ((eqb byte (low + 1) && (ltb low high && low_inner)) || ((eqb byte low && ltb 0 low) || old))))
    ≡ (is_marked low high low_inner high_inner byte || old)
marks_in_order low high low_inner high_inner byte old =
    marks_in_turn (eqb byte (high + 1) && ltb high 255) (eqb byte high && (ltb low high && high_inner))
    (eqb byte (low + 1) && (ltb low high && low_inner)) (eqb byte low && ltb 0 low) old

-- No byte after the one is marked up to the last one, and the byte after that is.
pub record MarkedNext (low high : ℕ) (low_inner high_inner : Bool) (byte last : ℕ) : Type 0 where
  pub ordered : byte ≤ last
  pub unmarked : (other : ℕ) → byte < other → other ≤ last → is_marked low high low_inner high_inner other ≡ false
  pub marked : last < 255 → is_marked low high low_inner high_inner (last + 1) ≡ true

-- the next mark after a byte, by where the byte lies
module _ (low high byte : ℕ) (low_inner high_inner : Bool) (filled : low ≤ high) (fits : high < 256) where
  -- before the lower end it is the byte in front of the end
  pub next_before : byte < low → MarkedNext low high low_inner high_inner byte (low - 1)
  next_before before = record {
    ordered = omega arith;
    unmarked = λ other above below. grind (arith, nat_tests);
    marked = λ more. grind (arith, nat_tests);
  }

  -- after the upper end there is none
  pub next_after : high < byte → byte < 256 → MarkedNext low high low_inner high_inner byte 255
  next_after after small = record {
    ordered = omega arith;
    unmarked = λ other above below. grind (arith, nat_tests);
    marked = λ more. absurd (omega (arith, more));
  }

  -- at a lower end that is inner it is the end alone
  pub next_low : byte ≡ low → low < high → low_inner ≡ true → MarkedNext low high low_inner high_inner byte low
  next_low here below inner = record {
    ordered = omega arith;
    unmarked = λ other above at_most. absurd (omega (arith, here, above, at_most));
    marked = λ more. grind (arith, nat_tests);
  }

  -- within, it is the byte before an upper end that is inner
  pub next_inside : low ≤ byte → byte < high → high_inner ≡ true → (byte ≡ low → low_inner ≡ false) →
      MarkedNext low high low_inner high_inner byte (high - 1)
  next_inside above below inner free = record {
    ordered = omega arith;
    unmarked = λ other more at_most. elim (cases_eq byte low) [
      | inl e ↦ rw (free e) (grind (arith, nat_tests))
      | inr differ ↦ grind (arith, nat_tests)
    ];
    marked = λ more. grind (arith, nat_tests);
  }

  -- and else the upper end
  pub next_high : low ≤ byte → byte ≤ high → (byte < high → high_inner ≡ false) →
      (byte ≡ low → low < high → low_inner ≡ false) → MarkedNext low high low_inner high_inner byte high
  next_high above within closed free = record {
    ordered = within;
    unmarked = λ other more at_most. rw (closed (omega (arith, more, at_most))) (elim (cases_eq byte low) [
      | inl e ↦ rw (free e (omega (arith, e, more, at_most))) (grind (arith, nat_tests))
      | inr differ ↦ grind (arith, nat_tests)
    ]);
    marked = λ more. grind (arith, nat_tests);
  }
