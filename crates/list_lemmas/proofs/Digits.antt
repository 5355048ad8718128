-- What a number is written as: its digits, and how many there are.
use Rattle.std.proofs.Common.{Bool, suc, inl, inr, refl, zero, eqb, List, false, sym, ℕ, append_assoc, ◌≡◌, ◌/◌, ◌%◌}
use Rattle.std.proofs.Common.{[], ◌∷◌, ◌++◌, arith, ◌^◌, ◌<◌, ◌≤◌, ap, ◌∙◌, ◌*◌, length, decimal, ◌+◌, true}
use Rattle.std.proofs.lemmas.Bool.{and_from, cases_Bool, eqb-false, ne_eqb, cond-false, cases_lt, ltb-false, le-ltb}
use Rattle.std.proofs.lemmas.Bool.{ltb-true, lt-ltb}
use Rattle.std.specs.Fmt.{digit_glyph, digits_onto, digits}
use Rattle.std.proofs.lemmas.Nat.{div_below, le-div}
use Rattle.std.proofs.Math.Nat.{pow-suc, mul-le-mul_left, mod-eq_of_lt, div-eq_of_lt, pow-zero, one-mul, div-le_self}
use Rattle.std.proofs.lemmas.List.{length_push}
use Rattle.std.proofs.lemmas.Fmt.{length-decimal-le, decimal_nonempty, decimal_step, decimal_is_IsNumeral}
use Rattle.std.specs.List.{list_all}
use Rattle.std.specs.Str.Parse.{AllDigits}
use Rattle.list_lemmas.proofs.Elements.{list_all_weaker}
use Rattle.std.specs.Char.{is_digit, digit_value}

-- what stands after the digits doesn't change them
pub digits_onto-append : (fuel base n : ℕ) (after : List ℕ)
    → digits_onto fuel base false n after ≡ digits_onto fuel base false n [] ++ after
digits_onto-append zero base n after = refl
digits_onto-append (suc fuel) base n after =
    elim (cases_Bool (eqb (n / base) 0)) [
      | inl e ↦ rw e refl
      | inr e ↦ rw e
          (rw (
            digits_onto-append fuel base (n / base)
                (digit_glyph false (n % base) ∷ after),
            digits_onto-append fuel base (n / base)
                (digit_glyph false (n % base) ∷ []),
          )
          (sym (append_assoc (digits_onto fuel base false (n / base) []) (digit_glyph false (n % base) ∷ []) after)))
    ]

-- the quotient needs one bit less
pub quotient_below : (k base n : ℕ) → 2 ≤ base → n < 2 ^ suc k → n / base < 2 ^ k
quotient_below k base n low small =
    div_below n base (2 ^ k) (omega arith) (omega (arith, pow-suc 2 k, mul-le-mul_left (2 ^ k) low))

-- a number above 0 that so many bits hold needs one of them
pub some_bits : (k n : ℕ) → (n ≡ 0 → ⊥) → n < 2 ^ k → 0 < k
some_bits zero n some small = absurd (some (omega arith))
some_bits (suc k) n some small = omega arith

-- more steps than digits change nothing
pub digits_onto_steps : (fuel more base n : ℕ) (after : List ℕ) → 2 ≤ base → n < 2 ^ fuel → n < 2 ^ more → 0 < fuel
    → 0 < more → digits_onto fuel base false n after ≡ digits_onto more base false n after
digits_onto_steps zero more base n after low small small' some some' = absurd (omega arith)
digits_onto_steps (suc fuel) zero base n after low small small' some some' = absurd (omega arith)
digits_onto_steps (suc fuel) (suc more) base n after low small small' some some' =
    elim (cases_Bool (eqb (n / base) 0)) [
      | inl e ↦ rw e refl
      | inr e ↦
          let below = quotient_below fuel base n low small in
          let below' = quotient_below more base n low small' in
          rw e (digits_onto_steps fuel more base (n / base) (digit_glyph false (n % base) ∷ after) low below below'
          (some_bits fuel (n / base) (eqb-false (n / base) 0 e) below)
          (some_bits more (n / base) (eqb-false (n / base) 0 e) below'))
    ]

-- the last of several digits stands after the digits of the quotient
pub digits_onto_last : (fuel base n : ℕ) → 2 ≤ base → (n / base ≡ 0 → ⊥) → n / base < 2 ^ fuel
    → digits_onto (suc fuel) base false n [] ≡ digits_onto (suc fuel) base false (n / base) [] ++ digit_glyph false
    (n % base) ∷ []
digits_onto_last fuel base n low some small =
    let tested : eqb (n / base) 0 ≡ false = ne_eqb _ 0 some in
    let wider : n / base < 2 ^ suc fuel = omega (arith, pow-suc 2 fuel) in
    cond-false (eqb (n / base) 0) _ _ tested
    ∙ digits_onto-append fuel base (n / base) (digit_glyph false (n % base) ∷ [])
    ∙ ap (λ ds. ds ++ digit_glyph false (n % base) ∷ [])
    (digits_onto_steps fuel (suc fuel) base (n / base) [] low small wider (some_bits fuel (n / base) some small)
    (omega arith))

-- one digit
pub digits_one : (base n : ℕ) → 2 ≤ base → n < base → digits base false n ≡ digit_glyph false n ∷ []
unfolding digits
digits_one base n low small = rw (div-eq_of_lt small, mod-eq_of_lt small) refl

-- more than one digit
pub digits_more : (base n : ℕ) → 2 ≤ base → base ≤ n → n < 2 ^ 16
    → digits base false n ≡ digits base false (n / base) ++ digit_glyph false (n % base) ∷ []
unfolding digits
digits_more base n low large small =
    let some : 1 ≤ n / base = le-div 1 n base (omega arith) (omega arith) in
    let quotient : n / base < 2 ^ 16 = quotient_below 16 base n low (omega arith) in
    digits_onto_last 63 base n low (λ e. omega arith) (omega arith)

-- so it has one digit more than its quotient
pub length-digits-more : (base n : ℕ) → 2 ≤ base → base ≤ n → n < 2 ^ 16
    → length (digits base false n) ≡ length (digits base false (n / base)) + 1
length-digits-more base n low large small = ap length (digits_more base n low large small)
    ∙ length_push (digits base false (n / base)) (digit_glyph false (n % base))

-- a number is its first power
pub power_one : (base : ℕ) → base ^ 1 ≡ base
power_one base = pow-suc base 0 ∙ ap (λ n. n * base) (pow-zero base) ∙ one-mul base

-- a number below the power of the base has no more digits than the power says
pub length-digits-le : (base k n : ℕ) → 2 ≤ base → n < base ^ suc k → n < 2 ^ 16 → length (digits base false n) ≤ suc k
length-digits-le base zero n low below small =
    omega (arith, ap length (digits_one base n low (omega (arith, power_one base))))
length-digits-le base (suc k) n low below small =
    elim (cases_lt n base) [
      | inl one ↦ omega (arith, ap length (digits_one base n low one))
      | inr more ↦
          let quotient : n / base < base ^ suc k =
          div_below n base (base ^ suc k) (omega arith) (omega (arith, pow-suc base (suc k))) in
          let smaller : n / base < 2 ^ 16 = omega (arith, div-le_self n base) in
          omega (
            arith,
            length-digits-more base n low more small,
            length-digits-le base k (n / base) low quotient smaller,
          )
    ]

-- a number of 64 bits has at most 20 digits
pub long_digits : (n : ℕ) → n < 2 ^ 64 → length (decimal n) ≤ 20
long_digits n fits = length-decimal-le 20 n (omega arith) (omega (arith, fits)) fits

-- and one of 32 bits at most 10
pub short_digits : (n : ℕ) → n < 2 ^ 32 → length (decimal n) ≤ 10
short_digits n fits = length-decimal-le 10 n (omega arith) (omega (arith, fits)) (omega (arith, fits))

-- a power of ten is above 0
pub power_above_0 : (k : ℕ) → 0 < 10 ^ k
power_above_0 zero = omega arith
power_above_0 (suc k) = omega (arith, power_above_0 k)

-- a number from a power of ten on has more digits than its exponent
pub many_digits : (k n : ℕ) → n < 2 ^ 64 → 10 ^ k ≤ n → k < length (decimal n)
many_digits zero n fits low = decimal_nonempty n fits
many_digits (suc k) n fits low =
    let power : 10 ^ suc k ≡ 10 * 10 ^ k = omega arith in
    let tens : 10 ^ k ≤ n / 10 = omega (arith, low, power) in
    omega (
      arith,
      ap length (decimal_step n (omega (arith, low, power, power_above_0 k)) fits),
      length_push (decimal (n / 10)) (48 + n % 10),
      many_digits k (n / 10) (omega (arith, fits)) tens,
    )

-- so its digits are counted between two powers of ten
pub digits_between : (k n : ℕ) → n < 2 ^ 64 → 10 ^ k ≤ n → n < 10 * 10 ^ k → k + 1 ≡ length (decimal n)
digits_between k n fits low high =
    let power : 10 ^ suc k ≡ 10 * 10 ^ k = omega arith in
    let most = length-decimal-le (suc k) n (omega arith) (omega (arith, high, power)) fits in
    omega (arith, most, many_digits k n fits low)

-- what is no hexadecimal digit is no decimal one
pub no_decimal : (c : ℕ) → is_digit c 16 ≡ false → is_digit c 10 ≡ false
no_decimal c none = le-ltb (digit_value c) 10 (omega (arith, ltb-false (digit_value c) 16 none))

-- and what is a decimal digit is a hexadecimal one
pub digit_16 : (c : ℕ) → is_digit c 10 ≡ true → is_digit c 16 ≡ true
digit_16 c digit = lt-ltb (digit_value c) 16 (omega (arith, ltb-true (digit_value c) 10 digit))

-- digits of a base, as a test of each byte
pub list_all-digits : (base : ℕ) (text : List ℕ) → AllDigits base text → list_all (λ c. is_digit c base) text ≡ true
list_all-digits base [] all = refl
list_all-digits base (c ∷ cs) all =
    and_from (is_digit c base) _ (lt-ltb (digit_value c) base all.0) (list_all-digits base cs all.1)

-- what all decimal digits pass, a number in decimal passes
pub decimal_all : (p : ℕ → Bool) → ((c : ℕ) → is_digit c 10 ≡ true → p c ≡ true) → (n : ℕ) → n < 2 ^ 64
    → list_all p (decimal n) ≡ true
decimal_all p weaker n small = list_all_weaker (λ c. is_digit c 10) p (decimal n) weaker
    (list_all-digits 10 (decimal n) (decimal_is_IsNumeral n small).0.1)
