-- Numbers, their quotients and remainders, and bounds of them.
use Rattle.std.proofs.lemmas.Bool.{ne_eqb, lt-leb, le-leb, cases_order, eq-eqb}
use Rattle.std.proofs.Common.{leb, inl, inr, ap, arith, eqb, ℕ, ◌≡◌, ◌+◌, ◌-◌, ◌*◌, ◌/◌, ◌%◌, ◌<◌, ◌&&◌, cond, ltb}
use Rattle.std.proofs.Common.{◌≤◌}
use Rattle.std.proofs.Common.{true, ◌||◌, min, max, List, length, subst}
use Rattle.std.proofs.lemmas.Nat.{mod_below, div-mul-add, mod-mul-add}
use Rattle.std.proofs.Math.Nat.{mul-le-mul_right, div-add-mod'}
use Rattle.std.proofs.Math.Arith.{mod-mul}
use Rattle.std.proofs.lemmas.Bool.Decides.{nat_tests}

-- a quotient says in which block a number lies
pub quotient_of_block : (number quotient count : ℕ) → 0 < count →
    eqb (number / count) quotient ≡ (leb (quotient * count) number && leb number (quotient * count + (count - 1)))
quotient_of_block number quotient count positive =
    let whole : number / count * count + number % count ≡ number = div-add-mod' number count in
    let short : number % count < count = mod_below number count positive in
    elim (cases_order (number / count) quotient) [
      | inl same ↦ rw (
        eq-eqb (number / count) quotient same,
        le-leb (quotient * count) number (omega (arith, ap (λ x. x * count) same)),
        le-leb number (quotient * count + (count - 1)) (omega (arith, ap (λ x. x * count) same)),
      )
      | inr other ↦ elim other [
        | inl less ↦ rw (
          ne_eqb (number / count) quotient (λ e. omega arith),
          lt-leb (quotient * count) number (omega (arith, mul-le-mul_right count less)),
        )
        | inr more ↦
            rw (
              ne_eqb (number / count) quotient (λ e. omega arith),
              le-leb (quotient * count) number (omega (arith, mul-le-mul_right count more)),
              lt-leb number (quotient * count + (count - 1)) (omega (arith, mul-le-mul_right count more)),
            )
      ]
    ]

-- the byte of a number before its last `count`th part, from the number alone and from its end
pub byte_of_end : (number count : ℕ) → 0 < count → number % (256 * count) / count ≡ number / count % 256
byte_of_end number count positive =
    let low : number % count < count = mod_below number count positive in
    rw (mod-mul number {m = 256} (omega arith) positive) (div-mul-add (number / count % 256) count (number % count) low)

-- the end of a number's end
pub end_of_end : (number count : ℕ) → 0 < count → number % (256 * count) % count ≡ number % count
end_of_end number count positive =
    let low : number % count < count = mod_below number count positive in
    rw (mod-mul number {m = 256} (omega arith) positive) (mod-mul-add (number / count % 256) count (number % count) low)

-- an end that isn't inner is the least number
pub outermost_low : (low inner : ℕ) → (0 < low → inner ≡ low) → cond (ltb 0 low) inner 0 ≡ low
outermost_low low inner h = grind (arith, nat_tests)

-- or the greatest one
pub outermost_high : (high inner last : ℕ) → high ≤ last → (high < last → inner ≡ high) →
    cond (ltb high last) inner last ≡ high
outermost_high high inner last within h = grind (arith, nat_tests)

-- the leading bits of two halves of 64 bits are those of one number where the second has none or the first has all
pub first_half : (first second : ℕ) → first ≤ 64 → second ≤ 64 → (eqb second 0 || eqb first 64) ≡ true →
    min (first + second) 64 ≡ first
first_half first second one other prefix = grind (arith, nat_tests)

-- and those of the second half are the others
pub second_half : (first second : ℕ) → first ≤ 64 → second ≤ 64 → (eqb second 0 || eqb first 64) ≡ true →
    max (first + second) 64 - 64 ≡ second
second_half first second one other prefix = grind (arith, nat_tests)

-- numbers that are whole parts of a length are so of the same length
pub whole_of_lengths : (xs : List ℕ) (len other : ℕ) → len ≡ other → length xs ≡ length xs / len * len →
    length xs ≡ length xs / other * other
whole_of_lengths xs len other same whole = subst (λ (n : ℕ). length xs ≡ length xs / n * n) same whole
