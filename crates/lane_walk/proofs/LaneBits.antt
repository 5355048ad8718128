-- The bits of a mask of lanes: how many are set below one, and which is the least.
use Rattle.std.proofs.Common.{◌≡◌, ℕ, zero, suc, ◌+◌, ◌/◌, ◌%◌, ◌^◌, refl, ◌<◌, ◌≤◌, ap, ◌∙◌, arith, w64}
use lib.Count.{ones_step}
use Rattle.std.specs.Int.{bit_at, trailing_zeros}
use Rattle.std.specs.Int.RustNames.{count_ones}
use Rattle.std.proofs.lemmas.Nat.{ones_le_self}
use Rattle.std.proofs.lemmas.Nat.Bits.{bit_at-lt, bit_at-suc, bit_at-trailing_zeros, bit_at-zero, bit_at_lowest}
use Rattle.lane_walk.specs.Fleet.{set_below}

-- where no bit is set from one on and before another, as many are set below both
pub below_same : (mask from more : ℕ) → ((lane : ℕ) → from ≤ lane → lane < from + more → bit_at mask lane ≡ 0) →
    set_below mask (from + more) ≡ set_below mask from
unfolding set_below
below_same mask from zero none = let same : from + 0 ≡ from = omega arith in ap (set_below mask) same
below_same mask from (suc more) none =
    let next : from + suc more ≡ suc (from + more) = omega arith in
    ap (set_below mask) next
    ∙ omega (
      arith,
      none (from + more) (omega arith) (omega arith),
      below_same mask from more (λ lane past less. none lane past (omega (arith, less))),
    )

-- one bit more
pub below_more : (mask n : ℕ) → set_below mask (n + 1) ≡ set_below mask n + bit_at mask n
unfolding set_below
below_more mask n = let next : n + 1 ≡ suc n = omega arith in ap (set_below mask) next

-- no more bits are set than there are
pub below_few : (mask n : ℕ) → set_below mask n ≤ n
unfolding set_below
below_few mask zero = omega arith
below_few mask (suc n) = omega (arith, below_few mask n, bit_at-lt mask n)

-- of no bits none is set
pub below_none : (n : ℕ) → set_below 0 n ≡ 0
unfolding set_below
below_none zero = refl
below_none (suc n) = omega (arith, below_none n, bit_at-zero n)

-- the lowest bit, and those of the half
below_half : (mask n : ℕ) → set_below mask (suc n) ≡ mask % 2 + set_below (mask / 2) n
unfolding set_below
below_half mask zero = omega (arith, bit_at_lowest mask)
below_half mask (suc n) = omega (arith, below_half mask n, bit_at-suc mask n)

-- all bits that are set are below the width of the number
pub ones_below : (n mask : ℕ) → mask < 2 ^ n → count_ones mask ≡ set_below mask n
unfolding set_below
ones_below zero mask few = omega (arith, few, ones_le_self mask)
ones_below (suc n) mask few =
    omega (arith, ones_step mask, ones_below n (mask / 2) (omega (arith, few)), below_half mask n)

-- what is known of the least bit that is set
pub record IsLeast (rest lane : ℕ) : Type 0 where
  pub small : lane < 64
  pub is_one : bit_at rest lane ≡ 1
  pub before : (other : ℕ) → other < lane → bit_at rest other ≡ 0

-- trailing zeros find it
pub least_bit : (rest : ℕ) → (rest ≡ 0 → ⊥) → rest < 2 ^ 64 → IsLeast rest (trailing_zeros w64 rest)
least_bit rest some fits =
    let more : 0 < rest = omega (arith, some) in
    let found = bit_at-trailing_zeros w64 rest more fits in
    record { small = found.0; is_one = found.1; before = found.2 }
