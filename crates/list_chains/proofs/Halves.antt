-- Blocks of a span by what it takes, and powers of two as code writes them.
use Rattle.std.proofs.Common.{◌≡◌, ℕ, zero, suc, ◌+◌, ◌-◌, ◌^◌, ◌≤◌, ◌<◌, ◌++◌, false, refl, arith}
use Rattle.std.proofs.Math.Nat.{pow-le-pow_right, two-pow-succ}
use Rattle.std.proofs.lemmas.Bool.Decides.{leb_tells}
use Rattle.field_defs.specs.declared.field.FieldValue.{FieldValue}
use Rattle.list_chains.specs.declared.span.Span.{Span}
use Rattle.list_chains.specs.Values.{takes_all, takes_none, blocks_of}

-- a power up to the 64th
pub power_small : (n : ℕ) → n ≤ 64 → 2 ^ n ≤ 18446744073709551616
power_small n small = pow-le-pow_right (omega arith) {i = n} {j = 64} small

-- no power is above one of a greater exponent
pub power_within : (m n : ℕ) → m ≤ n → 2 ^ m ≤ 2 ^ n
power_within m n within = pow-le-pow_right (omega arith) within

-- a power of less than 64 is below half
pub power_half : (n : ℕ) → 0 < n → 2 ^ n ≡ 2 ^ (n - 1) + 2 ^ (n - 1)
power_half zero some = absurd (omega (arith, some))
power_half (suc n) some = let e : suc n - 1 ≡ n = omega arith in rw e (two-pow-succ n)

-- a block of one number is taken or not
pub some_free : (free base : ℕ) (span : Span) → takes_all base free span ≡ false → takes_none base free span ≡ false →
    0 < free
some_free zero base span all none = absurd (grind (
  arith,
  leb_tells span.low base,
  leb_tells (base + 2 ^ 0) (span.high + 1),
  leb_tells base span.high,
  leb_tells (suc span.high) base,
  leb_tells (base + 2 ^ 0) span.low,
  all,
  none,
))
some_free (suc free) base span all none = omega arith

-- any other is two halves
pub blocks_both : (value : ℕ → ℕ → FieldValue) (free base : ℕ) (span : Span) → takes_all base free span ≡ false →
    takes_none base free span ≡ false →
    blocks_of value free base span
    ≡ blocks_of value (free - 1) base span ++ blocks_of value (free - 1) (base + 2 ^ (free - 1)) span
blocks_both value zero base span all none = absurd (let some = some_free 0 base span all none in omega (arith, some))
blocks_both value (suc free) base span all none =
    let e : suc free - 1 ≡ free = omega arith in
    rw (all, none, e) refl
