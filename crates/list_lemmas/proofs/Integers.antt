-- The order of whole numbers, as a test.
use Rattle.std.proofs.Common.{◌≡◌, ℕ, ℤ, pos, negsuc, true, false, refl, arith}
use Rattle.std.specs.Int.Signed.{le_z}
use Rattle.std.proofs.lemmas.Int.{ints}

-- a number is at most itself
pub le_z_refl : (a : ℤ) → le_z a a ≡ true
le_z_refl a = grind (arith, ints)

-- at most what is at most another is at most that one
pub le_z_trans : (a b c : ℤ) → le_z a b ≡ true → le_z b c ≡ true → le_z a c ≡ true
le_z_trans a b c h k = grind (arith, ints)

-- of two numbers one is at most the other
pub le_z_total : (a b : ℤ) → le_z a b ≡ false → le_z b a ≡ true
le_z_total a b h = grind (arith, ints)

-- numbers at most each other are one
pub le_z_both : (a b : ℤ) → le_z a b ≡ true → le_z b a ≡ true → a ≡ b
le_z_both a b h k = grind (arith, ints)

-- a whole number that isn't negative is a natural one
pub natural_from_le_z : (z : ℤ) → le_z (pos 0) z ≡ true → (n : ℕ) × (z ≡ pos n)
natural_from_le_z (pos n) h = (n, refl)
natural_from_le_z (negsuc n) h = absurd (cc)
