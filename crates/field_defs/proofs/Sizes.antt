-- Which numbers are numbers of a size.
use Rattle.std.proofs.Common.{IsTrue, ℕ, ◌<◌, ◌≤◌, arith}
use Rattle.std.proofs.lemmas.Bool.Decides.{nat_tests}
use Rattle.field_defs.specs.FieldBounds.{is_size}

-- a field has at least one byte and at most eight
pub size_at_most_8 : (size : ℕ) → IsTrue (is_size size) → size ≤ 8
size_at_most_8 size is = grind (arith, nat_tests)

-- a size is at least one byte
pub size_at_least_1 : (size : ℕ) → IsTrue (is_size size) → 0 < size
size_at_least_1 size is = grind (arith, nat_tests)
