-- Readings one after the other.
use Rattle.std.proofs.Common.{◌≡◌, ℕ, refl, Bool, true, false, Ok, Err}
use Rattle.table_image.specs.declared.load_fault.ImageKind.{ImageKind}
use Rattle.table_image.specs.ImageReading.{Reading, ◌>>=◌, checked}

-- a reading of two parts gave a value: so did the first, and the second after it
pub of_both : {A B : Type 0} (first : Reading A) (second : A → Reading B) (value : B) → (first >>= second) ≡ Ok value →
    (x : A) × (first ≡ Ok x) × (second x ≡ Ok value)
of_both (Ok x) second value e = (x, refl, e)
of_both (Err fault) second value e = absurd cc

-- two readings that follow one another come to what the second one comes to
pub both : {A B : Type 0} (first : Reading A) (second : A → Reading B) (x : A) (result : Reading B) → first ≡ Ok x →
    second x ≡ result → (first >>= second) ≡ result
both first second x result e f = rw e f

-- a check gave a value: it passed
pub of_check : {A : Type 0} (passes : Bool) (kind : ImageKind) (at : ℕ) (value result : A) →
    checked passes kind at value ≡ Ok result → (passes ≡ true) × (value ≡ result)
of_check true kind at value result e = (refl, cc)
of_check false kind at value result e = absurd cc

-- a check that passes gives its value
pub check_passed : {A : Type 0} (passes : Bool) (kind : ImageKind) (at : ℕ) (value : A) → passes ≡ true →
    checked passes kind at value ≡ Ok value
check_passed passes kind at value e = rw e refl
