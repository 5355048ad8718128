-- A list of numbers is read in portions.
use Rattle.std.proofs.Common.{◌≡◌, ℕ, zero, suc, ◌+◌, ◌-◌, ◌*◌, ◌<◌, ◌≤◌, List, [], ◌∷◌, ◌++◌, length, refl, sym, ap}
use Rattle.std.proofs.Common.{◌∙◌, arith, Bool, true, false, Ok, Err, length-append, take, drop, replicate}
use Rattle.std.specs.Prelude.{nat_le, ◌==◌}
use Rattle.std.proofs.lemmas.Bool.Decides.{nat_tests}
use Rattle.std.proofs.lemmas.List.{length-replicate, drop-drop}
use Rattle.std.proofs.Math.Seq.{take-append_seam}
use Rattle.byte_numbers.specs.Number.{number_at, number_of}
use Rattle.table_image.specs.declared.load_fault.ImageKind.{ImageKind}
use Rattle.table_image.specs.declared.load_fault.ImageKind.TheVariants.{Length}
use Rattle.table_image.specs.declared.load_fault.ImageFault.{ImageFault}
use Rattle.table_image.specs.ImageReading.{Reading, ◌>>=◌, checked, field, tested, fault_at, numbers_after}
use Rattle.table_image.proofs.Readings.{check_passed}
use Rattle.table_image.proofs.Loops.{number_cut}

-- readings that agree after the same first part
after_same : {A B C : Type 0} (first : Reading A) (f : A → Reading C) (g : A → Reading B) (h : B → Reading C) →
    ((x : A) → f x ≡ (g x >>= h)) → (first >>= f) ≡ ((first >>= g) >>= h)
after_same (Ok x) f g h each = each x
after_same (Err fault) f g h each = refl

-- numbers are read in two portions
numbers_split : (kind : ImageKind) (size : ℕ) (test : List ℕ → ℕ → Bool) (bytes : List ℕ) (from count other : ℕ)
    (first : List ℕ) →
    numbers_after kind size test bytes from (count + other) first
    ≡ (numbers_after kind size test bytes from count first >>= numbers_after kind size test bytes from other)
unfolding numbers_after
numbers_split kind size test bytes from zero other first =
    let none : zero + other ≡ other = omega arith in
    ap (λ n. numbers_after kind size test bytes from n first) none
numbers_split kind size test bytes from (suc count) other first =
    let more : suc count + other ≡ suc (count + other) = omega arith in
    ap (λ n. numbers_after kind size test bytes from n first) more
    ∙ after_same (tested kind size (test first) bytes (from + size * length first))
    (λ number. numbers_after kind size test bytes from (count + other) (first ++ number ∷ []))
    (λ number. numbers_after kind size test bytes from count (first ++ number ∷ []))
    (numbers_after kind size test bytes from other)
    (λ number. numbers_split kind size test bytes from count other (first ++ number ∷ []))

-- a portion of the numbers after others
module _ (kind : ImageKind) (size : ℕ) (test : List ℕ → ℕ → Bool) (bytes : List ℕ) (from count whole : ℕ)
    (before : List ℕ)
    (few : whole ≤ count) where
  -- numbers are read as a portion, and then the others
  pub two_portions : numbers_after kind size test bytes from count before
      ≡ (numbers_after kind size test bytes from whole before >>= numbers_after kind size test bytes from
      (count - whole))
  two_portions =
      let total : count ≡ whole + (count - whole) = omega arith in
      ap (λ n. numbers_after kind size test bytes from n before) total
      ∙ numbers_split kind size test bytes from whole (count - whole) before

  -- after a portion that is read the others are read
  pub portion_read : (all : List ℕ) → numbers_after kind size test bytes from whole before ≡ Ok all →
      numbers_after kind size test bytes from count before ≡ numbers_after kind size test bytes from (count - whole) all
  portion_read all e = two_portions ∙ rw e refl

  -- a fault of a portion is that of all
  pub portion_fault : (fault : ImageFault) → numbers_after kind size test bytes from whole before ≡ Err fault →
      numbers_after kind size test bytes from count before ≡ Err fault
  portion_fault fault e = two_portions ∙ rw e refl

-- a check failed: its fault is at its place
pub of_failed : {A : Type 0} (passes : Bool) (kind : ImageKind) (at : ℕ) (value : A) (fault : ImageFault) →
    checked passes kind at value ≡ Err fault → (passes ≡ false) × (fault_at kind at ≡ fault)
of_failed true kind at value fault e = absurd cc
of_failed false kind at value fault e = (refl, cc)

-- a number of what stands from a place on
pub number_after : (bytes list : List ℕ) (from at size : ℕ) → list ≡ drop from bytes →
    number_at list at size ≡ number_at bytes (from + at) size
number_after bytes list from at size e =
    ap (λ xs. number_of (take size xs)) (ap (drop at) e ∙ drop-drop at from bytes)

-- the number at the place is whole
pub field_whole : (size : ℕ) (bytes : List ℕ) (at n : ℕ) → at + size ≤ length bytes → n ≡ number_at bytes at size →
    field size bytes at ≡ Ok n
field_whole size bytes at n inside e =
    check_passed (nat_le (at + size) (length bytes)) Length at (number_at bytes at size) (grind (arith, nat_tests))
    ∙ ap Ok (sym e)

-- or it isn't
pub field_cut : (size : ℕ) (bytes : List ℕ) (at : ℕ) → length bytes < at + size →
    field size bytes at ≡ Err (fault_at Length at)
field_cut size bytes at outside =
    let fails : nat_le (at + size) (length bytes) ≡ false = grind (arith, nat_tests) in
    rw fails refl

-- numbers of which the next one isn't whole
pub numbers_cut : (kind : ImageKind) (size : ℕ) (test : List ℕ → ℕ → Bool) (bytes : List ℕ) (from count at : ℕ)
    (first : List ℕ) →
    0 < count → at ≡ from + size * length first → length bytes < at + size →
    numbers_after kind size test bytes from count first ≡ Err (fault_at Length at)
numbers_cut kind size test bytes from count at first some here outside =
    number_cut kind size test bytes from count (count - 1) at first (omega arith) here (fault_at Length at)
    (field_cut size bytes at outside)

-- a list with zeros after it, into which numbers are read: how many, and after which
pub record Slots (old filled : List ℕ) (start whole : ℕ) : Type 0 where
  pub total : length filled ≡ start + whole
  pub count : whole ≡ length filled - start
  pub before : old ≡ take start filled

-- zeros after a list are room for as many numbers
pub slots_of : (old filled : List ℕ) (start whole : ℕ) → filled ≡ old ++ replicate whole 0 → start ≡ length old →
    Slots old filled start whole
slots_of old filled start whole e f =
    let len : length filled ≡ length old + whole =
    ap length e ∙ length-append old (replicate whole 0) ∙ ap (λ n. length old + n) (length-replicate whole 0) in
    record {
      total = omega arith;
      count = omega arith;
      before = sym (ap (take start) e ∙ ap (λ n. take n (old ++ replicate whole 0)) f
          ∙ take-append_seam old (replicate whole 0));
    }

-- fewer, and as many
pub are_fewer : (whole count : ℕ) → whole ≤ count → (whole == count) ≡ false → whole < count
are_fewer whole count few e = grind (arith, nat_tests)

-- none is lacking if there are as many as were asked for
pub are_all : (whole count : ℕ) → (whole == count) ≡ true → count - whole ≡ 0
are_all whole count e = grind (arith, nat_tests)

-- a whole list is written back
pub written_back : (len : ℕ) (new old : List ℕ) → length new ≡ len → take len (new ++ drop (length new) old) ≡ new
written_back len new old e =
    ap (λ n. take n (new ++ drop (length new) old)) (sym e) ∙ take-append_seam new (drop (length new) old)
