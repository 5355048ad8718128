-- Tests: what their answers say, two tests at once, and marks that are set one after the other.
use Rattle.std.proofs.Common.{◌≡◌, ℕ, ◌+◌, ◌<◌, ◌≤◌, List, Bool, true, false, ◌&&◌, ◌||◌, cond, eqb, ltb, Some, None}
use Rattle.std.proofs.Common.{refl}
use Rattle.std.proofs.Common.{sym, ap, ◌∙◌, inl, inr, arith}
use Rattle.std.proofs.lemmas.Bool.{cases_eq, ne_eqb, false≢true}
use Rattle.std.proofs.lemmas.Bool.Decides.{nat_tests}
use Rattle.std.proofs.lemmas.Slice.Eq.{bytes_eq-Decides}
use Rattle.std.specs.Str.{bytes_eq}

-- a value was answered, so the test passed, and it is the value
pub test_passed : {A : Type 0} (test : Bool) (value answer : A) → Some answer ≡ cond test (Some value) None
    → (test ≡ true) × (answer ≡ value)
test_passed true value answer is = (refl, cc)
test_passed false value answer is = cc

-- none was answered, so the test failed
pub test_failed : {A : Type 0} (test : Bool) (value : A) → None ≡ cond test (Some value) None → test ≡ false
test_failed true value is = cc
test_failed false value is = refl

-- two tests failed together, and the first one passed, so the second failed
pub second_failed : (first second : Bool) → (first && second) ≡ false → first ≡ true → second ≡ false
second_failed true second both passed = both
second_failed false second both passed = cc

-- a test together with one that always passes is the test
pub and_true : (test : Bool) → (test && true) ≡ test
and_true true = refl
and_true false = refl

-- and together with one that always fails it fails
pub and_false : (test : Bool) → (test && false) ≡ false
and_false true = refl
and_false false = refl

-- and where it or one that always passes has to pass, that is so
pub or_true : (b : Bool) → (b || true) ≡ true
or_true true = refl
or_true false = refl

-- two tests that hold together are one
pub same_truth : (one other : Bool) → (one ≡ true → other ≡ true) → (other ≡ true → one ≡ true) → one ≡ other
same_truth true other there back = sym (there refl)
same_truth false true there back = back refl
same_truth false false there back = refl

-- a number that passes a test isn't one that fails it
pub passes_other : (p : ℕ → Bool) (c other : ℕ) → p other ≡ false → p c ≡ true → eqb c other ≡ false
passes_other p c other fails passes = ne_eqb c other (λ same. false≢true (sym fails ∙ ap p (sym same) ∙ passes))

-- the places below the next one are marked, where those below this one are and this one is
pub marked_more : (change : ℕ → Bool) (byte place : ℕ) (old : Bool) →
    ((eqb place byte && change byte) || ((ltb place byte && change place) || old))
    ≡ ((ltb place (byte + 1) && change place) || old)
marked_more change byte place old =
    elim (cases_eq place byte) [
      | inl here ↦ rw here (grind (arith, nat_tests))
      | inr other ↦ grind (arith, nat_tests)
    ]

-- where nothing changes below a place, none is marked
pub marked_none : (change : ℕ → Bool) (byte place : ℕ) (old : Bool) → (place < byte → change place ≡ false) →
    old ≡ ((ltb place byte && change place) || old)
marked_none change byte place old none = grind (arith, nat_tests)

-- and where nothing changes from a place on, all are marked
pub marked_all : (change : ℕ → Bool) (byte place : ℕ) (old : Bool) → (byte ≤ place → change place ≡ false) →
    ((ltb place byte && change place) || old) ≡ (change place || old)
marked_all change byte place old none = grind (arith, nat_tests)

-- one mark after the other
pub marks_in_turn : (first second third fourth old : Bool) →
    (first || (second || (third || (fourth || old)))) ≡ ((first || (second || (third || fourth))) || old)
marks_in_turn first second third fourth old = grind (arith, nat_tests)

-- a list of numbers equals itself
pub bytes_eq_refl : (xs : List ℕ) → bytes_eq xs xs ≡ true
bytes_eq_refl xs = (bytes_eq-Decides xs xs).1 refl

-- and lists that pass the test are one
pub bytes_eq_sound : (xs ys : List ℕ) → bytes_eq xs ys ≡ true → xs ≡ ys
bytes_eq_sound xs ys = (bytes_eq-Decides xs ys).0
