-- How many elements of a list pass a test, and lists over ranges of numbers.
use Rattle.std.proofs.Common.{cond, Bool, List, ◌≡◌, ◌+◌, [], ◌∷◌, suc, arith, get_or, zero, false, ℕ, length, true}
use Rattle.std.proofs.Common.{◌<◌, ◌≤◌, ◌∙◌, refl, inl, inr, map, sym}
use Rattle.std.specs.List.{count_by, range_with_len}
use Rattle.std.proofs.lemmas.List.Sums.{sum_by-cons}
use Rattle.std.proofs.lemmas.Bool.{cases_Bool}
use Rattle.std.proofs.lemmas.List.FromFn.{get_or-range_with_len, length-range_with_len}
use Rattle.std.specs.List.Sorted.{IsStrictlyIncreasing}
use Rattle.list_lemmas.proofs.Members.{Has}

-- one element more in front
pub count_by-cons : {X : Type 0} (p : X → Bool) (x : X) (xs : List X) →
    count_by p (x ∷ xs) ≡ cond (p x) 1 0 + count_by p xs
count_by-cons p x xs = sum_by-cons (λ y. cond (p y) 1 0) x xs

-- where the first elements pass and the others fail, as many pass as stand before the others
pub count_at_point : {X : Type 0} (p : X → Bool) (xs : List X) (i : ℕ) → i ≤ length xs →
    ((k : ℕ) (d : X) → k < i → p (get_or xs k d) ≡ true) →
    ((k : ℕ) (d : X) → i ≤ k → k < length xs → p (get_or xs k d) ≡ false) →
    count_by p xs ≡ i
count_at_point p [] i within first others = omega arith
count_at_point p (x ∷ xs) zero within first others =
    let rest = count_at_point p xs zero (omega arith) (λ k d h. absurd (omega arith))
    (λ k d above below. others (suc k) d (omega arith) (omega arith)) in
    count_by-cons p x xs ∙ rw (others 0 x (omega arith) (omega arith)) (omega (arith, rest))
count_at_point p (x ∷ xs) (suc i) within first others =
    let rest = count_at_point p xs i (omega arith) (λ k d h. first (suc k) d (omega arith))
    (λ k d above below. others (suc k) d (omega arith) (omega arith)) in
    count_by-cons p x xs ∙ rw (first 0 x (omega arith)) (omega (arith, rest))

-- a weaker test counts no fewer
pub count_le : {X : Type 0} (f g : X → Bool) (xs : List X) → ((x : X) → f x ≡ true → g x ≡ true) →
    count_by f xs ≤ count_by g xs
count_le f g [] weaker = omega arith
count_le f g (x ∷ xs) weaker =
    rw (count_by-cons f x xs, count_by-cons g x xs) (elim (cases_Bool (f x)) [
      | inl e ↦ rw (e, weaker x e) (omega (arith, count_le f g xs weaker))
      | inr e ↦ rw e (omega (arith, count_le f g xs weaker))
    ])

-- a test that all pass counts all
pub count_all : {X : Type 0} (xs : List X) → count_by (λ (x : X). true) xs ≡ length xs
count_all [] = refl
count_all (x ∷ xs) = count_by-cons (λ _. true) x xs ∙ omega (arith, count_all xs)

-- two tests that agree at each number of a range count the same, one of them of what is made of the numbers
pub count_agree : (test : ℕ → Bool) (key : ℕ → ℕ) (same : ℕ → Bool) (first n : ℕ) →
    ((x : ℕ) → first ≤ x → x < first + n → test (key x) ≡ same x) →
    count_by test (map key (range_with_len first n)) ≡ count_by same (range_with_len first n)
count_agree test key same first zero agree = refl
count_agree test key same first (suc n) agree =
    let rest = count_agree test key same (first + 1) n (λ x above below. agree x (omega arith) (omega arith)) in
    count_by-cons test (key first) (map key (range_with_len (first + 1) n))
    ∙ rw (agree first (omega arith) (omega arith), rest) refl
    ∙ sym (count_by-cons same first (range_with_len (first + 1) n))

-- the numbers from 0 on rise
pub increasing_range : (n : ℕ) → IsStrictlyIncreasing (range_with_len 0 n)
increasing_range n k within =
    let len = length-range_with_len 0 n in
    rw (get_or-range_with_len 0 n k 0 (omega arith), get_or-range_with_len 0 n (k + 1) 0 (omega arith)) (omega arith)

-- a weaker test counts more, where it passes something more
pub count_lt : (f g : ℕ → Bool) (xs : List ℕ) (y : ℕ) → ((x : ℕ) → f x ≡ true → g x ≡ true) → Has xs y → f y ≡ false →
    g y ≡ true → count_by f xs < count_by g xs
count_lt f g [] y weaker h fails passes = absurd h
count_lt f g (x ∷ xs) y weaker (inl is) fails passes =
    rw (count_by-cons f x xs, count_by-cons g x xs, is, fails, passes) (omega (arith, count_le f g xs weaker))
count_lt f g (x ∷ xs) y weaker (inr more) fails passes =
    let rest = count_lt f g xs y weaker more fails passes in
    rw (count_by-cons f x xs, count_by-cons g x xs) (elim (cases_Bool (f x)) [
      | inl e ↦ rw (e, weaker x e) (omega (arith, rest))
      | inr e ↦ rw e (omega (arith, rest))
    ])
