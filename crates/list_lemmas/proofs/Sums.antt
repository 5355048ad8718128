-- Sums over lists, and the bits of sums of powers of 2.
use Rattle.std.proofs.Common.{◌≡◌, ℕ, zero, suc, ◌+◌, ◌-◌, ◌^◌, ◌<◌, ◌≤◌, Bool, true, false, cond, List, [], ◌∷◌}
use Rattle.std.proofs.Common.{◌++◌, map, filter, refl, sym, ap, ◌∙◌, inl, inr, arith, add-one}
use Rattle.std.specs.Int.{bit_at}
use Rattle.std.specs.List.{range_with_len, sum_by}
use Rattle.std.specs.Prelude.{sum}
use Rattle.std.proofs.lemmas.Bool.{cases_eq}
use Rattle.std.proofs.lemmas.List.Sums.{sum_by-cons, sum_by-append}
use Rattle.std.proofs.lemmas.Nat.Bits.{bit_at_above, bit_at_cat_low, bit_at_cat_high}
use Rattle.std.proofs.Math.Nat.{pow-suc}
use Rattle.list_lemmas.proofs.Positions.{filter-range-push}

-- the sum over what a function gives
pub sum_by-map : {A B : Type 0} (f : B → ℕ) (g : A → B) (xs : List A) → sum_by f (map g xs) ≡ sum_by (λ x. f (g x)) xs
sum_by-map f g [] = refl
sum_by-map f g (x ∷ xs) = sum_by-cons f (g x) (map g xs) ∙ ap (λ (n : ℕ). f (g x) + n) (sum_by-map f g xs)
    ∙ sym (sum_by-cons (λ y. f (g y)) x xs)

-- the sum of two lists, one after the other
pub sum-append : (xs ys : List ℕ) → sum (xs ++ ys) ≡ sum xs + sum ys
sum-append xs ys = sum_by-append (λ x. x) xs ys

-- ---- the numbers below n that pass a test, as bits of one number

-- a power leaves the bits below it
low_bit : (x n g : ℕ) → g < n → bit_at (x + 2 ^ n) g ≡ bit_at x g
low_bit x n g below = ap (λ (y : ℕ). bit_at y g) (omega arith) ∙ bit_at_cat_low 1 n x g below

-- and sets its own
own_bit : (x n : ℕ) → x < 2 ^ n → bit_at (x + 2 ^ n) n ≡ 1
own_bit x n small =
    let none : n - n ≡ 0 = omega arith in
    ap (λ (y : ℕ). bit_at y n) (omega arith) ∙ bit_at_cat_high 1 n x n small (omega arith) ∙ ap (bit_at 1) none

module _ (p : ℕ → Bool) where
  -- the number whose bits these are
  abbrev pub bits_of : ℕ → ℕ
  bits_of n = sum_by (λ g. 2 ^ g) (filter p (range_with_len 0 n))

  -- one more place adds its power of 2 if the place is marked
  bits_more : (n : ℕ) → bits_of (suc n) ≡ bits_of n + cond (p n) (2 ^ n) 0
  bits_more n =
      let more : bits_of (n + 1) ≡ bits_of n + cond (p n) (2 ^ n) 0 =
      ap (sum_by (λ g. 2 ^ g)) (filter-range-push p n)
      ∙ sum_by-append (λ g. 2 ^ g) (filter p (range_with_len 0 n)) (cond (p n) (n ∷ []) [])
      ∙ ap (λ (k : ℕ). bits_of n + k) (one (p n)) in
      rw (add-one n) at more
    where
      one : (b : Bool) → sum_by (λ g. 2 ^ g) (cond b (n ∷ []) []) ≡ cond b (2 ^ n) 0
      one true = sum_by-cons (λ (g : ℕ). 2 ^ g) n [] ∙ omega arith
      one false = refl

  -- it has no bit from n on
  pub bits_small : (n : ℕ) → bits_of n < 2 ^ n
  bits_small zero = omega arith
  bits_small (suc n) = omega (arith, bits_more n, bits_small n, pow-suc 2 n, at_most (p n))
    where
      at_most : (b : Bool) → cond b (2 ^ n) 0 ≤ 2 ^ n
      at_most true = omega arith
      at_most false = omega arith

  -- and below n the bit of each number says whether it passes
  pub bit_is : (n g : ℕ) → g < n → bit_at (bits_of n) g ≡ cond (p g) 1 0
  bit_is zero g below = absurd (omega (arith, below))
  bit_is (suc n) g below = ap (λ (x : ℕ). bit_at x g) (bits_more n) ∙ elim (cases_eq g n) [
    | inl same ↦ rw same (own (p n))
    | inr apart ↦ other (p n) (omega (arith, below, apart)) ∙ bit_is n g (omega (arith, below, apart))
  ]
    where
      own : (b : Bool) → bit_at (bits_of n + cond b (2 ^ n) 0) n ≡ cond b 1 0
      own true = own_bit (bits_of n) n (bits_small n)
      own false = ap (λ (x : ℕ). bit_at x n) (omega arith) ∙ bit_at_above (bits_of n) n n (bits_small n) (omega arith)

      other : (b : Bool) → g < n → bit_at (bits_of n + cond b (2 ^ n) 0) g ≡ bit_at (bits_of n) g
      other true within = low_bit (bits_of n) n g within
      other false within = ap (λ (x : ℕ). bit_at x g) (omega arith)
