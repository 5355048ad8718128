-- The greatest of some numbers.
use Rattle.std.proofs.Common.{◌≡◌, ℕ, zero, suc, ◌<◌, ◌≤◌, List, [], ◌∷◌, map, fold, length, get_or, arith, inl, inr}
use Rattle.std.specs.Prelude.{max}
use Rattle.std.proofs.lemmas.Bool.{cases_lt}

-- it isn't below what it begins with
start_below : (a : ℕ) (xs : List ℕ) → a ≤ fold max a xs
start_below a [] = omega arith
start_below a (x ∷ xs) = omega (arith, start_below (max a x) xs)

module _ {X : Type 0} (f : X → ℕ) (d : X) where
  -- where it is more than what it begins with, it is one of the numbers
  pub greatest_attained : (a : ℕ) (xs : List X) → a < fold max a (map f xs) →
      (k : ℕ) × (k < length xs) × (f (get_or xs k d) ≡ fold max a (map f xs))
  greatest_attained a [] more = absurd (omega (arith, more))
  greatest_attained a (x ∷ xs) more = elim (cases_lt (max a (f x)) (fold max (max a (f x)) (map f xs))) [
    | inl later ↦ (let rest = greatest_attained (max a (f x)) xs later in (suc rest.0, omega (arith, rest.1), rest.2))
    | inr here ↦ (0, omega arith, omega (arith, here, more, start_below (max a (f x)) (map f xs)))
  ]

  -- none of the numbers is above it
  pub greatest_above : (a : ℕ) (xs : List X) (k : ℕ) → k < length xs → f (get_or xs k d) ≤ fold max a (map f xs)
  greatest_above a [] k within = absurd (omega (arith, within))
  greatest_above a (x ∷ xs) zero within = omega (arith, start_below (max a (f x)) (map f xs))
  greatest_above a (x ∷ xs) (suc k) within = greatest_above (max a (f x)) xs k (omega (arith, within))

  -- what none of the numbers is above is no less than it
  pub greatest_least : (a bound : ℕ) (xs : List X) → a ≤ bound →
      ((k : ℕ) → k < length xs → f (get_or xs k d) ≤ bound) → fold max a (map f xs) ≤ bound
  greatest_least a bound [] start each = start
  greatest_least a bound (x ∷ xs) start each = greatest_least (max a (f x)) bound xs
      (omega (arith, start, each 0 (omega arith))) (λ k within. each (suc k) (omega (arith, within)))
