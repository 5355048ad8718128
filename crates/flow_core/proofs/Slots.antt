-- What slots hold when one of them changes, and which jobs are ended then.
use Rattle.std.proofs.Common.{◌≡◌, ℕ, zero, suc, ◌<◌, ◌≤◌, List, [], ◌∷◌, refl, ap, ◌∙◌}
use Rattle.std.proofs.Common.{arith, length, map, get_or, fold, true, false, Bool, inl, inr}
use Rattle.std.proofs.Common.{filter}
use Rattle.std.specs.Prelude.{Contains, max}
use Rattle.std.proofs.lemmas.Bool.{cases_Bool}
use Rattle.flat_table.specs.Walk.{greatest}

-- ---- the greatest

-- the greatest of some numbers and a start is the greater of the start and their greatest
from_start : (a : ℕ) (xs : List ℕ) → fold max a xs ≡ max a (fold max 0 xs)
from_start a [] = omega arith
from_start a (x ∷ xs) = omega (arith, from_start (max a x) xs, from_start (max 0 x) xs)

-- the greatest with one more in front is the greater of that and the greatest
pub greatest_cons : (x : ℕ) (xs : List ℕ) → greatest (x ∷ xs) ≡ max x (greatest xs)
greatest_cons x xs = omega (arith, from_start (max 0 x) xs)

module _ {X : Type 0} (same : X → Bool) (w : X → ℕ) (p q : X → Bool) (x : X) where
  -- where two tests agree but at one element, the greatest that pass are the same beside it
  beside : ((y : X) → same y ≡ true → y ≡ x) → ((y : X) → same y ≡ false → q y ≡ p y) → (xs : List X) →
      max (w x) (greatest (map w (filter q xs))) ≡ max (w x) (greatest (map w (filter p xs)))
  beside is agree [] = refl
  beside is agree (y ∷ xs) =
      let rest = beside is agree xs in
      let first_q = greatest_cons (w y) (map w (filter q xs)) in
      let first_p = greatest_cons (w y) (map w (filter p xs)) in
      elim (cases_Bool (same y)) [
        | inl one ↦
            let word : w y ≡ w x = ap w (is y one) in
            elim (cases_Bool (q y)) [
              | inl a ↦ elim (cases_Bool (p y)) [
                | inl b ↦ rw (a, b) (omega (arith, rest, first_q, first_p, word))
                | inr b ↦ rw (a, b) (omega (arith, rest, first_q, word))
              ]
              | inr a ↦ elim (cases_Bool (p y)) [
                | inl b ↦ rw (a, b) (omega (arith, rest, first_p, word))
                | inr b ↦ rw (a, b) rest
              ]
            ]
        | inr other ↦ elim (cases_Bool (p y)) [
          | inl b ↦ rw (agree y other ∙ b, b) (omega (arith, rest, first_q, first_p))
          | inr b ↦ rw (agree y other ∙ b, b) rest
        ]
      ]

  -- the greatest that pass are at least what an element weighs that passes
  reaches : (xs : List X) (k : ℕ) → k < length xs → get_or xs k x ≡ x → q x ≡ true →
      w x ≤ greatest (map w (filter q xs))
  reaches [] k within is passes = absurd (omega arith)
  reaches (y ∷ xs) zero within is passes =
      rw (ap q is ∙ passes) (omega (arith, greatest_cons (w y) (map w (filter q xs)), ap w is))
  reaches (y ∷ xs) (suc k) within is passes = elim (cases_Bool (q y)) [
    | inl a ↦ rw a
        (omega (arith, greatest_cons (w y) (map w (filter q xs)), reaches xs k (omega arith) is passes))
    | inr a ↦ rw a (reaches xs k (omega arith) is passes)
  ]

  -- one element more passes
  pub one_more_passes : ((y : X) → same y ≡ true → y ≡ x) → ((y : X) → same y ≡ false → q y ≡ p y) → q x ≡ true →
      (xs : List X) → Contains xs x →
      greatest (map w (filter q xs)) ≡ max (greatest (map w (filter p xs))) (w x)
  one_more_passes is agree passes xs (k, within, at) =
      omega (arith, beside is agree xs, reaches xs k within at passes)
