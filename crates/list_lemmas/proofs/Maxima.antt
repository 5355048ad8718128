-- The greatest of some numbers, as a fold.
use Rattle.std.proofs.Common.{◌≡◌, ℕ, zero, suc, ◌<◌, ◌≤◌, List, [], ◌∷◌, length, map, get_or, All, arith}
use Rattle.std.specs.Prelude.{fold, max}
use Rattle.std.proofs.lemmas.List.Elements.{All-head, All-tail}

-- numbers up to a bound don't lead the maximum above it
pub fold_le : (a bound : ℕ) (xs : List ℕ) → a ≤ bound → All (λ x. x ≤ bound) xs → fold max a xs ≤ bound
fold_le a bound [] start all = start
fold_le a bound (x ∷ xs) start all =
    fold_le (max a x) bound xs (omega (arith, All-head (λ y. y ≤ bound) x xs all))
    (All-tail (λ y. y ≤ bound) x xs all)

-- the maximum is no lower than where it starts
pub fold_ge : (a : ℕ) (xs : List ℕ) → a ≤ fold max a xs
fold_ge a [] = omega arith
fold_ge a (x ∷ xs) = omega (arith, fold_ge (max a x) xs)

-- nor than what is met
pub fold_reaches : {X : Type 0} (f : X → ℕ) (a : ℕ) (xs : List X) (x : X) (k : ℕ) → k < length xs → get_or xs k x ≡ x →
    f x ≤ fold max a (map f xs)
fold_reaches f a [] x k within is = absurd (omega arith)
fold_reaches f a (first ∷ xs) x zero within is = rw (← is) (omega (arith, fold_ge (max a (f first)) (map f xs)))
fold_reaches f a (first ∷ xs) x (suc k) within is = fold_reaches f (max a (f first)) xs x k (omega arith) is
