-- The greatest of some numbers, and where it stands.
use Rattle.std.proofs.Common.{◌≡◌, ◌≢◌, ℕ, zero, suc, ◌<◌, ◌⊎◌, ◌==◌, List, [], ◌∷◌, length, get_or, Bool, false, refl}
use Rattle.std.proofs.Common.{sym, ◌∙◌, inl, inr, arith}
use Rattle.std.specs.Prelude.{fold, max}
use Rattle.std.proofs.lemmas.Bool.{cases_lt, eq-eqb, eqb-true, both_ways}
use Rattle.std.proofs.lemmas.List.Sums.{fails_before_first, passes_at_first, position_or_len_is}
use Rattle.rule_set.specs.Groups.{greatest}
use Rattle.rule_split.specs.Divide.{greatest_place}

-- the maximum is where it starts, or some number that is met
reached : (a : ℕ) (xs : List ℕ) →
    (fold max a xs ≡ a) ⊎ ((k : ℕ) × (k < length xs) × ((d : ℕ) → get_or xs k d ≡ fold max a xs))
reached a [] = inl refl
reached a (x ∷ xs) = elim (reached (max a x) xs) [
  | inr at ↦ inr (suc at.0, omega (arith, at.1), at.2)
  | inl start ↦ elim (cases_lt a x) [
    | inl above ↦ inr (zero, omega arith, λ d. omega (arith, start))
    | inr level ↦ inl (omega (arith, start))
  ]
]

-- a greatest number that isn't 0 stands at the greatest place
pub greatest_there : (numbers : List ℕ) → greatest numbers ≢ 0 →
    (greatest_place numbers < length numbers)
    × ((d : ℕ) → get_or numbers (greatest_place numbers) d ≡ greatest numbers)
greatest_there numbers some =
    let test : ℕ → Bool = λ number. number == greatest numbers in
    let place : ℕ = greatest_place numbers in
    let within : place < length numbers = elim (cases_lt place (length numbers)) [
      | inl is ↦ is
      | inr past ↦ elim (reached 0 numbers) [
        | inl none ↦ absurd (some none)
        | inr at ↦
            let fails = fails_before_first test numbers at.0 0 (omega (arith, at.1)) in
            absurd (both_ways (test (get_or numbers at.0 0)) fails (eq-eqb _ _ (at.2 0)))
      ]
    ] in
    (within, λ d. eqb-true _ _ (passes_at_first test numbers d within))

-- the first one that is the greatest stands at the greatest place
pub stands_first : (numbers : List ℕ) (place most : ℕ) → most ≡ greatest numbers → place < length numbers →
    ((k : ℕ) → k < place → (get_or numbers k 0 == most) ≡ false) → get_or numbers place 0 ≡ most →
    place ≡ greatest_place numbers
stands_first numbers place most is within before here =
    sym (position_or_len_is (λ number. number == greatest numbers) numbers place 0 (omega arith)
    (λ k below. rw is at (before k below)) (λ _. eq-eqb _ _ (here ∙ is)))
