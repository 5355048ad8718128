-- Tests and functions over the numbers of a range.
use Rattle.std.proofs.Common.{◌≡◌, ℕ, zero, suc, ◌+◌, ◌<◌, ◌≤◌, ◌⊎◌, List, [], ◌∷◌, ◌++◌, map, filter, Bool, true}
use Rattle.std.proofs.Common.{false}
use Rattle.std.proofs.Common.{◌&&◌, cond, refl, ◌∙◌, ap, inl, inr, arith, append-nil, subst, sym}
use Rattle.std.specs.List.{flat_map, range_with_len, list_all}
use Rattle.std.specs.Prelude.{All}
use Rattle.std.proofs.lemmas.Bool.{cases_Bool, cases_eq, and_parts}
use Rattle.std.proofs.lemmas.List.{map-append}
use Rattle.std.proofs.lemmas.List.Concat.{flat_map-append}
use Rattle.std.proofs.lemmas.List.Elements.{All-from_get_or}
use Rattle.std.proofs.lemmas.List.Folds.{list_all-append, list_all_at}
use Rattle.std.proofs.lemmas.List.FromFn.{length-range_with_len, get_or-range_with_len}
use Rattle.list_lemmas.proofs.Positions.{range-push, filter-range-push}

-- one more number
pub range_more : (count : ℕ) → range_with_len 0 (count + 1) ≡ range_with_len 0 count ++ count ∷ []
range_more count = range-push 0 count ∙ ap (λ n. range_with_len 0 count ++ n ∷ []) (omega arith)

-- and what a function makes of it
pub map_more_numbers : {X : Type 0} (f : ℕ → X) (count : ℕ)
    → map f (range_with_len 0 (count + 1)) ≡ map f (range_with_len 0 count) ++ f count ∷ []
map_more_numbers f count = ap (map f) (range_more count) ∙ map-append f (range_with_len 0 count) (count ∷ [])

-- and the lists that a function makes of the numbers, one after the other
pub parts_more : {X : Type 0} (f : ℕ → List X) (count : ℕ)
    → flat_map f (range_with_len 0 (count + 1)) ≡ flat_map f (range_with_len 0 count) ++ f count
parts_more f count =
    ap (flat_map f) (range_more count) ∙ flat_map-append f (range_with_len 0 count) (count ∷ [])
    ∙ ap (λ last. flat_map f (range_with_len 0 count) ++ last) (append-nil (f count))

-- a test that passes for it, too, passes for all of them
pub all_more_numbers : (p : ℕ → Bool) (count : ℕ) → list_all p (range_with_len 0 count) ≡ true → p count ≡ true
    → list_all p (range_with_len 0 (count + 1)) ≡ true
all_more_numbers p count all last =
    ap (list_all p) (range_more count) ∙ list_all-append p (range_with_len 0 count) (count ∷ [])
    ∙ (λ i. all i && (last i && true))

-- and one that fails for one of them doesn't
pub not_all_numbers : (p : ℕ → Bool) (count place : ℕ) → place < count → p place ≡ false
    → list_all p (range_with_len 0 count) ≡ false
not_all_numbers p count place below fails =
    list_all_at p (range_with_len 0 count) place 0 (rw (length-range_with_len 0 count) below)
    (ap p (get_or-range_with_len 0 count place 0 below ∙ omega arith) ∙ fails)

-- it is among those that pass
pub filter_more_yes : (p : ℕ → Bool) (count : ℕ) → p count ≡ true
    → filter p (range_with_len 0 (count + 1)) ≡ filter p (range_with_len 0 count) ++ count ∷ []
filter_more_yes p count is =
    filter-range-push p count ∙ ap (λ b. filter p (range_with_len 0 count) ++ cond b (count ∷ []) []) is

-- or it isn't
pub filter_more_no : (p : ℕ → Bool) (count : ℕ) → p count ≡ false
    → filter p (range_with_len 0 (count + 1)) ≡ filter p (range_with_len 0 count)
filter_more_no p count is =
    filter-range-push p count ∙ ap (λ b. filter p (range_with_len 0 count) ++ cond b (count ∷ []) []) is
    ∙ append-nil (filter p (range_with_len 0 count))

-- a test that passes for all of a range passes for each
pub each_in_range : (p : ℕ → Bool) (first count : ℕ) → list_all p (range_with_len first count) ≡ true → (k : ℕ)
    → first ≤ k → k < first + count → p k ≡ true
each_in_range p first zero all k from below = absurd (omega arith)
each_in_range p first (suc count) all k from below =
    let parts = and_parts (p first) (list_all p (range_with_len (first + 1) count)) all in
    elim (cases_eq k first) [
      | inl e ↦ ap p e ∙ parts.0
      | inr other ↦ each_in_range p (first + 1) count parts.1 k (omega (arith, other)) (omega arith)
    ]

-- or it fails for one
pub all_or_some_not : (p : ℕ → Bool) (first count : ℕ)
    → (list_all p (range_with_len first count) ≡ true) ⊎ ((k : ℕ) × (first ≤ k) × (k < first + count) × (p k ≡ false))
all_or_some_not p first zero = inl refl
all_or_some_not p first (suc count) = elim (cases_Bool (p first)) [
  | inr fails ↦ inr (first, omega arith, omega arith, fails)
  | inl holds ↦ elim (all_or_some_not p (first + 1) count) [
    | inl all ↦ inl (λ i. holds i && all i)
    | inr one ↦ inr (one.0, omega (arith, one.1), omega (arith, one.2), one.3)
  ]
]

-- what holds of each number below the end of a range holds of all of its numbers
pub All-range : (P : ℕ → Type 0) (n : ℕ) → ((k : ℕ) → k < n → P k) → All P (range_with_len 0 n)
All-range P n each = All-from_get_or P (range_with_len 0 n) 0 (λ i below.
    let less : i < n = omega (arith, below, length-range_with_len 0 n) in
    subst P (sym (get_or-range_with_len 0 n i 0 less ∙ omega arith)) (each i less))
