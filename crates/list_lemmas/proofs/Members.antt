-- What a list of numbers has, element by element, and lists whose numbers rise.
use Rattle.std.proofs.Common.{ℕ, List, ◌≡◌, ◌⊎◌, [], ◌∷◌, suc, inl, inr, arith, zero, get_or, length, ◌<◌, filter, Bool}
use Rattle.std.proofs.Common.{true, refl, Some, None, false, ◌≤◌, ◌+◌}
use Rattle.std.specs.List.{Contains, list_all, find, AllPairs, range_with_len}
use Rattle.std.proofs.lemmas.Bool.{cases_Bool, cond_both, and_parts, and_from, both_ways, cases_eq}

-- what a list has, element by element
abbrev pub Has : List ℕ → ℕ → Type 0
Has [] y = ⊥
Has (x ∷ xs) y = (x ≡ y) ⊎ Has xs y

-- it contains that element
pub contained : (xs : List ℕ) (y : ℕ) → Has xs y → Contains xs y
contained [] y h = absurd h
contained (x ∷ xs) y (inl is) = (zero, omega arith, is)
contained (x ∷ xs) y (inr h) = let more = contained xs y h in (suc more.0, omega (arith, more.1), more.2)

-- the element at a place is one that it has
pub has_at : (xs : List ℕ) (y k : ℕ) → k < length xs → get_or xs k y ≡ y → Has xs y
has_at [] y k within is = absurd (omega arith)
has_at (x ∷ xs) y zero within is = inl is
has_at (x ∷ xs) y (suc k) within is = inr (has_at xs y k (omega arith) is)

-- what it contains it has
pub has : (xs : List ℕ) (y : ℕ) → Contains xs y → Has xs y
has xs y h = has_at xs y h.0 h.1 h.2

-- a filter keeps what passes
pub has_passing : (p : ℕ → Bool) (xs : List ℕ) (y : ℕ) → Has (filter p xs) y → Has xs y × (p y ≡ true)
has_passing p [] y h = absurd h
has_passing p (x ∷ xs) y h = elim (cases_Bool (p x)) [
  | inl e ↦ elim (rw e at h) [
    | inl is ↦ (inl is, rw is at e)
    | inr more ↦ let rest = has_passing p xs y more in (inr rest.0, rest.1)
  ]
  | inr e ↦ let rest = has_passing p xs y (rw e at h) in (inr rest.0, rest.1)
]

-- and keeps all that passes
pub passing_has : (p : ℕ → Bool) (xs : List ℕ) (y : ℕ) → Has xs y → p y ≡ true → Has (filter p xs) y
passing_has p [] y h passes = absurd h
passing_has p (x ∷ xs) y (inl is) passes = rw (is, passes) (inl refl)
passing_has p (x ∷ xs) y (inr more) passes =
    cond_both (p x) (x ∷ filter p xs) (filter p xs) (λ ys. Has ys y) (λ _. inr (passing_has p xs y more passes))
    (λ _. passing_has p xs y more passes)

-- a test that all pass is passed by each
pub all_has : (q : ℕ → Bool) (xs : List ℕ) (y : ℕ) → list_all q xs ≡ true → Has xs y → q y ≡ true
all_has q [] y all h = absurd h
all_has q (x ∷ xs) y all (inl is) = rw (← is) (and_parts (q x) (list_all q xs) all).0
all_has q (x ∷ xs) y all (inr more) = all_has q xs y (and_parts (q x) (list_all q xs) all).1 more

-- and the other way round
pub all_from_each : (q : ℕ → Bool) (xs : List ℕ) → ((y : ℕ) → Has xs y → q y ≡ true) → list_all q xs ≡ true
all_from_each q [] each = refl
all_from_each q (x ∷ xs) each = and_from (q x) (list_all q xs) (each x (inl refl))
    (all_from_each q xs (λ y h. each y (inr h)))

-- what is found is one of the list
pub found_has : (g : ℕ → Bool) (xs : List ℕ) (w : ℕ) → find g xs ≡ Some w → Has xs w
found_has g [] w h = absurd cc
found_has g (x ∷ xs) w h = elim (cases_Bool (g x)) [
  | inl e ↦ let found = rw e at h in let same : x ≡ w = cc in inl same
  | inr e ↦ inr (found_has g xs w (rw e at h))
]

-- where none is found, each fails
pub not_found : (g : ℕ → Bool) (xs : List ℕ) (y : ℕ) → find g xs ≡ None → Has xs y → g y ≡ false
not_found g [] y none h = absurd h
not_found g (x ∷ xs) y none h = elim (cases_Bool (g x)) [
  | inl e ↦ absurd (let found = rw e at none in cc)
  | inr e ↦ elim h [
    | inl is ↦ rw (← is) e
    | inr more ↦ not_found g xs y (rw e at none) more
  ]
]

-- a list whose numbers rise
abbrev pub Rising : List ℕ → Type 0
Rising [] = Unit {0}
Rising (x ∷ xs) = ((y : ℕ) → Has xs y → x < y) × Rising xs

-- so does one of which each pair rises
pub rising : (xs : List ℕ) → AllPairs (λ x y. x < y) xs → Rising xs
rising [] h = tt
rising (x ∷ xs) h = (
  λ y has_y. (let at = contained xs y has_y in rw (at.2) at (h 0 (suc at.0) y (omega arith) (omega (arith, at.1)))),
  rising xs (λ i j d below within. h (suc i) (suc j) d (omega arith) (omega arith)),
)

-- what is found stands before all others that pass
pub found_first : (g : ℕ → Bool) (xs : List ℕ) (w y : ℕ) → Rising xs → find g xs ≡ Some w → Has xs y → g y ≡ true →
    w ≤ y
found_first g [] w y rises h has_y passes = absurd has_y
found_first g (x ∷ xs) w y rises h has_y passes = elim (cases_Bool (g x)) [
  | inl e ↦
      let found = rw e at h in
      let same : x ≡ w = cc in
      elim has_y [
        | inl is ↦ omega arith
        | inr more ↦ omega (arith, rises.0 y more)
      ]
  | inr e ↦ elim has_y [
    | inl is ↦ absurd (both_ways (g x) e (rw (← is) at passes))
    | inr more ↦ found_first g xs w y rises.1 (rw e at h) more passes
  ]
]

-- a filter of rising numbers rises
pub rising_filter : (p : ℕ → Bool) (xs : List ℕ) → Rising xs → Rising (filter p xs)
rising_filter p [] h = tt
rising_filter p (x ∷ xs) h =
    cond_both (p x) (x ∷ filter p xs) (filter p xs) Rising
    (λ _. (λ y has_y. h.0 y (has_passing p xs y has_y).0, rising_filter p xs h.1)) (λ _. rising_filter p xs h.1)

-- nothing is left of a list where each fails
pub filter-none : (p : ℕ → Bool) (xs : List ℕ) → ((y : ℕ) → Has xs y → p y ≡ false) → filter p xs ≡ []
filter-none p [] fails = refl
filter-none p (x ∷ xs) fails = rw (fails x (inl refl)) (filter-none p xs (λ y h. fails y (inr h)))

-- a range has its numbers
pub in_range : (first n x : ℕ) → first ≤ x → x < first + n → Has (range_with_len first n) x
in_range first zero x above under = absurd (omega arith)
in_range first (suc n) x above under = elim (cases_eq first x) [
  | inl here ↦ inl here
  | inr later ↦ inr (in_range (first + 1) n x (omega arith) (omega arith))
]
