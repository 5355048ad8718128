-- Where a search by a test finds nothing, and where it finds.
use Rattle.std.proofs.Common.{◌≡◌, ℕ, zero, suc, ◌+◌, ◌<◌, ◌≤◌, Bool, true, false, not, ◌||◌, Some, None}
use Rattle.std.proofs.Common.{List}
use Rattle.std.proofs.Common.{[], ◌∷◌, cond, length, get_or, refl, ap, ◌∙◌, inl, inr, arith}
use Rattle.std.specs.List.{find, list_all, list_any, position_from, range_with_len}
use Rattle.std.specs.Option.{is_some, option_map}
use Rattle.std.proofs.lemmas.Bool.{and_from, and_parts, cases_Bool}

-- where a search finds nothing, nothing passes
pub position_none : {A : Type 0} (p : A → Bool) (place : ℕ) (xs : List A) (k : ℕ) (d : A) →
    position_from p place xs ≡ None → k < length xs → p (get_or xs k d) ≡ false
position_none p place [] k d e h = absurd (omega arith)
position_none p place (x ∷ xs) zero d e h = elim (cases_Bool (p x)) [ inl w ↦ cc (rw w at e) | inr w ↦ w ]
position_none p place (x ∷ xs) (suc k) d e h = elim (cases_Bool (p x))
    [ inl w ↦ cc (rw w at e) | inr w ↦ position_none p (place + 1) xs k d (rw w at e) (omega arith) ]

-- and where nothing passes, a search finds nothing
pub none_passes : {A : Type 0} (p : A → Bool) (place : ℕ) (xs : List A) (d : A) →
    ((k : ℕ) → k < length xs → p (get_or xs k d) ≡ false) → position_from p place xs ≡ None
none_passes p place [] d each = refl
none_passes p place (x ∷ xs) d each =
    rw (each 0 (omega arith)) (none_passes p (place + 1) xs d (λ k lt. each (suc k) (omega (arith, lt))))

-- where each element passes a test, none is found that fails it
pub none_found : {A : Type 0} (test : A → Bool) (place : ℕ) (ns : List A) → list_all test ns ≡ true →
    position_from (λ n. not (test n)) place ns ≡ None
none_found test place [] all = refl
none_found test place (n ∷ ns) all =
    let parts = and_parts (test n) (list_all test ns) all in
    rw parts.0 (none_found test (place + 1) ns parts.1)

-- and the other way round
pub none_fails : {A : Type 0} (test : A → Bool) (place : ℕ) (ns : List A) →
    position_from (λ n. not (test n)) place ns ≡ None →
    list_all test ns ≡ true
none_fails test place [] none = refl
none_fails test place (n ∷ ns) none = elim (cases_Bool (test n)) [
  | inl e ↦ and_from (test n) (list_all test ns) e (none_fails test (place + 1) ns (rw e at none))
  | inr e ↦ cc (rw e at none)
]

-- some element passes where one is found
pub any_is_some : {X : Type 0} (p : X → Bool) (xs : List X) → list_any p xs ≡ is_some (find p xs)
any_is_some p [] = refl
any_is_some p (x ∷ xs) = by (p x) (any_is_some p xs)
  where
    by : (b : Bool) → list_any p xs ≡ is_some (find p xs)
        → (b || list_any p xs) ≡ is_some (cond b (Some x) (find p xs))
    by true rest = refl
    by false rest = rest

-- what is found in a range that begins later is what is found in the range, so much later
pub find_shifted : (p q : ℕ → Bool) (more first count : ℕ)
    → ((n : ℕ) → first ≤ n → n < first + count → p (more + n) ≡ q n)
    → find p (range_with_len (more + first) count) ≡ option_map (λ n. more + n) (find q (range_with_len first count))
find_shifted p q more first zero same = refl
find_shifted p q more first (suc count) same =
    let e : more + first + 1 ≡ more + (first + 1) = omega arith in
    let rest : find p (range_with_len (more + first + 1) count)
    ≡ option_map (λ n. more + n) (find q (range_with_len (first + 1) count)) =
    ap (λ n. find p (range_with_len n count)) e
    ∙ find_shifted p q more (first + 1) count (λ n from below. same n (omega (arith, from)) (omega (arith, below))) in
    ap (λ b. cond b (Some (more + first)) (find p (range_with_len (more + first + 1) count)))
    (same first (omega arith) (omega arith))
    ∙ by (q first) rest
  where
    by : (b : Bool) → find p (range_with_len (more + first + 1) count)
        ≡ option_map (λ n. more + n) (find q (range_with_len (first + 1) count))
        → cond b (Some (more + first)) (find p (range_with_len (more + first + 1) count))
        ≡ option_map (λ n. more + n) (cond b (Some first) (find q (range_with_len (first + 1) count)))
    by true rest = refl
    by false rest = rest

-- two tests that agree on a range find the same number of it
pub find_on_range : (p q : ℕ → Bool) (first count : ℕ) → ((n : ℕ) → first ≤ n → n < first + count → p n ≡ q n)
    → find p (range_with_len first count) ≡ find q (range_with_len first count)
find_on_range p q first zero same = refl
find_on_range p q first (suc count) same =
    λ i. cond (same first (omega arith) (omega arith) i) (Some first)
    (find_on_range p q (first + 1) count (λ n from below. same n (omega (arith, from)) (omega (arith, below))) i)
