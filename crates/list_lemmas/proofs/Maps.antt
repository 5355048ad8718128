-- Functions over lists that agree, and what holds of each element that they give.
use Rattle.std.proofs.Common.{◌≡◌, ℕ, zero, suc, ◌+◌, ◌<◌, ◌≤◌, Bool, cond, List, [], ◌∷◌, ◌++◌, map, filter, length}
use Rattle.std.proofs.Common.{get_or, replicate, refl, ap, ◌∙◌, arith, sym, inl, inr}
use Rattle.std.specs.Prelude.{flat_map, All, find, true, Some}
use Rattle.std.proofs.lemmas.Bool.{cases_Bool}
use Rattle.std.proofs.lemmas.List.Elements.{filter_passes, All-append, All-head, All-nil, All-tail}
use Rattle.std.specs.List.{range_with_len}

-- functions that agree everywhere make equal lists
pub map_agree : {A B : Type 0} (f g : A → B) (xs : List A) → ((x : A) → f x ≡ g x) → map f xs ≡ map g xs
map_agree f g [] same = refl
map_agree f g (x ∷ xs) same = λ i. same x i ∷ map_agree f g xs same i

module _ {X : Type 0} where
  -- functions that agree on a range make equal lists of it
  pub map_on_range : (f g : ℕ → X) (first count : ℕ) → ((k : ℕ) → first ≤ k → k < first + count → f k ≡ g k) →
      map f (range_with_len first count) ≡ map g (range_with_len first count)
  map_on_range f g first zero same = refl
  map_on_range f g first (suc count) same = λ i. same first (omega arith) (omega arith) i
      ∷ map_on_range f g (first + 1) count (λ k from below. same k (omega (arith, from)) (omega (arith, below))) i

  -- and equal parts
  pub flat_map_on_range : (f g : ℕ → List X) (first count : ℕ) →
      ((k : ℕ) → first ≤ k → k < first + count → f k ≡ g k) →
      flat_map f (range_with_len first count) ≡ flat_map g (range_with_len first count)
  flat_map_on_range f g first zero same = refl
  flat_map_on_range f g first (suc count) same = λ i. same first (omega arith) (omega arith) i
      ++ flat_map_on_range f g (first + 1) count (λ k from below. same k (omega (arith, from)) (omega (arith, below))) i

  -- a function that is the same all over a range makes copies
  pub copies_on_range : (f : ℕ → X) (x : X) (first count : ℕ) →
      ((k : ℕ) → first ≤ k → k < first + count → f k ≡ x) → map f (range_with_len first count) ≡ replicate count x
  copies_on_range f x first zero same = refl
  copies_on_range f x first (suc count) same = λ i. same first (omega arith) (omega arith) i
      ∷ copies_on_range f x (first + 1) count (λ k from below. same k (omega (arith, from)) (omega (arith, below))) i

  -- a function of the place in a list and one of the element that stands there
  pub map_by_place : {Y : Type 0} (f : ℕ → Y) (g : X → Y) (d : X) (first : ℕ) (xs : List X) →
      ((k : ℕ) → k < length xs → f (first + k) ≡ g (get_or xs k d)) →
      map f (range_with_len first (length xs)) ≡ map g xs
  map_by_place f g d first [] same = refl
  map_by_place f g d first (x ∷ xs) same =
      let here : f first ≡ g x = ap f (omega arith) ∙ same 0 (omega arith) in
      λ i. here i ∷ map_by_place f g d (first + 1) xs
      (λ k below. ap f (omega arith) ∙ same (suc k) (omega (arith, below))) i

-- tests that agree on a range keep the same of it
pub filter_on_range : (p q : ℕ → Bool) (first count : ℕ) → ((k : ℕ) → first ≤ k → k < first + count → p k ≡ q k) →
    filter p (range_with_len first count) ≡ filter q (range_with_len first count)
filter_on_range p q first zero same = refl
filter_on_range p q first (suc count) same =
    let rest = filter_on_range p q (first + 1) count
    (λ k from below. same k (omega (arith, from)) (omega (arith, below))) in
    λ i. cond (same first (omega arith) (omega arith) i) (first ∷ rest i) (rest i)

-- what holds of each element of each part holds of all parts together
pub All-flat_map : {A B : Type 0} (P : B → Type 0) (f : A → List B) (xs : List A) → All (λ x. All P (f x)) xs →
    All P (flat_map f xs)
All-flat_map P f [] each = All-nil P
All-flat_map P f (x ∷ xs) each = All-append P (f x) (flat_map f xs) (All-head (λ y. All P (f y)) x xs each)
    (All-flat_map P f xs (All-tail (λ y. All P (f y)) x xs each))

-- functions that agree on each element of a list make equal lists
pub map_where : {A B : Type 0} (f g : A → B) (xs : List A) → All (λ x. f x ≡ g x) xs → map f xs ≡ map g xs
map_where f g [] same = refl
map_where f g (x ∷ xs) same =
    let here = All-head (λ y. f y ≡ g y) x xs same in
    let rest = map_where f g xs (All-tail (λ y. f y ≡ g y) x xs same) in
    λ i. here i ∷ rest i

-- and equal parts
pub flat_map_where : {A B : Type 0} (f g : A → List B) (xs : List A) → All (λ x. f x ≡ g x) xs →
    flat_map f xs ≡ flat_map g xs
flat_map_where f g [] same = refl
flat_map_where f g (x ∷ xs) same =
    let here = All-head (λ y. f y ≡ g y) x xs same in
    let rest = flat_map_where f g xs (All-tail (λ y. f y ≡ g y) x xs same) in
    λ i. here i ++ rest i

-- what is found among those that pass a test passes it
pub find_in_filter : {X : Type 0} (q p : X → Bool) (xs : List X) (w : X) → find q (filter p xs) ≡ Some w → p w ≡ true
find_in_filter {X = X} q p xs w found = among (filter p xs) (filter_passes p xs) found
  where
    among : (ys : List X) → All (λ y. p y ≡ true) ys → find q ys ≡ Some w → p w ≡ true
    among [] all e = absurd (cc)
    among (y ∷ ys) all e = elim (cases_Bool (q y)) [
      | inl here ↦ (let same : y ≡ w = (let is : Some y ≡ Some w = rw here at e in cc) in
          ap p (sym same) ∙ All-head (λ z. p z ≡ true) y ys all)
      | inr later ↦ among ys (All-tail (λ z. p z ≡ true) y ys all) (rw later at e)
    ]

-- two tests that agree at each element of a list keep the same elements of it
pub filter_where : {X : Type 0} (p q : X → Bool) (xs : List X) → All (λ x. p x ≡ q x) xs → filter p xs ≡ filter q xs
filter_where p q [] all = refl
filter_where p q (x ∷ xs) all =
    let rest = filter_where p q xs (All-tail (λ y. p y ≡ q y) x xs all) in
    λ i. cond (All-head (λ y. p y ≡ q y) x xs all i) (x ∷ rest i) (rest i)
