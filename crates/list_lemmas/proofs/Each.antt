-- What holds of each element of a list, said by recursion over the list.
use Rattle.std.proofs.Common.{◌≡◌, ℕ, zero, suc, ◌+◌, ◌<◌, ◌≤◌, List, [], ◌∷◌, ◌++◌, map, refl, sym}
use Rattle.std.proofs.Common.{◌∙◌, ap, subst, inl, inr, arith}
use Rattle.std.specs.List.{AllByRecursion, flat_map, range_with_len}
use Rattle.std.proofs.lemmas.Bool.{cases_eq}
use Rattle.std.proofs.lemmas.List.{map-append}

-- ---- functions that agree

module _ {X Y : Type 0} where
  -- functions that agree on each element
  pub map_same : (f g : X → Y) (xs : List X) → AllByRecursion (λ x. f x ≡ g x) xs → map f xs ≡ map g xs
  map_same f g [] same = refl
  map_same f g (x ∷ xs) same = λ i. same.0 i ∷ map_same f g xs same.1 i

  -- and that give a list for each
  pub flat_map_same : (f g : X → List Y) (xs : List X) → AllByRecursion (λ x. f x ≡ g x) xs
      → flat_map f xs ≡ flat_map g xs
  flat_map_same f g [] same = refl
  flat_map_same f g (x ∷ xs) same = λ i. same.0 i ++ flat_map_same f g xs same.1 i

module _ {X Y Z : Type 0} where
  -- what a function makes of all lists
  pub map-flat_map : (f : Y → Z) (g : X → List Y) (xs : List X) → map f (flat_map g xs) ≡ flat_map (λ x. map f (g x)) xs
  map-flat_map f g [] = refl
  map-flat_map f g (x ∷ xs) = map-append f (g x) (flat_map g xs) ∙ ap (λ l. map f (g x) ++ l) (map-flat_map f g xs)

  -- where each has one element
  pub map-singles : (f : Y → Z) (h : X → Y) (xs : List X) → map f (flat_map (λ x. h x ∷ []) xs) ≡ map (λ x. f (h x)) xs
  map-singles f h [] = refl
  map-singles f h (x ∷ xs) = ap (λ l. f (h x) ∷ l) (map-singles f h xs)

  -- mapping twice is mapping once
  pub map-map : (f : Y → Z) (g : X → Y) (xs : List X) → map f (map g xs) ≡ map (λ x. f (g x)) xs
  map-map f g [] = refl
  map-map f g (x ∷ xs) = ap (λ l. f (g x) ∷ l) (map-map f g xs)

-- ---- what holds

-- what follows of each element
pub all_weaker : {X : Type 0} (P Q : X → Type 0) (xs : List X) → ((x : X) → P x → Q x) → AllByRecursion P xs
    → AllByRecursion Q xs
all_weaker P Q [] weaker all = tt
all_weaker P Q (x ∷ xs) weaker all = (weaker x all.0, all_weaker P Q xs weaker all.1)

-- what holds of the elements of two lists holds of both together
pub all-append : {X : Type 0} (P : X → Type 0) (xs ys : List X) → AllByRecursion P xs → AllByRecursion P ys
    → AllByRecursion P (xs ++ ys)
all-append P [] ys all more = more
all-append P (x ∷ xs) ys all more = (all.0, all-append P xs ys all.1 more)

-- what holds of each element of all lists
pub all-flat_map : {X Y : Type 0} (P : Y → Type 0) (f : X → List Y) (xs : List X)
    → AllByRecursion (λ x. AllByRecursion P (f x)) xs → AllByRecursion P (flat_map f xs)
all-flat_map P f [] all = tt
all-flat_map P f (x ∷ xs) all = all-append P (f x) (flat_map f xs) all.0 (all-flat_map P f xs all.1)

-- and back to each of them
pub all_of_parts : {X Y : Type 0} (P : Y → Type 0) (f : X → List Y) (xs : List X) → AllByRecursion P (flat_map f xs) →
    AllByRecursion (λ x. AllByRecursion P (f x)) xs
all_of_parts P f [] all = tt
all_of_parts P f (x ∷ xs) all =
    let parts = split (f x) all in
    (parts.0, all_of_parts P f xs parts.1)
  where
    split : (ys : List _) → AllByRecursion P (ys ++ flat_map f xs)
        → AllByRecursion P ys × AllByRecursion P (flat_map f xs)
    split [] rest = (tt, rest)
    split (y ∷ ys) rest = (let more = split ys rest.1 in ((rest.0, more.0), more.1))

-- what holds of the images of a list's elements
pub all-map : {X Y : Type 0} (P : Y → Type 0) (f : X → Y) (xs : List X) → AllByRecursion (λ x. P (f x)) xs
    → AllByRecursion P (map f xs)
all-map P f [] all = tt
all-map P f (x ∷ xs) all = (all.0, all-map P f xs all.1)

-- and back to the elements
pub all_of_map : {X Y : Type 0} (P : Y → Type 0) (f : X → Y) (xs : List X) → AllByRecursion P (map f xs)
    → AllByRecursion (λ x. P (f x)) xs
all_of_map P f [] all = tt
all_of_map P f (x ∷ xs) all = (all.0, all_of_map P f xs all.1)

-- what holds of the images of a range holds of that of each of its numbers
pub all_of_range : {X : Type 0} (P : X → Type 0) (f : ℕ → X) (first count : ℕ)
    → AllByRecursion P (map f (range_with_len first count)) → (k : ℕ) → first ≤ k → k < first + count → P (f k)
all_of_range P f first zero all k from until = absurd (omega (arith, from, until))
all_of_range P f first (suc count) all k from until = elim (cases_eq k first) [
  | inl e ↦ subst (λ n. P (f n)) (sym e) all.0
  | inr other ↦ all_of_range P f (first + 1) count all.1 k (omega (arith, from, other)) (omega (arith, until))
]

-- and of that of each number where each gives a list of one
pub all_of_singles : {X : Type 0} (P : X → Type 0) (f : ℕ → X) (first count : ℕ)
    → AllByRecursion P (flat_map (λ n. f n ∷ []) (range_with_len first count))
    → (k : ℕ) → first ≤ k → k < first + count → P (f k)
all_of_singles P f first zero all k from until = absurd (omega (arith, from, until))
all_of_singles P f first (suc count) all k from until = elim (cases_eq k first) [
  | inl e ↦ subst (λ n. P (f n)) (sym e) all.0
  | inr other ↦ all_of_singles P f (first + 1) count all.1 k (omega (arith, from, other)) (omega (arith, until))
]
