-- Lists that two functions make of one, positions in a list, functions that agree on a range, and lists so far.
use Rattle.std.proofs.Common.{◌≡◌, ℕ, zero, suc, ◌+◌, ◌^◌, ◌<◌, ◌≤◌, ◌==◌, ◌||◌, Bool, true, false, not, cond, ◌&&◌}
use Rattle.std.proofs.Common.{List, [], ◌∷◌, ◌++◌, length, map, take, filter, get_or, Option, Some, None, true≢false}
use Rattle.std.proofs.Common.{refl, sym, ◌∙◌, ap, subst, inl, inr, arith}
use Rattle.std.specs.List.{list_any, list_all, filter_map, cons_option, AllByRecursion, position_or_len, range_with_len}
use Rattle.std.specs.List.{sum_by, Contains}
use Rattle.std.specs.Option.{option_map}
use Rattle.std.specs.Prelude.{All}
use Rattle.std.proofs.lemmas.Bool.{cases_Bool, or_parts, and_parts, eq-eqb, eqb-true}
use Rattle.std.proofs.lemmas.List.{take_more, take_all, map_push, length-map, get_or-map, append-nil}
use Rattle.std.proofs.lemmas.List.Folds.{list_any_at}
use Rattle.std.proofs.lemmas.List.Sums.{sum_by-cons, sum_by-append}
use Rattle.list_lemmas.proofs.Positions.{filter-range-push}
use Rattle.list_lemmas.proofs.Sums.{bits_of}
use Rattle.list_lemmas.proofs.Tests.{same_truth}

-- ---- tests

-- of two tests the one passes exactly where the other fails
pub opposite_tests : (one other : Bool) → (one ≡ false → other ≡ true) → (other ≡ true → one ≡ false) → one ≡ not other
opposite_tests true true there back = back refl
opposite_tests true false there back = refl
opposite_tests false true there back = refl
opposite_tests false false there back = there refl

-- the second of two tests matters only where the first one fails
pub or_where : (first one other : Bool) → (first ≡ false → one ≡ other) → (first || one) ≡ (first || other)
or_where true one other same = refl
or_where false one other same = same refl

-- ---- what two functions make of one list

-- a function with an inverse makes the same only of the same
pub option_map_injective : {X Y : Type 0} (f : X → Y) (back : Y → X) → ((x : X) → back (f x) ≡ x)
    → (one other : Option X) → option_map f one ≡ option_map f other → one ≡ other
option_map_injective {X = X} f back undoes one other same = sym (by one) ∙ ap (option_map back) same ∙ by other
  where
    by : (found : Option X) → option_map back (option_map f found) ≡ found
    by None = refl
    by (Some x) = ap Some (undoes x)

module _ {X : Type 0} (key : X → ℕ) where
  -- the keys of the elements rise, the first of them from a number on
  abbrev pub KeysRise : ℕ → List X → Type 0
  KeysRise least [] = Unit {0}
  KeysRise least (x ∷ xs) = (least ≤ key x) × KeysRise (key x + 1) xs

  -- or from a lower one on
  pub keys_rise_lower : (one other : ℕ) (xs : List X) → one ≤ other → KeysRise other xs → KeysRise one xs
  keys_rise_lower one other [] below rise = tt
  keys_rise_lower one other (x ∷ xs) below rise = (omega (arith, rise.0), rise.1)

  -- a function keeps the keys of what it makes something of
  abbrev pub KeepsKey : (X → Option X) → Type 0
  KeepsKey f = (x y : X) → f x ≡ Some y → key y ≡ key x

  -- what such a function makes of the elements rises, too
  pub filter_map_rises : (f : X → Option X) → KeepsKey f → (least : ℕ) (xs : List X) → KeysRise least xs
      → KeysRise least (filter_map f xs)
  filter_map_rises f keeps least [] rise = tt
  filter_map_rises f keeps least (x ∷ xs) rise = by (filter_map_rises f keeps (key x + 1) xs rise.1) (f x) (keeps x)
    where
      by : KeysRise (key x + 1) (filter_map f xs) → (found : Option X) → ((y : X) → found ≡ Some y → key y ≡ key x)
          → KeysRise least (cons_option found (filter_map f xs))
      by rest None same = keys_rise_lower least (key x + 1) (filter_map f xs) (omega (arith, rise.0)) rest
      by rest (Some y) same = (rw (same y refl) rise.0, rw (same y refl) rest)

  -- so two such functions make one list only where they make the same of each element
  pub filter_map_apart : (f g : X → Option X) → KeepsKey f → KeepsKey g → (test : X → Bool)
      → ((x : X) → f x ≡ g x → test x ≡ false) → (least : ℕ) (xs : List X) → KeysRise least xs
      → filter_map f xs ≡ filter_map g xs → list_any test xs ≡ false
  filter_map_apart f g keeps keeps' test told least [] rise same = refl
  filter_map_apart f g keeps keeps' test told least (x ∷ xs) rise same =
      by (filter_map_apart f g keeps keeps' test told (key x + 1) xs rise.1) (f x) (g x) refl refl same
    where
      both : f x ≡ g x → list_any test xs ≡ false → (test x || list_any test xs) ≡ false
      both here rest = λ i. told x here i || rest i

      by : (filter_map f xs ≡ filter_map g xs → list_any test xs ≡ false) → (a b : Option X) → f x ≡ a → g x ≡ b
          → cons_option a (filter_map f xs) ≡ cons_option b (filter_map g xs) → (test x || list_any test xs) ≡ false
      by rest None None is_a is_b e = both (is_a ∙ sym is_b) (rest e)
      by rest (Some a) (Some b) is_a is_b e =
          let heads : a ≡ b = cc in
          let tails : filter_map f xs ≡ filter_map g xs = cc in
          both (is_a ∙ ap Some heads ∙ sym is_b) (rest tails)
      by rest (Some a) None is_a is_b e =
          let later = subst (KeysRise (key x + 1)) (sym e) (filter_map_rises g keeps' (key x + 1) xs rise.1) in
          absurd (omega (arith, later.0, keeps x a is_a))
      by rest None (Some b) is_a is_b e =
          let later = subst (KeysRise (key x + 1)) e (filter_map_rises f keeps (key x + 1) xs rise.1) in
          absurd (omega (arith, later.0, keeps' x b is_b))

-- and one list where they make the same of each
pub filter_map_alike : {X Y : Type 0} (f g : X → Option Y) (test : X → Bool) → ((x : X) → test x ≡ false → f x ≡ g x)
    → (xs : List X) → list_any test xs ≡ false → filter_map f xs ≡ filter_map g xs
filter_map_alike f g test told [] none = refl
filter_map_alike f g test told (x ∷ xs) none =
    let parts = or_parts (test x) (list_any test xs) none in
    λ i. cons_option (told x parts.0 i) (filter_map_alike f g test told xs parts.1 i)

-- the map of a list as a list of what is there
pub map_as_filter_map : {X Y : Type 0} (f : X → Y) (xs : List X) → map f xs ≡ filter_map (λ x. Some (f x)) xs
map_as_filter_map f [] = refl
map_as_filter_map f (x ∷ xs) = ap (λ ys. f x ∷ ys) (map_as_filter_map f xs)

-- ---- positions

module _ {X : Type 0} (same : X → X → Bool) (alike : (x : X) → same x x ≡ true)
    (sound : (x y : X) → same x y ≡ true → x ≡ y) where
  -- an element stands at its position
  pub get_or-position : (x d : X) (xs : List X) → list_any (same x) xs ≡ true
      → get_or xs (position_or_len (same x) xs) d ≡ x
  get_or-position x d [] there = absurd (true≢false (sym there))
  get_or-position x d (y ∷ ys) there = elim (cases_Bool (same x y)) [
    | inl is ↦ rw is (sym (sound x y is))
    | inr other ↦
        (let next : 1 + position_or_len (same x) ys ≡ suc (position_or_len (same x) ys) = omega arith in
        rw (other, next) (get_or-position x d ys (rw other at there)))
  ]

  -- so elements are one exactly where their positions are
  pub positions_tell : (x y : X) (xs : List X) → list_any (same x) xs ≡ true → list_any (same y) xs ≡ true
      → (position_or_len (same x) xs == position_or_len (same y) xs) ≡ same x y
  positions_tell x y xs has has' =
      same_truth _ _ (λ one. (let is : x ≡ y = sym (get_or-position x x xs has)
      ∙ ap (λ k. get_or xs k x) (eqb-true _ _ one) ∙ get_or-position y x xs has' in
      ap (same x) (sym is) ∙ alike x))
      (λ one. eq-eqb _ _ (ap (λ z. position_or_len (same z) xs) (sound x y one)))

-- ---- ranges and sums

-- tests that agree on a range
pub list_all_on_range : (p q : ℕ → Bool) (first count : ℕ) → ((k : ℕ) → first ≤ k → k < first + count → p k ≡ q k)
    → list_all p (range_with_len first count) ≡ list_all q (range_with_len first count)
list_all_on_range p q first zero same = refl
list_all_on_range p q first (suc count) same =
    λ i. same first (omega arith) (omega arith) i && list_all_on_range p q (first + 1) count
    (λ k from below. same k (omega arith) (omega arith)) i

-- functions that agree on each element have one sum
pub sum_by_where : {X : Type 0} (f g : X → ℕ) (xs : List X) → AllByRecursion (λ x. f x ≡ g x) xs
    → sum_by f xs ≡ sum_by g xs
sum_by_where f g [] same = refl
sum_by_where f g (x ∷ xs) same =
    omega (arith, sum_by-cons f x xs, sum_by-cons g x xs, same.0, sum_by_where f g xs same.1)

-- a sum has no fewer than its terms, where each is some
pub length-le-sum_by : {X : Type 0} (f : X → ℕ) → ((x : X) → 0 < f x) → (xs : List X) → length xs ≤ sum_by f xs
length-le-sum_by f some [] = omega arith
length-le-sum_by f some (x ∷ xs) = omega (arith, sum_by-cons f x xs, some x, length-le-sum_by f some xs)

-- one number more, of which the bit is set
pub bits_of_yes : (p : ℕ → Bool) (n : ℕ) → p n ≡ true → bits_of p (n + 1) ≡ bits_of p n + 2 ^ n
bits_of_yes p n passes =
    ap (sum_by (λ g. 2 ^ g))
    (filter-range-push p n ∙ ap (λ b. filter p (range_with_len 0 n) ++ cond b (n ∷ []) []) passes)
    ∙ sum_by-append (λ g. 2 ^ g) (filter p (range_with_len 0 n)) (n ∷ [])
    ∙ ap (λ k. bits_of p n + k) (sum_by-cons (λ g. 2 ^ g) n [] ∙ omega arith)

-- or isn't
pub bits_of_no : (p : ℕ → Bool) (n : ℕ) → p n ≡ false → bits_of p (n + 1) ≡ bits_of p n
bits_of_no p n fails =
    ap (sum_by (λ g. 2 ^ g))
    (filter-range-push p n ∙ ap (λ b. filter p (range_with_len 0 n) ++ cond b (n ∷ []) []) fails
    ∙ append-nil (filter p (range_with_len 0 n)))

-- ---- a list that is made by going over another

-- one element more
pub one_more_mapped : {X Y : Type 0} (f : X → Y) (xs : List X) (k : ℕ) (d : X) (made more : List Y) → k < length xs
    → made ≡ map f (take k xs) → more ≡ made ++ f (get_or xs k d) ∷ [] → more ≡ map f (take (k + 1) xs)
one_more_mapped f xs k d made more below is pushed =
    pushed ∙ ap (λ ys. ys ++ f (get_or xs k d) ∷ []) is
    ∙ sym (ap (map f) (take_more xs k d below) ∙ map_push f (take k xs) (get_or xs k d))

-- and the whole
pub all_mapped : {X Y : Type 0} (f : X → Y) (xs : List X) (k : ℕ) (made : List Y) → length xs ≤ k
    → made ≡ map f (take k xs) → made ≡ map f xs
all_mapped f xs k made end is = is ∙ ap (map f) (take_all k xs end)

-- ---- members of a list of numbers

-- what holds of each element holds of one that is among them
pub all_at_member : (P : ℕ → Type 0) (xs : List ℕ) (x : ℕ) → AllByRecursion P xs → list_any (λ y. y == x) xs ≡ true
    → P x
all_at_member P [] x all there = absurd (true≢false (sym there))
all_at_member P (y ∷ ys) x all there = elim (cases_Bool (y == x)) [
  | inl one ↦ subst P (eqb-true y x one) all.0
  | inr other ↦ all_at_member P ys x all.1 (rw other at there)
]

-- and so of a test
pub list_all_at_member : (p : ℕ → Bool) (xs : List ℕ) (x : ℕ) → list_all p xs ≡ true → list_any (λ y. y == x) xs ≡ true
    → p x ≡ true
list_all_at_member p [] x all there = absurd (true≢false (sym there))
list_all_at_member p (y ∷ ys) x all there =
    let parts = and_parts (p y) (list_all p ys) all in
    elim (cases_Bool (y == x)) [
      | inl one ↦ ap p (sym (eqb-true y x one)) ∙ parts.0
      | inr other ↦ list_all_at_member p ys x parts.1 (rw other at there)
    ]

-- what stands in a map is made of a member
pub from_mapped : {Y : Type 0} (f : ℕ → Y) (xs : List ℕ) (y : Y) → Contains (map f xs) y
    → (x : ℕ) × (list_any (λ z. z == x) xs ≡ true) × (f x ≡ y)
from_mapped f xs y (k, below, is) =
    let within : k < length xs = omega (arith, below, length-map xs f) in
    let x : ℕ = get_or xs k 0 in
    (x, list_any_at (λ z. z == x) xs k 0 within (eq-eqb x x refl), sym (get_or-map f xs k 0 y within) ∙ is)

-- a function that takes back what another one made of each element
pub map_undone : {X Y : Type 0} (f : X → Y) (back : Y → X) → ((x : X) → back (f x) ≡ x) → (xs : List X)
    → map back (map f xs) ≡ xs
map_undone f back undoes [] = refl
map_undone f back undoes (x ∷ xs) = λ i. undoes x i ∷ map_undone f back undoes xs i

-- what holds of all that a function makes holds of each element of its map
pub all_of_mapped : {X Y : Type 0} (P : Y → Type 0) (f : X → Y) → ((x : X) → P (f x)) → (xs : List X)
    → AllByRecursion P (map f xs)
all_of_mapped P f each [] = tt
all_of_mapped P f each (x ∷ xs) = (each x, all_of_mapped P f each xs)

-- what holds of each element of a map holds of what it is made of
pub All-of_map : {X Y : Type 0} (P : Y → Type 0) (f : X → Y) (xs : List X) → All P (map f xs) → All (λ x. P (f x)) xs
All-of_map P f xs all k d below = subst P (get_or-map f xs k d (f d) below)
    (all k (f d) (omega (arith, below, length-map xs f)))
