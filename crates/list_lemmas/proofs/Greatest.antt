-- The greatest of what a function makes of numbers, and the places that one gives them.
use Rattle.std.proofs.Common.{◌≡◌, ℕ, zero, suc, ◌+◌, ◌<◌, ◌≤◌, ◌≢◌, List, [], ◌∷◌, ◌++◌, length, map, filter, set}
use Rattle.std.proofs.Common.{get_or, max, not, cond, Bool, true, false, true≢false, Option, Some, None, refl, sym}
use Rattle.std.proofs.Common.{◌∙◌, ap, subst, inl, inr, ◌⊎◌, arith, All}
use Rattle.std.specs.Prelude.{nat_eq, nat_lt}
use Rattle.std.specs.List.{AllByRecursion, Contains, range_with_len}
use Rattle.std.specs.Option.{option_map_or}
use Rattle.std.specs.Str.{bytes_eq}
use Rattle.std.proofs.lemmas.Bool.{cases_Bool, cases_eq, cases_lt, eq-eqb, eqb-true}
use Rattle.std.proofs.lemmas.Bool.Decides.{nat_tests}
use Rattle.std.proofs.lemmas.List.{get_or-set_same, get_or-set_other, length-set}
use Rattle.std.proofs.lemmas.List.FromFn.{get_or-map-range_with_len, map-range_with_len_more}
use Rattle.std.proofs.lemmas.List.Elements.{All-head, All-tail, All-contains}
use Rattle.std.proofs.lemmas.Slice.Eq.{bytes_eq-Decides}
use Rattle.std.proofs.Math.Numerals.{add-one}
use Rattle.list_lemmas.proofs.Members.{contained, filter-none}
use Rattle.list_lemmas.proofs.Elements.{map_back}
use Rattle.list_lemmas.proofs.Tests.{same_truth}
use Rattle.list_lemmas.proofs.Among.{Among, among_here, among_after, among_cases, among_contained, contained_among}
use Rattle.list_lemmas.proofs.Among.{SameElements}

-- ---- the greatest of what a function makes of numbers

-- 0 of none
abbrev pub greatest : (ℕ → ℕ) → List ℕ → ℕ
greatest f [] = 0
greatest f (x ∷ xs) = max (f x) (greatest f xs)

-- each is at most that
pub greatest_upper : (f : ℕ → ℕ) (xs : List ℕ) (x : ℕ) → Among xs x → f x ≤ greatest f xs
greatest_upper f [] x there = absurd (true≢false (sym there))
greatest_upper f (y ∷ ys) x there = elim (among_cases y x ys there) [
  | inl is ↦ omega (arith, ap f is)
  | inr more ↦ omega (arith, greatest_upper f ys x more)
]

-- and that is at most what all are at most
pub greatest_within : (f : ℕ → ℕ) (xs : List ℕ) (most : ℕ) → ((x : ℕ) → Among xs x → f x ≤ most) → greatest f xs ≤ most
greatest_within f [] most each = omega arith
greatest_within f (x ∷ xs) most each =
    omega (
      arith,
      each x (among_here x x xs refl),
      greatest_within f xs most (λ y there. each y (among_after x y xs there)),
    )

-- lists of the same elements have one
pub greatest_same : (xs ys : List ℕ) → SameElements xs ys → (f : ℕ → ℕ) → greatest f xs ≡ greatest f ys
greatest_same xs ys same f =
    omega (
      arith,
      greatest_within f xs (greatest f ys) (λ x there. greatest_upper f ys x (sym (same x) ∙ there)),
      greatest_within f ys (greatest f xs) (λ x there. greatest_upper f xs x (same x ∙ there)),
    )

-- of a list that is not empty, one number is its own greatest
pub greatest_constant : (n x : ℕ) (xs : List ℕ) → greatest (λ _. n) (x ∷ xs) ≡ n
greatest_constant n x xs = omega (arith, greatest_within (λ _. n) xs n (λ _ _. omega arith))

-- two functions that agree on each element
pub greatest_agree : (f g : ℕ → ℕ) (xs : List ℕ) → All (λ x. f x ≡ g x) xs → greatest f xs ≡ greatest g xs
greatest_agree f g [] agree = refl
greatest_agree f g (x ∷ xs) agree = λ i. max (All-head (λ x. f x ≡ g x) x xs agree i)
    (greatest_agree f g xs (All-tail (λ x. f x ≡ g x) x xs agree) i)

-- it is that of one of them, or 0
pub greatest_reached : (f : ℕ → ℕ) (xs : List ℕ)
    → (greatest f xs ≡ 0) ⊎ ((x : ℕ) × Among xs x × (greatest f xs ≡ f x) × (0 < f x))
greatest_reached f [] = inl refl
greatest_reached f (x ∷ xs) = elim (cases_lt (greatest f xs) (f x)) [
  | inl less ↦ inr (x, among_here x x xs refl, omega (arith, less), omega (arith, less))
  | inr more ↦ elim (greatest_reached f xs) [
    | inl nil ↦ inl (omega (arith, nil, more))
    | inr its ↦ inr (its.0, among_after x its.0 xs its.1, omega (arith, more, its.2), its.3)
  ]
]

-- The element passes, and has the greatest of what all that pass have.
pub record IsGreatest (p : ℕ → Bool) (f : ℕ → ℕ) (xs : List ℕ) (x : ℕ) : Type 0 where
  pub among : Contains xs x
  pub passes : p x ≡ true
  pub is : greatest (λ y. cond (p y) (f y) 0) xs ≡ f x
  pub below : (other : ℕ) → Contains xs other → p other ≡ true → other ≢ x → f other < f x

-- there is such an element, or none passes
pub greatest_passing : (p : ℕ → Bool) (f : ℕ → ℕ) (xs : List ℕ) → All (λ x. 0 < f x) xs
    → ((x y : ℕ) → Contains xs x → Contains xs y → x ≢ y → f x ≢ f y)
    → ((greatest (λ y. cond (p y) (f y) 0) xs ≡ 0) × (filter p xs ≡ [])) ⊎ ((x : ℕ) × IsGreatest p f xs x)
greatest_passing p f xs some apart = by (greatest_reached (λ y. cond (p y) (f y) 0) xs)
  where
    above : (y : ℕ) → Contains xs y → p y ≡ true → f y ≤ greatest (λ y. cond (p y) (f y) 0) xs
    above y there is = subst (λ b. cond b (f y) 0 ≤ greatest (λ y. cond (p y) (f y) 0) xs) is
        (greatest_upper (λ y. cond (p y) (f y) 0) xs y (contained_among xs y there))

    passing : (x : ℕ) (b : Bool) → 0 < cond b (f x) 0 → (b ≡ true) × (cond b (f x) 0 ≡ f x)
    passing x true some = (refl, refl)
    passing x false some = absurd (omega (arith, some))

    by : (greatest (λ y. cond (p y) (f y) 0) xs ≡ 0)
        ⊎ ((x : ℕ) × Among xs x × (greatest (λ y. cond (p y) (f y) 0) xs ≡ cond (p x) (f x) 0)
        × (0 < cond (p x) (f x) 0))
        → ((greatest (λ y. cond (p y) (f y) 0) xs ≡ 0) × (filter p xs ≡ [])) ⊎ ((x : ℕ) × IsGreatest p f xs x)
    by (inl nil) = inl (
      nil,
      filter-none p xs (λ y there. elim (cases_Bool (p y)) [
        | inl is ↦
            let among = contained xs y there in
            absurd (omega (arith, above y among is, nil, All-contains (λ x. 0 < f x) xs y some among))
        | inr fails ↦ fails
      ]),
    )
    by (inr (x, there, is, more)) =
        let its = passing x (p x) more in
        inr (
          x,
          record {
            among = among_contained xs x there;
            passes = its.0;
            is = is ∙ its.1;
            below = λ other among passes differs. omega (
              arith,
              above other among passes,
              is,
              its.1,
              apart other x among (among_contained xs x there) differs,
            );
          },
        )

-- ---- lists that are made of numbers, element by element

-- what is made of a range
pub all-map_range : (P : ℕ → Type 0) (f : ℕ → ℕ) (first n : ℕ) → ((x : ℕ) → x < first + n → P (f x))
    → AllByRecursion P (map f (range_with_len first n))
all-map_range P f first zero each = tt
all-map_range P f first (suc n) each =
    (each first (omega arith), all-map_range P f (first + 1) n (λ x below. each x (omega (arith, below))))

-- an element of what is made of the numbers below a bound
pub get_or-numbers : {X : Type 0} (f : ℕ → X) (n i : ℕ) (d : X) → i < n → get_or (map f (range_with_len 0 n)) i d ≡ f i
get_or-numbers f n i d below = get_or-map-range_with_len f 0 n i i d below (omega arith)

-- what is made of one more number
pub one_more_number : {X : Type 0} (f : ℕ → X) (n : ℕ) (x : X) (made more : List X)
    → made ≡ map f (range_with_len 0 n) → more ≡ made ++ x ∷ [] → x ≡ f n → more ≡ map f (range_with_len 0 (n + 1))
one_more_number f n x made more is pushed same =
    pushed ∙ (λ i. is i ++ same i ∷ []) ∙ sym (map-range_with_len_more f 0 n n (omega arith))

-- a function that keeps numbers apart keeps their lists apart
pub map_apart : (P : ℕ → Type 0) (f : ℕ → ℕ) → ((x y : ℕ) → P x → P y → f x ≡ f y → x ≡ y) → (xs ys : List ℕ)
    → AllByRecursion P xs → AllByRecursion P ys → map f xs ≡ map f ys → xs ≡ ys
map_apart P f apart [] [] all every same = refl
map_apart P f apart [] (y ∷ ys) all every same = absurd cc
map_apart P f apart (x ∷ xs) [] all every same = absurd cc
map_apart P f apart (x ∷ xs) (y ∷ ys) all every same =
    let here : f x ≡ f y = cc in
    let after : map f xs ≡ map f ys = cc in
    λ i. apart x y all.0 every.0 here i ∷ map_apart P f apart xs ys all.1 every.1 after i

-- lists are one where numbers are
pub tests_agree : (xs ys : List ℕ) (n m : ℕ) → (n ≡ m → xs ≡ ys) → (xs ≡ ys → n ≡ m) → bytes_eq xs ys ≡ nat_eq n m
tests_agree xs ys n m there back =
    same_truth _ _ (λ same. eq-eqb n m (back ((bytes_eq-Decides xs ys).0 same)))
    (λ same. (bytes_eq-Decides xs ys).1 (there (eqb-true n m same)))

-- so a list has an element where a number is above 0
pub test_live : (xs : List ℕ) (n : ℕ) → bytes_eq xs [] ≡ nat_eq n 0 → not (bytes_eq xs []) ≡ nat_lt 0 n
test_live xs n same = ap not same ∙ grind (arith, nat_tests)

-- ---- places that a function gives numbers

-- the place of a number plus 1, and 0 of 0
abbrev pub place_of : (ℕ → ℕ) → ℕ → ℕ
place_of f zero = 0
place_of f (suc n) = f n

-- The places of the first numbers have these plus 1, and place 0 has 0.
pub record ArePlaced (f : ℕ → ℕ) (most : ℕ) (places : List ℕ) (count : ℕ) : Type 0 where
  pub long : length places ≡ most + 1
  pub none : get_or places 0 0 ≡ 0
  pub each : (n : ℕ) → n < count → get_or places (f n) 0 ≡ n + 1

-- so the places of a list of numbers have these
pub placed_back : (f : ℕ → ℕ) (most : ℕ) (places : List ℕ) → get_or places 0 0 ≡ 0
    → ((n : ℕ) → n < most → get_or places (f n) 0 ≡ n + 1) → (xs : List ℕ) → AllByRecursion (λ x. x ≤ most) xs
    → map (λ place. get_or places place 0) (map (place_of f) xs) ≡ xs
placed_back f most places none each =
    map_back (λ x. x ≤ most) (place_of f) (λ place. get_or places place 0) by
  where
    by : (x : ℕ) → x ≤ most → get_or places (place_of f x) 0 ≡ x
    by zero within = none
    by (suc n) within = each n (omega (arith, within)) ∙ omega arith

module _ (f : ℕ → ℕ) (most : ℕ) (bounds : (n : ℕ) → n < most → (1 ≤ f n) × (f n ≤ most))
    (distinct : (n m : ℕ) → n < most → m < most → n ≢ m → f n ≢ f m) where
  -- the place of one more number
  pub one_more_placed : (places : List ℕ) (count place : ℕ) → count < most → place ≡ f count
      → ArePlaced f most places count → ArePlaced f most (set places place (count + 1)) (count + 1)
  one_more_placed places count place within is so_far = record {
    long = length-set places place (count + 1) ∙ so_far.long;
    none = get_or-set_other places place 0 (count + 1) 0 (λ e. omega (arith, e, is, (bounds count within).0))
        ∙ so_far.none;
    each = λ n below. elim (cases_eq n count) [
      | inl e ↦
          ap (λ k. get_or (set places place (count + 1)) k 0) (ap f e ∙ sym is)
          ∙ get_or-set_same places place (count + 1) 0 (omega (arith, is, so_far.long, (bounds count within).1))
          ∙ ap (λ k. k + 1) (sym e)
      | inr other ↦
          get_or-set_other places place (f n) (count + 1) 0
          (λ e. distinct n count (omega (arith, within, below)) within other (e ∙ is))
          ∙ so_far.each n (omega (arith, below, other))
    ];
  }

  -- numbers of one place are one
  place_apart : (x y : ℕ) → x ≤ most → y ≤ most → place_of f x ≡ place_of f y → x ≡ y
  place_apart zero zero one other same = refl
  place_apart zero (suc m) one other same = absurd (omega (arith, same, (bounds m other).0))
  place_apart (suc n) zero one other same = absurd (omega (arith, same, (bounds n one).0))
  place_apart (suc n) (suc m) one other same = elim (cases_eq n m) [
    | inl is ↦ ap suc is
    | inr differ ↦ absurd (distinct n m one other differ same)
  ]

  -- lists of the same places are one
  pub places_apart : (xs ys : List ℕ) → AllByRecursion (λ x. x ≤ most) xs → AllByRecursion (λ x. x ≤ most) ys
      → map (place_of f) xs ≡ map (place_of f) ys → xs ≡ ys
  places_apart = map_apart (λ x. x ≤ most) (place_of f) place_apart

  -- the greatest place of those that pass is that of the best of them, or 0 where none passes
  pub greatest_best : (p : ℕ → Bool) (xs : List ℕ) (best : Option ℕ) → All (λ x. x < most) xs
      → (filter p xs ≡ [] → best ≡ None) → ((x : ℕ) → IsGreatest p f xs x → best ≡ Some x)
      → (option_map_or (λ x. x + 1) best 0 ≤ most)
      × (greatest (λ x. cond (p x) (f x) 0) xs ≡ place_of f (option_map_or (λ x. x + 1) best 0))
  greatest_best p xs best inside none some =
      elim (greatest_passing p f xs (λ k d below. (bounds (get_or xs k d) (inside k d below)).0) (λ x y one other.
      distinct x y (All-contains (λ x. x < most) xs x inside one) (All-contains (λ x. x < most) xs y inside other))) [
        | inl (nil, fails) ↦ let is = none fails in rw is (omega arith, nil)
        | inr (x, its) ↦
            let is = some x its in
            rw (is, add-one x) (omega (arith, All-contains (λ x. x < most) xs x inside its.among), its.is)
      ]
