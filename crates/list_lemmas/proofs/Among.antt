-- What is among the elements of a list of numbers, what is made of them, and lists that are gone through side by side.
use Rattle.std.proofs.Common.{◌≡◌, ℕ, suc, ◌+◌, ◌<◌, ◌≤◌, ◌==◌, ◌||◌, ◌&&◌, List, [], ◌∷◌, ◌++◌, length, map, filter}
use Rattle.std.proofs.Common.{fold, get_or, not, cond, Bool, true, false, true≢false, Option, Some, None, refl, sym}
use Rattle.std.proofs.Common.{◌∙◌, ap, subst, inl, inr, ◌⊎◌, arith, All}
use Rattle.std.specs.List.{list_any, filter_map, cons_option, position_or_len, AllByRecursion, AllZip, Contains}
use Rattle.std.specs.List.Sorted.{IsStrictlyIncreasing}
use Rattle.std.specs.Option.{is_some, option_map_or, option_and_then}
use Rattle.std.proofs.lemmas.Bool.{cases_Bool, cases_eq, eq-eqb, ne_eqb, eqb-true, or_left, or_right}
use Rattle.std.proofs.lemmas.List.{get_or-drop}
use Rattle.std.proofs.lemmas.List.Folds.{list_any-append, list_any_at}
use Rattle.std.proofs.lemmas.List.Kept.{IsStrictlyIncreasing-filter}
use Rattle.std.proofs.lemmas.List.Elements.{All-filter}
use Rattle.list_lemmas.proofs.Tests.{same_truth}

-- ---- numbers that are in a list

-- the number is in the list
abbrev pub Among : List ℕ → ℕ → Type 0
Among xs x = list_any (λ y. y == x) xs ≡ true

-- it is the first one
pub among_here : (first x : ℕ) (xs : List ℕ) → first ≡ x → Among (first ∷ xs) x
among_here first x xs is = or_left (first == x) _ (eq-eqb first x is)

-- or among the others
pub among_after : (first x : ℕ) (xs : List ℕ) → Among xs x → Among (first ∷ xs) x
among_after first x xs there = or_right (first == x) _ there

-- and there are no more cases
pub among_cases : (first x : ℕ) (xs : List ℕ) → Among (first ∷ xs) x → (first ≡ x) ⊎ Among xs x
among_cases first x xs there = elim (cases_eq first x) [
  | inl is ↦ inl is
  | inr other ↦ inr (sym (ap (λ b. b || list_any (λ y. y == x) xs) (ne_eqb first x other)) ∙ there)
]

-- of two lists it is in the first one
pub among_left : (xs ys : List ℕ) (x : ℕ) → Among xs x → Among (xs ++ ys) x
among_left xs ys x there = list_any-append (λ y. y == x) xs ys ∙ or_left _ (list_any (λ y. y == x) ys) there

-- or in the second one
pub among_right : (xs ys : List ℕ) (x : ℕ) → Among ys x → Among (xs ++ ys) x
among_right xs ys x there = list_any-append (λ y. y == x) xs ys ∙ or_right (list_any (λ y. y == x) xs) _ there

-- it contains it
pub among_contained : (xs : List ℕ) (x : ℕ) → Among xs x → Contains xs x
among_contained [] x there = absurd (true≢false (sym there))
among_contained (y ∷ ys) x there = elim (among_cases y x ys there) [
  | inl is ↦ (0, omega arith, is)
  | inr more ↦ let rest = among_contained ys x more in (suc rest.0, omega (arith, rest.1), rest.2)
]

-- and what it contains is in it
pub contained_among : (xs : List ℕ) (x : ℕ) → Contains xs x → Among xs x
contained_among xs x (k, below, is) = list_any_at (λ y. y == x) xs k x below (eq-eqb _ x is)

-- some element that passes a test
pub some_passes : (p : ℕ → Bool) (xs : List ℕ) → list_any p xs ≡ true → (x : ℕ) × Among xs x × (p x ≡ true)
some_passes p [] there = absurd (true≢false (sym there))
some_passes p (x ∷ xs) there = elim (cases_Bool (p x)) [
  | inl is ↦ (x, among_here x x xs refl, is)
  | inr fails ↦
      let rest = some_passes p xs (sym (ap (λ b. b || list_any p xs) fails) ∙ there) in
      (rest.0, among_after x rest.0 xs rest.1, rest.2)
]

-- and what an element that passes says of the list
pub passes_inside : (p : ℕ → Bool) (xs : List ℕ) (x : ℕ) → Among xs x → p x ≡ true → list_any p xs ≡ true
passes_inside p [] x there is = absurd (true≢false (sym there))
passes_inside p (y ∷ ys) x there is = elim (among_cases y x ys there) [
  | inl same ↦ or_left (p y) _ (ap p same ∙ is)
  | inr more ↦ or_right (p y) _ (passes_inside p ys x more is)
]

-- ---- lists of the same elements

-- Two lists have the same elements.
abbrev pub SameElements : List ℕ → List ℕ → Type 0
SameElements xs ys = (x : ℕ) → list_any (λ y. y == x) xs ≡ list_any (λ y. y == x) ys

-- a test that some element passes
pub any_same : (xs ys : List ℕ) → SameElements xs ys → (p : ℕ → Bool) → list_any p xs ≡ list_any p ys
any_same xs ys same p = same_truth _ _
    (λ there. (let its = some_passes p xs there in
    passes_inside p ys its.0 (sym (same its.0) ∙ its.1) its.2))
    (λ there. (let its = some_passes p ys there in passes_inside p xs its.0 (same its.0 ∙ its.1) its.2))

-- a test of what a function makes of the elements
any-map : (p : ℕ → Bool) (f : ℕ → ℕ) (xs : List ℕ) → list_any p (map f xs) ≡ list_any (λ x. p (f x)) xs
any-map p f [] = refl
any-map p f (x ∷ xs) = ap (λ b. p (f x) || b) (any-map p f xs)

-- and of what it makes of some
any-filter_map : (p : ℕ → Bool) (f : ℕ → Option ℕ) (xs : List ℕ)
    → list_any p (filter_map f xs) ≡ list_any (λ x. option_map_or p (f x) false) xs
any-filter_map p f [] = refl
any-filter_map p f (x ∷ xs) = by (f x) (any-filter_map p f xs)
  where
    by : (found : Option ℕ) → list_any p (filter_map f xs) ≡ list_any (λ x. option_map_or p (f x) false) xs
        → list_any p (cons_option found (filter_map f xs))
        ≡ (option_map_or p found false || list_any (λ x. option_map_or p (f x) false) xs)
    by None rest = rest
    by (Some y) rest = ap (λ b. p y || b) rest

-- so that has the same elements too
pub same_maps : (f : ℕ → ℕ) (xs ys : List ℕ) → SameElements xs ys → SameElements (map f xs) (map f ys)
same_maps f xs ys same x =
    any-map (λ y. y == x) f xs ∙ any_same xs ys same (λ y. f y == x) ∙ sym (any-map (λ y. y == x) f ys)

-- and the same of some
pub same_filter_maps : (f : ℕ → Option ℕ) (xs ys : List ℕ) → SameElements xs ys
    → SameElements (filter_map f xs) (filter_map f ys)
same_filter_maps f xs ys same x =
    any-filter_map (λ y. y == x) f xs ∙ any_same xs ys same (λ y. option_map_or (λ z. z == x) (f y) false)
    ∙ sym (any-filter_map (λ y. y == x) f ys)

-- ---- numbers that rise

-- The numbers rise, the first of them from a number on.
abbrev pub NumbersRise : ℕ → List ℕ → Type 0
NumbersRise least [] = Unit {0}
NumbersRise least (number ∷ numbers) = (least ≤ number) × NumbersRise (number + 1) numbers

-- so do those of which each is below the next
pub numbers_rise_from : (numbers : List ℕ) (least : ℕ) → (0 < length numbers → least ≤ get_or numbers 0 0) →
    IsStrictlyIncreasing numbers → NumbersRise least numbers
numbers_rise_from [] least first rise = tt
numbers_rise_from (number ∷ numbers) least first rise = (
  first (omega arith),
  numbers_rise_from numbers (number + 1) (λ some. (let step = rise 0 (omega arith) in omega (arith, step)))
      (λ k below. (let next : k + 1 + 1 < length (number ∷ numbers) = omega arith in shift k (rise (k + 1) next))),
)
  where
    shift : (k : ℕ) → get_or (number ∷ numbers) (k + 1) 0 < get_or (number ∷ numbers) (k + 1 + 1) 0 →
        get_or numbers k 0 < get_or numbers (k + 1) 0
    shift k h =
        let all : List ℕ = number ∷ numbers in
        let one : get_or numbers k 0 ≡ get_or all (k + 1) 0 = get_or-drop 1 all k 0
        ∙ ap (λ n. get_or all n 0) (omega arith) in
        let two : get_or numbers (k + 1) 0 ≡ get_or all (k + 1 + 1) 0 = get_or-drop 1 all (k + 1) 0
        ∙ ap (λ n. get_or all n 0) (omega arith) in
        rw (one, two) h

-- from 0 on
pub numbers_rise : (numbers : List ℕ) → IsStrictlyIncreasing numbers → NumbersRise 0 numbers
numbers_rise numbers rise = numbers_rise_from numbers 0 (λ some. omega arith) rise

-- ---- functions that make something of some numbers, and what is made tells the number

-- Another function leads back.
abbrev pub LeadsBack : (ℕ → ℕ) → (ℕ → Option ℕ) → Type 0
LeadsBack back f = (x y : ℕ) → f x ≡ Some y → back y ≡ x

-- what is made of some numbers leads back to these
pub map-back : (back : ℕ → ℕ) (f : ℕ → Option ℕ) → LeadsBack back f → (xs : List ℕ)
    → map back (filter_map f xs) ≡ filter (λ x. is_some (f x)) xs
map-back back f leads [] = refl
map-back back f leads (x ∷ xs) = by (f x) refl (map-back back f leads xs)
  where
    by : (found : Option ℕ) → f x ≡ found → map back (filter_map f xs) ≡ filter (λ x. is_some (f x)) xs
        → map back (cons_option found (filter_map f xs))
        ≡ cond (is_some found) (x ∷ filter (λ x. is_some (f x)) xs) (filter (λ x. is_some (f x)) xs)
    by None is rest = rest
    by (Some y) is rest = λ i. leads x y is i ∷ rest i

-- so these rise where all do
pub back_rises : (back : ℕ → ℕ) (f : ℕ → Option ℕ) → LeadsBack back f → (xs : List ℕ) → IsStrictlyIncreasing xs
    → IsStrictlyIncreasing (map back (filter_map f xs))
back_rises back f leads xs rise =
    subst IsStrictlyIncreasing (sym (map-back back f leads xs))
    (IsStrictlyIncreasing-filter (λ x. is_some (f x)) xs rise)

-- and have what all have
pub back_has : (back : ℕ → ℕ) (f : ℕ → Option ℕ) → LeadsBack back f → (P : ℕ → Type 0) (xs : List ℕ) → All P xs
    → All P (map back (filter_map f xs))
back_has back f leads P xs all =
    subst (All P) (sym (map-back back f leads xs)) (All-filter (λ x. is_some (f x)) P xs all)

-- two functions that agree on each number make the same
pub filter_map_agree : (f g : ℕ → Option ℕ) (xs : List ℕ) → ((x : ℕ) → Among xs x → f x ≡ g x)
    → filter_map f xs ≡ filter_map g xs
filter_map_agree f g [] same = refl
filter_map_agree f g (x ∷ xs) same = λ i. cons_option (same x (among_here x x xs refl) i)
    (filter_map_agree f g xs (λ y there. same y (among_after x y xs there)) i)

-- what is made of a number is among what is made of all
made_among : (f : ℕ → Option ℕ) (xs : List ℕ) (x y : ℕ) → Among xs x → f x ≡ Some y → Among (filter_map f xs) y
made_among f xs x y there is = any-filter_map (λ z. z == y) f xs
    ∙ passes_inside (λ z. option_map_or (λ w. w == y) (f z) false) xs x there
    (ap (λ found. option_map_or (λ w. w == y) found false) is ∙ eq-eqb y y refl)

-- and comes from a number
made_from : (f : ℕ → Option ℕ) (xs : List ℕ) (y : ℕ) → Among (filter_map f xs) y
    → (x : ℕ) × Among xs x × (f x ≡ Some y)
made_from f xs y there =
    let its = some_passes (λ z. option_map_or (λ w. w == y) (f z) false) xs
    (sym (any-filter_map (λ z. z == y) f xs) ∙ there) in
    (its.0, its.1, by (f its.0) its.2)
  where
    by : (found : Option ℕ) → option_map_or (λ w. w == y) found false ≡ true → found ≡ Some y
    by None is = absurd (true≢false (sym is))
    by (Some w) is = ap Some (eqb-true w y is)

module _ (back : ℕ → ℕ) (f g : ℕ → Option ℕ) (leads_f : LeadsBack back f) (leads_g : LeadsBack back g) where
  -- where the same is made of all, the same is made of each
  pub made_same : (xs : List ℕ) → filter_map f xs ≡ filter_map g xs → (x : ℕ) → Among xs x → f x ≡ g x
  made_same xs same x there = by (f x) (g x) refl refl
    where
      by : (one other : Option ℕ) → f x ≡ one → g x ≡ other → one ≡ other
      by None None is to = refl
      by None (Some y) is to =
          let its = made_from f xs y (subst (λ l. Among l y) (sym same) (made_among g xs x y there to)) in
          sym is ∙ ap f (sym (leads_g x y to) ∙ leads_f its.0 y its.2) ∙ its.2
      by (Some y) other is to =
          let its = made_from g xs y (subst (λ l. Among l y) same (made_among f xs x y there is)) in
          sym its.2 ∙ ap g (sym (leads_g its.0 y its.2) ∙ leads_f x y is) ∙ to

  -- and so it is for other lists of the same numbers
  pub made_same_of : (xs ys : List ℕ) → SameElements xs ys → filter_map f xs ≡ filter_map g xs
      → filter_map f ys ≡ filter_map g ys
  made_same_of xs ys elements same =
      filter_map_agree f g ys (λ x there. made_same xs same x (elements x ∙ there))

-- nothing is made
pub filter_map-nothing : (xs : List ℕ) → filter_map {X = ℕ} {Y = ℕ} (λ _. None) xs ≡ []
filter_map-nothing [] = refl
filter_map-nothing (x ∷ xs) = filter_map-nothing xs

-- something is made of what was made
pub filter_map-twice : (f g : ℕ → Option ℕ) (xs : List ℕ)
    → filter_map (λ x. option_and_then g (f x)) xs ≡ filter_map g (filter_map f xs)
filter_map-twice f g [] = refl
filter_map-twice f g (x ∷ xs) = by (f x) (filter_map-twice f g xs)
  where
    by : (found : Option ℕ) → filter_map (λ x. option_and_then g (f x)) xs ≡ filter_map g (filter_map f xs)
        → cons_option (option_and_then g found) (filter_map (λ x. option_and_then g (f x)) xs)
        ≡ filter_map g (cons_option found (filter_map f xs))
    by None rest = rest
    by (Some y) rest = ap (cons_option (g y)) rest

-- ---- two lists side by side

module _ {X Y : Type 0} (R : X → Y → Type 0) where
  -- tests that agree on each two
  pub zip_any : (p : X → Bool) (q : Y → Bool) → ((x : X) (y : Y) → R x y → p x ≡ q y) → (xs : List X) (ys : List Y)
      → AllZip R xs ys → list_any p xs ≡ list_any q ys
  zip_any p q same [] [] all = refl
  zip_any p q same [] (y ∷ ys) all = absurd all
  zip_any p q same (x ∷ xs) [] all = absurd all
  zip_any p q same (x ∷ xs) (y ∷ ys) all = λ i. same x y all.0 i || zip_any p q same xs ys all.1 i

  -- pass at the same place first
  pub zip_place : (p : X → Bool) (q : Y → Bool) → ((x : X) (y : Y) → R x y → p x ≡ q y) → (xs : List X) (ys : List Y)
      → AllZip R xs ys → position_or_len p xs ≡ position_or_len q ys
  zip_place p q same [] [] all = refl
  zip_place p q same [] (y ∷ ys) all = absurd all
  zip_place p q same (x ∷ xs) [] all = absurd all
  zip_place p q same (x ∷ xs) (y ∷ ys) all = λ i. cond (not (same x y all.0 i)) (1 + zip_place p q same xs ys all.1 i) 0

  -- what follows of each two
  pub zip_weaker : (Q : X → Y → Type 0) → ((x : X) (y : Y) → R x y → Q x y) → (xs : List X) (ys : List Y)
      → AllZip R xs ys → AllZip Q xs ys
  zip_weaker Q weaker [] [] all = tt
  zip_weaker Q weaker [] (y ∷ ys) all = absurd all
  zip_weaker Q weaker (x ∷ xs) [] all = absurd all
  zip_weaker Q weaker (x ∷ xs) (y ∷ ys) all = (weaker x y all.0, zip_weaker Q weaker xs ys all.1)

  -- a function that makes the first of the second
  pub zip_map : (P : X → Type 0) (f : Y → X) → ((x : X) (y : Y) → P x → R x y → f y ≡ x) → (xs : List X) (ys : List Y)
      → AllByRecursion P xs → AllZip R xs ys → map f ys ≡ xs
  zip_map P f each [] [] every all = refl
  zip_map P f each [] (y ∷ ys) every all = absurd all
  zip_map P f each (x ∷ xs) [] every all = absurd all
  zip_map P f each (x ∷ xs) (y ∷ ys) every all =
      λ i. each x y every.0 all.0 i ∷ zip_map P f each xs ys every.1 all.1 i

-- two lists in which elements are gathered that are live and not there yet, where the tests on the one side say what
-- those on the other side say
module _ {X Y : Type 0} (R : X → Y → Type 0) (same : X → X → Bool) (equal : Y → Y → Bool) (live : X → Bool)
    (some : Y → Bool) (agree : (x other : X) (y another : Y) → R x y → R other another → same x other ≡ equal y another)
    (alive : (x : X) (y : Y) → R x y → live x ≡ some y) where
  -- two more at the end
  zip_push : (x : X) (y : Y) → R x y → (xs : List X) (ys : List Y) → AllZip R xs ys
      → AllZip R (xs ++ x ∷ []) (ys ++ y ∷ [])
  zip_push x y more [] [] all = (more, tt)
  zip_push x y more [] (k ∷ ys) all = absurd all
  zip_push x y more (l ∷ xs) [] all = absurd all
  zip_push x y more (l ∷ xs) (k ∷ ys) all = (all.0, zip_push x y more xs ys all.1)

  -- and two more where they aren't there yet
  zip_found : (x : X) (y : Y) → R x y → (xs : List X) (ys : List Y) → AllZip R xs ys
      → AllZip R (cond (live x && not (list_any (same x) xs)) (xs ++ x ∷ []) xs)
      (cond (some y && not (list_any (equal y) ys)) (ys ++ y ∷ []) ys)
  zip_found x y more xs ys all =
      subst (λ b. AllZip R (cond b (xs ++ x ∷ []) xs) (cond (some y && not (list_any (equal y) ys)) (ys ++ y ∷ []) ys))
      (sym (λ i. alive x y more i && not (zip_any R (same x) (equal y) (λ l k is. agree x l y k more is) xs ys all i)))
      (by (some y && not (list_any (equal y) ys)))
    where
      by : (b : Bool) → AllZip R (cond b (xs ++ x ∷ []) xs) (cond b (ys ++ y ∷ []) ys)
      by true = zip_push x y more xs ys all
      by false = all

  -- they stay side by side
  pub zip_finds : {N : Type 0} (f : N → X) (g : N → Y) (ns : List N) (xs : List X) (ys : List Y)
      → AllByRecursion (λ n. R (f n) (g n)) ns → AllZip R xs ys
      → AllZip R
      (fold (λ found x. cond (live x && not (list_any (same x) found)) (found ++ x ∷ []) found) xs (map f ns))
      (fold (λ found y. cond (some y && not (list_any (equal y) found)) (found ++ y ∷ []) found) ys (map g ns))
  zip_finds f g [] xs ys each all = all
  zip_finds f g (n ∷ ns) xs ys each all =
      zip_finds f g ns _ _ each.1 (zip_found (f n) (g n) each.0 xs ys all)
