-- Elements that pass a test, lists without twins, and two lists side by side.
use Rattle.std.proofs.Common.{◌≡◌, ℕ, zero, suc, ◌+◌, ◌-◌, ◌<◌, ◌≤◌, ◌==◌, ◌||◌, List, [], ◌∷◌, ◌++◌, length, filter}
use Rattle.std.proofs.Common.{get_or, Bool, true, false, true≢false, refl, sym, ◌∙◌, ap, subst, inl, inr, arith}
use Rattle.std.proofs.Common.{length-append, ◌*◌}
use Rattle.std.specs.List.{list_any, AllByRecursion, AllZip, count_by, position_or_len, range_with_len, sum_by}
use Rattle.std.proofs.lemmas.Bool.{cases_Bool, cases_eq, cases_lt, eq-eqb, ne_eqb, or_right, or_parts}
use Rattle.std.proofs.lemmas.Bool.Decides.{nat_tests}
use Rattle.std.proofs.lemmas.List.{get_or_append_left}
use Rattle.std.proofs.Math.Seq.{get_or-append_seam}
use Rattle.std.proofs.lemmas.List.Folds.{list_any-append}
use Rattle.std.proofs.lemmas.List.Sums.{length-filter, sum_by-cons}
use Rattle.list_lemmas.proofs.Counts.{count_by-cons, count_le, count_lt}
use Rattle.list_lemmas.proofs.Members.{Has, in_range}

-- no number stands twice
abbrev pub Apart : List ℕ → Type 0
Apart [] = Unit {0}
Apart (x ∷ xs) = (list_any (λ other. other == x) xs ≡ false) × Apart xs

-- so it is with one more that isn't there
pub apart_push : (xs : List ℕ) (x : ℕ) → Apart xs → list_any (λ other. other == x) xs ≡ false → Apart (xs ++ x ∷ [])
apart_push [] x apart new = (refl, tt)
apart_push (y ∷ ys) x apart new =
    let parts = or_parts (y == x) (list_any (λ other. other == x) ys) new in
    let turned : (x == y) ≡ false = grind (arith, nat_tests, parts.0) in (
      list_any-append (λ other. other == y) ys (x ∷ []) ∙ rw (apart.0, turned) refl,
      apart_push ys x apart.1 parts.1,
    )

-- numbers apart that a list has are no more than those of the list that are among them
apart_among : (xs ys : List ℕ) → Apart ys → AllByRecursion (Has xs) ys →
    length ys ≤ count_by (λ x. list_any (λ y. y == x) ys) xs
apart_among xs [] apart all = omega arith
apart_among xs (y ∷ ys) apart all =
    omega (
      arith,
      apart_among xs ys apart.1 all.1,
      count_lt (λ x. list_any (λ z. z == x) ys) (λ x. list_any (λ z. z == x) (y ∷ ys)) xs y
          (λ x h. or_right (y == x) _ h) all.0 apart.0
          (ap (λ t. t || list_any (λ z. z == y) ys) (eq-eqb y y refl)),
    )

-- what is among numbers that pass passes
among_passes : (p : ℕ → Bool) (x : ℕ) (ys : List ℕ) → AllByRecursion (λ y. p y ≡ true) ys →
    list_any (λ y. y == x) ys ≡ true → p x ≡ true
among_passes p x [] all h = absurd (true≢false (sym h))
among_passes p x (y ∷ ys) all h = elim (cases_eq y x) [
  | inl e ↦ ap p (sym e) ∙ all.0
  | inr other ↦ among_passes p x ys all.1 (sym (ap (λ t. t || list_any (λ z. z == x) ys) (ne_eqb y x other)) ∙ h)
]

-- numbers apart that a list has and that pass are no more than all of the list that pass
pub apart_pass : (p : ℕ → Bool) (xs ys : List ℕ) → Apart ys → AllByRecursion (Has xs) ys →
    AllByRecursion (λ y. p y ≡ true) ys → length ys ≤ count_by p xs
apart_pass p xs ys apart all passes =
    omega (
      arith,
      apart_among xs ys apart all,
      count_le (λ x. list_any (λ y. y == x) ys) p xs (λ x h. among_passes p x ys passes h),
    )

-- as many numbers pass as numbers one higher whose predecessors do
count_shifted : (p : ℕ → Bool) (first n : ℕ) →
    count_by (λ x. p (x - 1)) (range_with_len (first + 1) n) ≡ count_by p (range_with_len first n)
count_shifted p first zero = refl
count_shifted p first (suc n) =
    let back : first + 1 - 1 ≡ first = omega arith in
    count_by-cons (λ x. p (x - 1)) (first + 1) (range_with_len (first + 1 + 1) n)
    ∙ rw (back, count_shifted p (first + 1) n) (sym (count_by-cons p first (range_with_len (first + 1) n)))

-- Where numbers apart from 1 to n follow on numbers that pass, and n itself passes, so many and one more pass.
pub followers_counted : (p : ℕ → Bool) (n : ℕ) (ys : List ℕ) → p n ≡ true → Apart ys →
    AllByRecursion (λ y. (0 < y) × (y ≤ n) × (p (y - 1) ≡ true)) ys →
    length ys + 1 ≤ length (filter p (range_with_len 0 (n + 1)))
followers_counted p n ys last apart all =
    let back : n + 1 - 1 ≡ n = omega arith in
    let many = apart_pass (λ y. p (y - 1)) (range_with_len (0 + 1) (n + 1)) ((n + 1) ∷ ys) (beyond ys all, apart)
    (in_range (0 + 1) (n + 1) (n + 1) (omega arith) (omega arith), there ys all) (rw back last, passes ys all) in
    omega (arith, many, count_shifted p 0 (n + 1), length-filter p (range_with_len 0 (n + 1)))
  where
    beyond : (ys : List ℕ) → AllByRecursion (λ y. (0 < y) × (y ≤ n) × (p (y - 1) ≡ true)) ys →
        list_any (λ y. y == n + 1) ys ≡ false
    beyond [] all = refl
    beyond (y ∷ ys) all =
        ap (λ t. t || list_any (λ z. z == n + 1) ys) (ne_eqb y (n + 1) (λ e. omega (arith, e, all.0.1)))
        ∙ beyond ys all.1

    there : (ys : List ℕ) → AllByRecursion (λ y. (0 < y) × (y ≤ n) × (p (y - 1) ≡ true)) ys →
        AllByRecursion (Has (range_with_len (0 + 1) (n + 1))) ys
    there [] all = tt
    there (y ∷ ys) all =
        (in_range (0 + 1) (n + 1) y (omega (arith, all.0.0)) (omega (arith, all.0.1)), there ys all.1)

    passes : (ys : List ℕ) → AllByRecursion (λ y. (0 < y) × (y ≤ n) × (p (y - 1) ≡ true)) ys →
        AllByRecursion (λ y. p (y - 1) ≡ true) ys
    passes [] all = tt
    passes (y ∷ ys) all = (all.0.2, passes ys all.1)

-- the place of an element stays when others come after
pub place_stays : {X : Type 0} (same : X → X → Bool) (x : X) (found more : List X) → list_any (same x) found ≡ true →
    position_or_len (same x) (found ++ more) ≡ position_or_len (same x) found
place_stays same x [] more there = absurd (true≢false (sym there))
place_stays same x (y ∷ ys) more there = elim (cases_Bool (same x y)) [
  | inl e ↦ rw e refl
  | inr e ↦ rw e (ap (λ n. 1 + n) (place_stays same x ys more (rw e at there)))
]

-- what holds of each element at its place, and of one more, holds of each with it
pub each_push : {X : Type 0} (P : ℕ → X → Type 0) (d : X) (xs : List X) (x : X) →
    ((k : ℕ) → k < length xs → P k (get_or xs k d)) → P (length xs) x →
    (k : ℕ) → k < length (xs ++ x ∷ []) → P k (get_or (xs ++ x ∷ []) k d)
each_push P d xs x each here k below = elim (cases_lt k (length xs)) [
  | inl early ↦ subst (P k) (sym (get_or_append_left xs (x ∷ []) d k early)) (each k early)
  | inr late ↦
      let e : k ≡ length xs = omega (arith, late, below, length-append xs (x ∷ [])) in
      subst (λ n. P n (get_or (xs ++ x ∷ []) n d)) (sym e)
      (subst (P (length xs)) (sym (get_or-append_seam xs x [] d)) here)
]

-- what holds at a number, and goes on by one, holds so many numbers on
carried : (P : ℕ → Type 0) (first n : ℕ) → P first →
    ((k : ℕ) → first ≤ k → k < first + n → P k → P (k + 1)) → P (first + n)
carried P first zero start next = let e : first + 0 ≡ first = omega arith in rw e start
carried P first (suc n) start next =
    let e : first + suc n ≡ first + n + 1 = omega arith in
    rw e (next (first + n) (omega arith) (omega arith)
    (carried P first n start (λ k from below here. next k from (omega arith) here)))

-- what holds at a number, and goes on by one below another, holds there
pub carried_to : (P : ℕ → Type 0) (first last : ℕ) → first ≤ last → P first →
    ((k : ℕ) → first ≤ k → k < last → P k → P (k + 1)) → P last
carried_to P first last within start next =
    let e : first + (last - first) ≡ last = omega arith in
    rw e at (carried P first (last - first) start (λ k from below here. next k from (omega arith) here))

-- ---- lists side by side

-- what stands beside the first elements, and beside the others
pub AllZip-split : {X Y : Type 0} (R : X → Y → Type 0) (xs : List X) (ys more : List Y) → AllZip R xs (ys ++ more) →
    (front : List X) × (rest : List X) × (xs ≡ front ++ rest) × AllZip R front ys × AllZip R rest more
AllZip-split R xs [] more all = ([], xs, refl, tt, all)
AllZip-split R [] (y ∷ ys) more all = absurd all
AllZip-split R (x ∷ xs) (y ∷ ys) more all =
    let rest = AllZip-split R xs ys more all.1 in
    (x ∷ rest.0, rest.1, ap (λ r. x ∷ r) rest.2, (all.0, rest.3), rest.4)

-- nothing stands beside nothing
pub AllZip-none : {X Y : Type 0} (R : X → Y → Type 0) (xs : List X) → AllZip R xs [] → xs ≡ []
AllZip-none R [] all = refl
AllZip-none R (x ∷ xs) all = absurd all

-- one element stands beside one
AllZip-one : {X Y : Type 0} (R : X → Y → Type 0) (xs : List X) (y : Y) → AllZip R xs (y ∷ []) →
    (x : X) × (xs ≡ x ∷ []) × R x y
AllZip-one R [] y all = absurd all
AllZip-one R (x ∷ xs) y all = (x, ap (λ r. x ∷ r) (AllZip-none R xs all.1), all.0)

-- what stands beside the last element, and beside those before it
pub AllZip-last : {X Y : Type 0} (R : X → Y → Type 0) (xs : List X) (ys : List Y) (y : Y) →
    AllZip R xs (ys ++ y ∷ []) →
    (front : List X) × (x : X) × (xs ≡ front ++ x ∷ []) × AllZip R front ys × R x y
AllZip-last R xs ys y all =
    let split = AllZip-split R xs ys (y ∷ []) all in
    let one = AllZip-one R split.1 y split.4 in
    (split.0, one.0, split.2 ∙ ap (λ r. split.0 ++ r) one.1, split.3, one.2)

-- the elements at one place stand side by side
pub AllZip-place : {X Y : Type 0} (R : X → Y → Type 0) (xs : List X) (ys : List Y) (k : ℕ) (d : X) (e : Y) →
    AllZip R xs ys → k < length ys → R (get_or xs k d) (get_or ys k e)
AllZip-place R [] [] k d e all below = absurd (omega arith)
AllZip-place R [] (y ∷ ys) k d e all below = absurd all
AllZip-place R (x ∷ xs) [] k d e all below = absurd all
AllZip-place R (x ∷ xs) (y ∷ ys) zero d e all below = all.0
AllZip-place R (x ∷ xs) (y ∷ ys) (suc k) d e all below = AllZip-place R xs ys k d e all.1 (omega arith)

-- ---- sums

-- the sum of one number for each element
pub sum_by_const : {X : Type 0} (n : ℕ) (xs : List X) → sum_by (λ _. n) xs ≡ n * length xs
sum_by_const n [] = omega arith
sum_by_const n (x ∷ xs) =
    sum_by-cons (λ _. n) x xs ∙ rw (sum_by_const n xs) (omega arith)
