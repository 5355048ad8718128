-- What is found in a list of elements that stand for values, each value where it stands first.
use Rattle.std.proofs.Common.{◌≡◌, List, [], ◌∷◌, ◌++◌, map, fold, Bool, true, false, cond, not, ◌&&◌, ◌||◌, refl}
use Rattle.std.proofs.Common.{sym, ◌∙◌, ap, subst, inl, inr, true≢false, Option, Some, None}
use Rattle.std.specs.List.{list_any, flat_map, find, AllByRecursion}
use Rattle.std.proofs.lemmas.List.{append-nil}
use Rattle.std.proofs.lemmas.List.Sums.{fold-append}
use Rattle.std.proofs.lemmas.List.Concat.{flat_map-append}
use Rattle.std.proofs.lemmas.Bool.{cases_Bool}
use Rattle.group_states.specs.Found.{found_with, found_in}
use Rattle.group_states.proofs.Offered.{is_new, stays_found, goes_after, found_grows, NoneNew, none_new_more, all_stays}
use Rattle.group_states.proofs.Offered.{old_once_found, none_new_once_found, found_in-map}
use Rattle.acl_audit.proofs.Least.{first_then, find-then}

-- the elements that stand for values which aren't found yet
abbrev pub found_by : {X V : Type 0} → (V → V → Bool) → (V → Bool) → (X → V) → List X → List X
found_by same live of xs = found_in (λ x y. same (of x) (of y)) (λ x. live (of x)) xs

-- their values are those found
pub values_found : {X V : Type 0} (same : V → V → Bool) (live : V → Bool) (of : X → V) (xs : List X)
    → found_in same live (map of xs) ≡ map of (found_by same live of xs)
values_found {X} same live of xs =
    found_in-map (λ x y. same (of x) (of y)) (λ x. live (of x)) same live of (λ x. Unit {0}) (λ x y _ _. refl)
    (λ x _. refl) xs (all_of xs)
  where
    all_of : (ys : List X) → AllByRecursion (λ x. Unit {0}) ys
    all_of [] = tt
    all_of (y ∷ ys) = (tt, all_of ys)

-- elements that keep elements apart as their values do
pub found_by-map : {X Y V : Type 0} (same : V → V → Bool) (live : V → Bool) (of : Y → V) (g : X → Y) (xs : List X)
    → found_by same live of (map g xs) ≡ map g (found_by same live (λ x. of (g x)) xs)
found_by-map {X} same live of g xs =
    found_in-map (λ x y. same (of (g x)) (of (g y))) (λ x. live (of (g x))) (λ x y. same (of x) (of y))
    (λ x. live (of x)) g (λ x. Unit {0}) (λ x y _ _. refl) (λ x _. refl) xs (all_of xs)
  where
    all_of : (ys : List X) → AllByRecursion (λ x. Unit {0}) ys
    all_of [] = tt
    all_of (y ∷ ys) = (tt, all_of ys)

module _ {X V : Type 0} (same : V → V → Bool) (live : V → Bool) (of : X → V) where
  -- the value of an element is live and not among those found
  abbrev NewBy : List X → X → Bool
  NewBy found x = is_new (λ y z. same (of y) (of z)) (λ y. live (of y)) found x

  -- no element has a new value
  abbrev pub NoneNewBy : List X → List X → Type 0
  NoneNewBy found xs = NoneNew (λ y z. same (of y) (of z)) (λ y. live (of y)) found xs

  -- elements of one value are new together
  pub new_alike : (found : List X) (x y : X) → of x ≡ of y → NewBy found x ≡ NewBy found y
  new_alike found x y e = ap (λ v. live v && not (list_any (λ z. same v (of z)) found)) e

  -- what has nothing new by its values has none if the values are the same
  pub none_new_alike : (found xs ys : List X) → map of xs ≡ map of ys → NoneNewBy found ys → NoneNewBy found xs
  none_new_alike found [] ys e none = tt
  none_new_alike found (x ∷ xs) [] e none = absurd (cc)
  none_new_alike found (x ∷ xs) (y ∷ ys) e none =
      let head : of x ≡ of y = cc in
      let tail : map of xs ≡ map of ys = cc in
      (new_alike found x y head ∙ none.0, none_new_alike found xs ys tail none.1)

  -- dead elements aren't new
  pub none_new_dead : (found xs : List X) → AllByRecursion (λ x. live (of x) ≡ false) xs → NoneNewBy found xs
  none_new_dead found [] dead = tt
  none_new_dead found (x ∷ xs) dead =
      (ap (λ b. b && not (list_any (λ z. same (of x) (of z)) found)) dead.0, none_new_dead found xs dead.1)

-- Elements of one value lead to elements of the same values, and those whose value is dead to such ones.
pub record LeadsAlike {X Y V W : Type 0} (same : V → V → Bool) (live : V → Bool) (of : X → V) (same_y : W → W → Bool)
    (live_y : W → Bool) (of_y : Y → W) (f : X → List Y) (P : X → Type 0) : Type 0 where
  pub sound : (v w : V) → same v w ≡ true → v ≡ w
  pub reflexive : (w : W) → same_y w w ≡ true
  pub alike : (x y : X) → P x → P y → of x ≡ of y → map of_y (f x) ≡ map of_y (f y)
  pub dead : (x : X) → P x → live (of x) ≡ false → AllByRecursion (λ y. live_y (of_y y) ≡ false) (f x)

module _ {X Y V W : Type 0} {same : V → V → Bool} {live : V → Bool} {of : X → V} {same_y : W → W → Bool}
    {live_y : W → Bool} {of_y : Y → W} {f : X → List Y} {P : X → Type 0}
    (its : LeadsAlike same live of same_y live_y of_y f P) where
  -- the elements found with one more of those that are led to
  abbrev with_y : List Y → Y → List Y
  with_y found y = found_with (λ y z. same_y (of_y y) (of_y z)) (λ y. live_y (of_y y)) found y

  -- the elements found with one more
  abbrev with_x : List X → X → List X
  with_x found x = found_with (λ y z. same (of y) (of z)) (λ y. live (of y)) found x

  -- what an element whose value is among those of others leads to isn't new after what those lead to
  of_a_member : (found : List Y) (x : X) (xs : List X) → P x → AllByRecursion P xs
      → list_any (λ y. same (of x) (of y)) xs ≡ true
      → NoneNewBy same_y live_y of_y (fold with_y found (flat_map f xs)) (f x)
  of_a_member found x [] px ps among = absurd (true≢false (sym among))
  of_a_member found x (y ∷ ys) px ps among =
      elim (cases_Bool (same (of x) (of y))) [
        | inl is ↦
            let here : List Y = fold with_y found (f y) in
            let more = found_grows (λ y z. same_y (of_y y) (of_y z)) (λ y. live_y (of_y y)) here (flat_map f ys) in
            subst (λ g. NoneNewBy same_y live_y of_y g (f x))
            (sym (fold-append with_y found (f y) (flat_map f ys) ∙ more.1))
            (none_new_more (λ y z. same_y (of_y y) (of_y z)) (λ y. live_y (of_y y)) here more.0 (f x)
            (none_new_alike same_y live_y of_y here (f x) (f y)
            (its.alike x y px ps.0 (its.sound (of x) (of y) is))
            (none_new_once_found (λ y z. same_y (of_y y) (of_y z)) (λ y. live_y (of_y y))
            (λ y. its.reflexive (of_y y)) found (f y))))
        | inr other ↦
            subst (λ g. NoneNewBy same_y live_y of_y g (f x))
            (sym (fold-append with_y found (f y) (flat_map f ys)))
            (of_a_member (fold with_y found (f y)) x ys px ps.1
            (sym (ap (λ b. b || list_any (λ y. same (of x) (of y)) ys) other) ∙ among))
      ]

  -- one more element, of those found or of all
  one_more : (acc : List X) (x : X) → AllByRecursion P acc → P x
      → fold with_y [] (flat_map f (with_x acc x)) ≡ fold with_y (fold with_y [] (flat_map f acc)) (f x)
  one_more acc x ps px =
      let before : List Y = fold with_y [] (flat_map f acc) in
      elim (cases_Bool (is_new (λ y z. same (of y) (of z)) (λ y. live (of y)) acc x)) [
        | inl new ↦
            ap (λ a. fold with_y [] (flat_map f a))
            (goes_after (λ y z. same (of y) (of z)) (λ y. live (of y)) acc x new)
            ∙ ap (λ l. fold with_y [] l)
            (flat_map-append f acc (x ∷ []) ∙ ap (λ l. flat_map f acc ++ l) (append-nil (f x)))
            ∙ fold-append with_y [] (flat_map f acc) (f x)
        | inr old ↦
            ap (λ a. fold with_y [] (flat_map f a))
            (stays_found (λ y z. same (of y) (of z)) (λ y. live (of y)) acc x old)
            ∙ sym (all_stays (λ y z. same_y (of_y y) (of_y z)) (λ y. live_y (of_y y)) before (f x)
            (none (live (of x)) refl (list_any (λ y. same (of x) (of y)) acc) refl old))
      ]
    where
      none : (l : Bool) → live (of x) ≡ l → (m : Bool) → list_any (λ y. same (of x) (of y)) acc ≡ m
          → (live (of x) && not (list_any (λ y. same (of x) (of y)) acc)) ≡ false →
          NoneNewBy same_y live_y of_y (fold with_y [] (flat_map f acc)) (f x)
      none false is m is_m old = none_new_dead same_y live_y of_y _ (f x) (its.dead x px is)
      none true is true is_m old = of_a_member [] x acc px ps is_m
      none true is false is_m old =
          absurd (true≢false (sym (ap (λ b. b && true) is) ∙ ap (λ b. live (of x) && not b) (sym is_m) ∙ old))

  -- what holds of elements and one more holds of those found with it
  all_with : (acc : List X) (x : X) → AllByRecursion P acc → P x → AllByRecursion P (with_x acc x)
  all_with acc x ps px = by (is_new (λ y z. same (of y) (of z)) (λ y. live (of y)) acc x)
    where
      pushed : (ys : List X) → AllByRecursion P ys → AllByRecursion P (ys ++ x ∷ [])
      pushed [] qs = (px, tt)
      pushed (y ∷ ys) qs = (qs.0, pushed ys qs.1)

      by : (b : Bool) → AllByRecursion P (cond b (acc ++ x ∷ []) acc)
      by true = pushed acc ps
      by false = ps

  -- what found elements lead to is found as what all elements lead to
  finds_of_finds : (acc xs : List X) → AllByRecursion P acc → AllByRecursion P xs
      → fold with_y [] (flat_map f (fold with_x acc xs)) ≡ fold with_y (fold with_y [] (flat_map f acc)) (flat_map f xs)
  finds_of_finds acc [] ps qs = refl
  finds_of_finds acc (x ∷ xs) ps qs =
      finds_of_finds (with_x acc x) xs (all_with acc x ps qs.0) qs.1
      ∙ ap (λ g. fold with_y g (flat_map f xs)) (one_more acc x ps qs.0)
      ∙ sym (fold-append with_y _ (f x) (flat_map f xs))

  -- what is found after those found is what is found after all
  pub found_after : (xs : List X) → AllByRecursion P xs
      → found_by same_y live_y of_y (flat_map f (found_by same live of xs)) ≡ found_by same_y live_y of_y
      (flat_map f xs)
  unfolding found_in
  found_after xs ps = finds_of_finds [] xs tt ps

-- elements that stand for what the one before them stands for are passed over
module _ {X Y W : Type 0} (same : W → W → Bool) (live : W → Bool) (of : Y → W) (reflexive : (w : W) → same w w ≡ true)
    (first : X → Y) (rest : X → List Y) (P : X → Type 0)
    (repeats : (x : X) → P x → AllByRecursion (λ y. of y ≡ of (first x)) (rest x)) where
  -- the elements found with one more of those that stand for values
  abbrev with_one : List Y → Y → List Y
  with_one found y = found_with (λ y z. same (of y) (of z)) (λ y. live (of y)) found y

  -- what stands for an element that isn't new has nothing new
  old_alike : (found : List Y) (y : Y) (ys : List Y) → is_new (λ y z. same (of y) (of z)) (λ y. live (of y)) found y
      ≡ false → AllByRecursion (λ z. of z ≡ of y) ys → NoneNewBy same live of found ys
  old_alike found y [] old all = tt
  old_alike found y (z ∷ zs) old all = (new_alike same live of found z y all.0 ∙ old, old_alike found y zs old all.1)

  -- the first ones are found as they are with those after them
  firsts_alone : (acc : List Y) (xs : List X) → AllByRecursion P xs
      → fold with_one acc (flat_map (λ x. first x ∷ rest x) xs) ≡ fold with_one acc (map first xs)
  firsts_alone acc [] ps = refl
  firsts_alone acc (x ∷ xs) ps =
      fold-append with_one (with_one acc (first x)) (rest x) (flat_map (λ x. first x ∷ rest x) xs)
      ∙ ap (λ a. fold with_one a (flat_map (λ x. first x ∷ rest x) xs))
      (all_stays (λ y z. same (of y) (of z)) (λ y. live (of y)) (with_one acc (first x)) (rest x)
      (old_alike (with_one acc (first x)) (first x) (rest x)
      (old_once_found (λ y z. same (of y) (of z)) (λ y. live (of y)) (λ y. reflexive (of y)) acc (first x))
      (repeats x ps.0)))
      ∙ firsts_alone (with_one acc (first x)) xs ps.1

  -- so all that is found is found among the first ones
  pub found_firsts : (xs : List X) → AllByRecursion P xs
      → found_by same live of (flat_map (λ x. first x ∷ rest x) xs) ≡ found_by same live of (map first xs)
  unfolding found_in
  found_firsts xs ps = firsts_alone [] xs ps

-- the first element whose value passes a test is found
module _ {X V : Type 0} (same : V → V → Bool) (live : V → Bool) (of : X → V)
    (sound : (v w : V) → same v w ≡ true → v ≡ w) (test : V → Bool)
    (lives : (v : V) → test v ≡ true → live v ≡ true) where
  -- the value of the element passes
  abbrev passes : X → Bool
  passes x = test (of x)

  -- the elements found with one more whose value may be new
  abbrev with_v : List X → X → List X
  with_v found x = found_with (λ y z. same (of y) (of z)) (λ y. live (of y)) found x

  -- where the value of one that passes is among others, those decide
  among_passes : (acc : List X) (x : X) (other : Option X) → list_any (λ y. same (of x) (of y)) acc ≡ true
      → test (of x) ≡ true → first_then (find passes acc) other ≡ find passes acc
  among_passes [] x other among holds = absurd (true≢false (sym among))
  among_passes (y ∷ ys) x other among holds = elim (cases_Bool (test (of y))) [
    | inl e ↦ rw e refl
    | inr e ↦ elim (cases_Bool (same (of x) (of y))) [
      | inl is ↦ absurd (true≢false (sym holds ∙ ap test (sound (of x) (of y) is) ∙ e))
      | inr apart ↦ rw e (among_passes ys x other
          (sym (ap (λ b. b || list_any (λ y. same (of x) (of y)) ys) apart) ∙ among)
          holds)
    ]
  ]

  -- nothing after an answer changes it
  none_after : (o : Option X) → first_then o None ≡ o
  none_after None = refl
  none_after (Some x) = refl

  -- the first that passes with one more is that before it, or else the one
  one_then : (acc : List X) (x : X) → find passes (with_v acc x) ≡ first_then (find passes acc) (find passes (x ∷ []))
  one_then acc x = elim (cases_Bool (is_new (λ y z. same (of y) (of z)) (λ y. live (of y)) acc x)) [
    | inl new ↦
        ap (find passes) (goes_after (λ y z. same (of y) (of z)) (λ y. live (of y)) acc x new)
        ∙ find-then passes acc (x ∷ [])
    | inr old ↦
        ap (find passes) (stays_found (λ y z. same (of y) (of z)) (λ y. live (of y)) acc x old)
        ∙ sym (elim (cases_Bool (test (of x))) [
          | inr fails ↦
              ap (λ b. first_then (find passes acc) (cond b (Some x) None)) fails ∙ none_after (find passes acc)
          | inl holds ↦ among_passes acc x _ (known (list_any (λ y. same (of x) (of y)) acc)
              (sym (ap (λ b. b && not (list_any (λ y. same (of x) (of y)) acc)) (lives (of x) holds)) ∙ old)) holds
        ])
  ]
    where
      known : (m : Bool) → not m ≡ false → m ≡ true
      known true h = refl
      known false h = absurd (true≢false h)

  -- it doesn't matter which two of three answers are taken first
  then_assoc : (a b c : Option X) → first_then (first_then a b) c ≡ first_then a (first_then b c)
  then_assoc None b c = refl
  then_assoc (Some x) b c = refl

  -- the first that passes among those found after some is that of all
  finds_then : (acc xs : List X) → find passes (fold with_v acc xs) ≡ first_then (find passes acc) (find passes xs)
  finds_then acc [] = sym (none_after (find passes acc))
  finds_then acc (x ∷ xs) =
      finds_then (with_v acc x) xs
      ∙ ap (λ o. first_then o (find passes xs)) (one_then acc x)
      ∙ then_assoc (find passes acc) (find passes (x ∷ [])) (find passes xs)
      ∙ ap (first_then (find passes acc)) (sym (find-then passes (x ∷ []) xs))

  -- the first that passes among those found is the first of all
  pub find_found : (xs : List X) → find passes xs ≡ find passes (found_by same live of xs)
  unfolding found_in
  find_found xs = sym (finds_then [] xs)
