-- What is found in a list, in order.
use Rattle.std.proofs.Common.{◌≡◌, ◌+◌, List, [], ◌∷◌, ◌++◌, map, fold, Bool, true, false, cond, not, ◌&&◌, ◌||◌, refl}
use Rattle.std.proofs.Common.{sym, ◌∙◌, ap, subst, inl, inr, true≢false}
use Rattle.std.specs.List.{list_any, flat_map, position_or_len, AllByRecursion}
use Rattle.std.proofs.lemmas.List.{append-nil, append_assoc}
use Rattle.std.proofs.lemmas.List.Folds.{list_any-append}
use Rattle.std.proofs.lemmas.List.Sums.{fold-append}
use Rattle.std.proofs.lemmas.List.Concat.{flat_map-append}
use Rattle.std.proofs.lemmas.Bool.{cases_Bool}
use Rattle.group_states.specs.Found.{found_with, found_in}

module _ {X : Type 0} (same : X → X → Bool) (live : X → Bool) where
  -- the element is live and not among those found
  abbrev pub is_new : List X → X → Bool
  is_new found x = live x && not (list_any (same x) found)

  -- an element that isn't new leaves those found as they are
  pub stays_found : (found : List X) (x : X) → is_new found x ≡ false → found_with same live found x ≡ found
  stays_found found x old = ap (λ b. cond b (found ++ x ∷ []) found) old

  -- a new element comes after those found
  pub goes_after : (found : List X) (x : X) → is_new found x ≡ true → found_with same live found x ≡ found ++ x ∷ []
  goes_after found x new = ap (λ b. cond b (found ++ x ∷ []) found) new

  -- what isn't new stays so when more is found
  pub old_for_more : (found more : List X) (x : X) → is_new found x ≡ false → is_new (found ++ more) x ≡ false
  old_for_more found more x old =
      by (live x) (list_any (same x) found) (list_any (same x) more) (list_any-append (same x) found more) old
    where
      by : (l m n : Bool) {both : Bool} → both ≡ (m || n) → (l && not m) ≡ false → (l && not both) ≡ false
      by false m n is old = refl
      by true true n is old = ap not is
      by true false n is old = absurd (true≢false old)

  -- the elements are found, or more of them
  pub found_grows : (found xs : List X) → (more : List X) × (fold (found_with same live) found xs ≡ found ++ more)
  found_grows found [] = ([], sym (append-nil found))
  found_grows found (x ∷ xs) =
      let rest = found_grows (found_with same live found x) xs in
      elim (cases_Bool (is_new found x)) [
        | inl new ↦ (
          x ∷ rest.0,
          rest.1 ∙ ap (λ f. f ++ rest.0) (goes_after found x new)
              ∙ append_assoc found (x ∷ []) rest.0,
        )
        | inr old ↦ (rest.0, rest.1 ∙ ap (λ f. f ++ rest.0) (stays_found found x old))
      ]

  -- no element is new
  abbrev pub NoneNew : List X → List X → Type 0
  NoneNew found xs = AllByRecursion (λ x. is_new found x ≡ false) xs

  -- what has nothing new has nothing new after more were found
  pub none_new_more : (found more xs : List X) → NoneNew found xs → NoneNew (found ++ more) xs
  none_new_more found more [] old = tt
  none_new_more found more (x ∷ xs) old = (old_for_more found more x old.0, none_new_more found more xs old.1)

  -- elements that aren't new change nothing
  pub all_stays : (found xs : List X) → NoneNew found xs → fold (found_with same live) found xs ≡ found
  all_stays found [] old = refl
  all_stays found (x ∷ xs) old =
      ap (λ f. fold (found_with same live) f xs) (stays_found found x old.0) ∙ all_stays found xs old.1

  module _ (reflexive : (x : X) → same x x ≡ true) where
    -- once found, an element isn't new
    pub old_once_found : (found : List X) (x : X) → is_new (found_with same live found x) x ≡ false
    old_once_found found x = elim (cases_Bool (is_new found x)) [
      | inl new ↦ ap (λ f. is_new f x) (goes_after found x new) ∙ at_end
      | inr old ↦ ap (λ f. is_new f x) (stays_found found x old) ∙ old
    ]
      where
        with_false : (l m b : Bool) → b ≡ true → (l && not (m || (b || false))) ≡ false
        with_false false m b is = refl
        with_false true true b is = refl
        with_false true false true is = refl
        with_false true false false is = absurd (true≢false (sym is))

        at_end : is_new (found ++ x ∷ []) x ≡ false
        at_end =
            ap (λ b. live x && not b) (list_any-append (same x) found (x ∷ []))
            ∙ with_false (live x) (list_any (same x) found) (same x x) (reflexive x)

    -- and none of a list is, once the list was gone through
    pub none_new_once_found : (found xs : List X) → NoneNew (fold (found_with same live) found xs) xs
    none_new_once_found found [] = tt
    none_new_once_found found (x ∷ xs) =
        let rest = found_grows (found_with same live found x) xs in
        let first : is_new (fold (found_with same live) (found_with same live found x) xs) x ≡ false =
        ap (λ f. is_new f x) rest.1 ∙ old_for_more (found_with same live found x) rest.0 x (old_once_found found x) in
        (first, none_new_once_found (found_with same live found x) xs)

module _ {X Y : Type 0} (same : X → X → Bool) (live : X → Bool) (sound : (x y : X) → same x y ≡ true → x ≡ y)
    (same_y : Y → Y → Bool) (live_y : Y → Bool) (reflexive : (y : Y) → same_y y y ≡ true)
    (f : X → List Y) (dead : (x : X) → live x ≡ false → (found : List Y) → NoneNew same_y live_y found (f x)) where
  -- what an element that is among others leads to isn't new after what those lead to
  of_a_member : (found : List Y) (x : X) (xs : List X) → list_any (same x) xs ≡ true
      → NoneNew same_y live_y (fold (found_with same_y live_y) found (flat_map f xs)) (f x)
  of_a_member found x [] among = absurd (true≢false (sym among))
  of_a_member found x (y ∷ ys) among =
      elim (cases_Bool (same x y)) [
        | inl is ↦
            let here : List Y = fold (found_with same_y live_y) found (f y) in
            let more = found_grows same_y live_y here (flat_map f ys) in
            subst (λ g. NoneNew same_y live_y g (f x))
            (sym (fold-append (found_with same_y live_y) found (f y) (flat_map f ys) ∙ more.1))
            (none_new_more same_y live_y here more.0 (f x)
            (subst (λ z. NoneNew same_y live_y here (f z)) (sym (sound x y is))
            (none_new_once_found same_y live_y reflexive found (f y))))
        | inr other ↦
            subst (λ g. NoneNew same_y live_y g (f x))
            (sym (fold-append (found_with same_y live_y) found (f y) (flat_map f ys)))
            (of_a_member (fold (found_with same_y live_y) found (f y)) x ys
            (sym (ap (λ b. b || list_any (same x) ys) other) ∙ among))
      ]

  -- one more element, of those found or of all
  one_more : (acc : List X) (x : X) → fold (found_with same_y live_y) [] (flat_map f (found_with same live acc x))
      ≡ fold (found_with same_y live_y) (fold (found_with same_y live_y) [] (flat_map f acc)) (f x)
  one_more acc x =
      let before : List Y = fold (found_with same_y live_y) [] (flat_map f acc) in
      elim (cases_Bool (is_new same live acc x)) [
        | inl new ↦
            ap (λ a. fold (found_with same_y live_y) [] (flat_map f a)) (goes_after same live acc x new)
            ∙ ap (λ l. fold (found_with same_y live_y) [] l)
            (flat_map-append f acc (x ∷ []) ∙ ap (λ l. flat_map f acc ++ l) (append-nil (f x)))
            ∙ fold-append (found_with same_y live_y) [] (flat_map f acc) (f x)
        | inr old ↦
            ap (λ a. fold (found_with same_y live_y) [] (flat_map f a)) (stays_found same live acc x old)
            ∙ sym (all_stays same_y live_y before (f x) (none (live x) refl (list_any (same x) acc) refl old))
      ]
    where
      none : (l : Bool) → live x ≡ l → (m : Bool) → list_any (same x) acc ≡ m
          → (live x && not (list_any (same x) acc)) ≡ false →
          NoneNew same_y live_y (fold (found_with same_y live_y) [] (flat_map f acc)) (f x)
      none false is m is_m old = dead x is _
      none true is true is_m old = of_a_member [] x acc is_m
      none true is false is_m old =
          absurd (true≢false (sym (ap (λ b. b && true) is) ∙ ap (λ b. live x && not b) (sym is_m) ∙ old))

  -- what found elements lead to is found as what all elements lead to
  finds_of_finds : (acc xs : List X)
      → fold (found_with same_y live_y) [] (flat_map f (fold (found_with same live) acc xs))
      ≡ fold (found_with same_y live_y) (fold (found_with same_y live_y) [] (flat_map f acc)) (flat_map f xs)
  finds_of_finds acc [] = refl
  finds_of_finds acc (x ∷ xs) =
      finds_of_finds (found_with same live acc x) xs
      ∙ ap (λ g. fold (found_with same_y live_y) g (flat_map f xs)) (one_more acc x)
      ∙ sym (fold-append (found_with same_y live_y) _ (f x) (flat_map f xs))

  -- what is found after those found is what is found after all
  pub found_after_found : (xs : List X)
      → found_in same_y live_y (flat_map f (found_in same live xs)) ≡ found_in same_y live_y (flat_map f xs)
  unfolding found_in
  found_after_found xs = finds_of_finds [] xs

-- a function that keeps elements apart takes what is found to what is found
module _ {X Y : Type 0} (same : X → X → Bool) (live : X → Bool) (same_y : Y → Y → Bool) (live_y : Y → Bool) (g : X → Y)
    (P : X → Type 0)
    (apart : (x y : X) → P x → P y → same_y (g x) (g y) ≡ same x y) (lives : (x : X) → P x → live_y (g x) ≡ live x)
  where
    among_map : (x : X) (xs : List X) → P x → AllByRecursion P xs
        → list_any (same_y (g x)) (map g xs) ≡ list_any (same x) xs
    among_map x [] px ps = refl
    among_map x (y ∷ ys) px ps = λ i. apart x y px ps.0 i || among_map x ys px ps.1 i

    pub position-map : (x : X) (xs : List X) → P x → AllByRecursion P xs
        → position_or_len (same_y (g x)) (map g xs) ≡ position_or_len (same x) xs
    position-map x [] px ps = refl
    position-map x (y ∷ ys) px ps = λ i. cond (not (apart x y px ps.0 i)) (1 + position-map x ys px ps.1 i) 0

    found_with-map : (acc : List X) (x : X) → P x → AllByRecursion P acc
        → found_with same_y live_y (map g acc) (g x) ≡ map g (found_with same live acc x)
    found_with-map acc x px ps =
        ap (λ b. cond b (map g acc ++ g x ∷ []) (map g acc)) (λ i. lives x px i && not (among_map x acc px ps i))
        ∙ by (is_new same live acc x)
      where
        pushed : (xs : List X) → map g xs ++ g x ∷ [] ≡ map g (xs ++ x ∷ [])
        pushed [] = refl
        pushed (y ∷ ys) = ap (λ l. g y ∷ l) (pushed ys)

        by : (b : Bool) → cond b (map g acc ++ g x ∷ []) (map g acc) ≡ map g (cond b (acc ++ x ∷ []) acc)
        by true = pushed acc
        by false = refl

    all_with : (acc : List X) (x : X) → P x → AllByRecursion P acc → AllByRecursion P (found_with same live acc x)
    all_with acc x px ps = by (is_new same live acc x)
      where
        pushed : (xs : List X) → AllByRecursion P xs → AllByRecursion P (xs ++ x ∷ [])
        pushed [] qs = (px, tt)
        pushed (y ∷ ys) qs = (qs.0, pushed ys qs.1)

        by : (b : Bool) → AllByRecursion P (cond b (acc ++ x ∷ []) acc)
        by true = pushed acc ps
        by false = ps

    finds-map : (acc xs : List X) → AllByRecursion P acc → AllByRecursion P xs
        → fold (found_with same_y live_y) (map g acc) (map g xs) ≡ map g (fold (found_with same live) acc xs)
    finds-map acc [] ps qs = refl
    finds-map acc (x ∷ xs) ps qs =
        ap (λ a. fold (found_with same_y live_y) a (map g xs)) (found_with-map acc x qs.0 ps)
        ∙ finds-map (found_with same live acc x) xs (all_with acc x qs.0 ps) qs.1

    pub found_in-map : (xs : List X) → AllByRecursion P xs
        → found_in same_y live_y (map g xs) ≡ map g (found_in same live xs)
    unfolding found_in
    found_in-map xs ps = finds-map [] xs tt ps

-- what holds of each element holds of each found, and each found is live
module _ {X : Type 0} (same : X → X → Bool) (live : X → Bool) (P : X → Type 0) where
  -- so it is with those that are found after some
  pub all_found : (acc xs : List X) → AllByRecursion P acc → AllByRecursion (λ x. live x ≡ true → P x) xs
      → AllByRecursion P (fold (found_with same live) acc xs)
  all_found acc [] ps qs = ps
  all_found acc (x ∷ xs) ps qs =
      all_found (found_with same live acc x) xs (by (live x) (list_any (same x) acc) qs.0) qs.1
    where
      pushed : P x → (ys : List X) → AllByRecursion P ys → AllByRecursion P (ys ++ x ∷ [])
      pushed px [] rs = (px, tt)
      pushed px (y ∷ ys) rs = (rs.0, pushed px ys rs.1)

      by : (l m : Bool) → (l ≡ true → P x) → AllByRecursion P (cond (l && not m) (acc ++ x ∷ []) acc)
      by false m px = ps
      by true true px = ps
      by true false px = pushed (px refl) acc ps

  -- so it is with all that are found
  pub All-found_in : (xs : List X) → AllByRecursion (λ x. live x ≡ true → P x) xs
      → AllByRecursion P (found_in same live xs)
  unfolding found_in
  All-found_in xs qs = all_found [] xs tt qs
