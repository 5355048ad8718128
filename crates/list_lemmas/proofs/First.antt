-- The first element of a list that passes a test.
use Rattle.std.proofs.Common.{◌≡◌, ℕ, suc, ◌+◌, List, [], ◌∷◌, ◌++◌, filter, Bool, true, false, cond, Option, Some}
use Rattle.std.proofs.Common.{None, refl, ap, ◌∙◌, inl, inr, arith, not, zero, ◌<◌}
use Rattle.std.specs.List.{find, list_all, position_from, slice_get, range_with_len}
use Rattle.std.specs.Option.{MatchOption}
use Rattle.std.proofs.lemmas.Bool.{cases_Bool, and_parts}

module _ {X : Type 0} where
  -- what comes after the first one is ignored
  pub find-append_some : (p : X → Bool) (xs ys : List X) (w : X) → find p xs ≡ Some w → find p (xs ++ ys) ≡ Some w
  find-append_some p [] ys w h = absurd (cc)
  find-append_some p (x ∷ xs) ys w h = elim (cases_Bool (p x)) [
    | inl e ↦ rw e (rw e at h)
    | inr e ↦ rw e (find-append_some p xs ys w (rw e at h))
  ]

  -- where none passes, the others decide
  pub find-append_none : (p : X → Bool) (xs ys : List X) → find p xs ≡ None → find p (xs ++ ys) ≡ find p ys
  find-append_none p [] ys h = refl
  find-append_none p (x ∷ xs) ys h = elim (cases_Bool (p x)) [
    | inl e ↦ absurd (let found = rw e at h in cc)
    | inr e ↦ rw e (find-append_none p xs ys (rw e at h))
  ]

  -- two tests that agree find the same
  pub find_agree : (p q : X → Bool) → ((x : X) → p x ≡ q x) → (xs : List X) → find p xs ≡ find q xs
  find_agree p q same [] = refl
  find_agree p q same (x ∷ xs) = rw (same x) (ap (λ rest. cond (q x) (Some x) rest) (find_agree p q same xs))

  -- what is found passes the test
  pub find_passes : (p : X → Bool) (xs : List X) (w : X) → find p xs ≡ Some w → p w ≡ true
  find_passes p [] w h = absurd (cc)
  find_passes p (x ∷ xs) w h = elim (cases_Bool (p x)) [
    | inl e ↦ let found = rw e at h in let same : x ≡ w = cc in rw (← same) e
    | inr e ↦ find_passes p xs w (rw e at h)
  ]

  -- what holds of each element that passes a test, at the first element and at the others
  all_passing_here : (a q : X → Bool) (x : X) (xs : List X) → a x ≡ true → list_all q (filter a (x ∷ xs)) ≡ true →
      q x ≡ true
  all_passing_here a q x xs holds all = (and_parts (q x) (list_all q (filter a xs)) (rw holds at all)).0

  -- the same at the others
  all_passing_rest : (a q : X → Bool) (x : X) (xs : List X) → list_all q (filter a (x ∷ xs)) ≡ true →
      list_all q (filter a xs) ≡ true
  all_passing_rest a q x xs all = elim (cases_Bool (a x)) [
    | inl e ↦ (and_parts (q x) (list_all q (filter a xs)) (rw e at all)).1
    | inr e ↦ rw e at all
  ]

  -- what is found is one of the list
  pub find_among : (p a q : X → Bool) (xs : List X) (w : X) → find p xs ≡ Some w → a w ≡ true →
      list_all q (filter a xs) ≡ true → q w ≡ true
  find_among p a q [] w h holds all = absurd (cc)
  find_among p a q (x ∷ xs) w h holds all = elim (cases_Bool (p x)) [
    | inl e ↦
        let found = rw e at h in
        let same : x ≡ w = cc in
        rw (← same) (all_passing_here a q x xs (rw same holds) all)
    | inr e ↦ find_among p a q xs w (rw e at h) holds (all_passing_rest a q x xs all)
  ]

  -- nothing is found where each element that passes one test has a fact against the other, and no other passes it
  pub find_none : (p a q : X → Bool) (xs : List X) → list_all q (filter a xs) ≡ true →
      ((x : X) → a x ≡ true → q x ≡ true → p x ≡ false) → ((x : X) → a x ≡ false → p x ≡ false) → find p xs ≡ None
  find_none p a q [] all inside outside = refl
  find_none p a q (x ∷ xs) all inside outside =
      let fails : p x ≡ false = elim (cases_Bool (a x)) [
        | inl e ↦ inside x e (all_passing_here a q x xs e all)
        | inr e ↦ outside x e
      ] in
      rw fails (find_none p a q xs (all_passing_rest a q x xs all) inside outside)

  -- a place among the others, counted from one more element on
  place_shifted : (n : ℕ) (x : X) (xs : List X) (found : Option X) (place : Option ℕ) →
      MatchOption found (place ≡ None) (λ w. (i : ℕ) × (place ≡ Some (n + 1 + i)) × (slice_get xs i ≡ Some w)) →
      MatchOption found (place ≡ None) (λ w. (i : ℕ) × (place ≡ Some (n + i)) × (slice_get (x ∷ xs) i ≡ Some w))
  place_shifted n x xs None place h = h
  place_shifted n x xs (Some w) place h = (suc h.0, h.1 ∙ ap Some (omega arith), h.2)

  -- the first place that passes is that of the first element that does
  pub position_of_found : (p : X → Bool) (n : ℕ) (xs : List X) →
      MatchOption (find p xs) (position_from p n xs ≡ None)
      (λ w. (i : ℕ) × (position_from p n xs ≡ Some (n + i)) × (slice_get xs i ≡ Some w))
  position_of_found p n [] = refl
  position_of_found p n (x ∷ xs) = elim (cases_Bool (p x)) [
    | inl e ↦ rw e (0, ap Some (omega arith), refl)
    | inr e ↦ rw e (place_shifted n x xs (find p xs) (position_from p (n + 1) xs) (position_of_found p (n + 1) xs))
  ]

-- where no number fails, each passes
pub passes_from : (holds : ℕ → Bool) (from count more : ℕ) →
    find (λ n. not (holds n)) (range_with_len from count) ≡ None →
    more < count → holds (from + more) ≡ true
passes_from holds from zero more none below = absurd (omega arith)
passes_from holds from (suc count) zero none below =
    let here : from + 0 ≡ from = omega arith in
    elim (cases_Bool (holds from)) [
      | inl e ↦ rw here e
      | inr e ↦ absurd (let found = rw e at none in cc)
    ]
passes_from holds from (suc count) (suc more) none below =
    let next : from + suc more ≡ from + 1 + more = omega arith in
    elim (cases_Bool (holds from)) [
      | inl e ↦ rw next (passes_from holds (from + 1) count more (rw e at none) (omega arith))
      | inr e ↦ absurd (let found = rw e at none in cc)
    ]
