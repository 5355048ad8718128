-- Between the kept places all rules are wild.
use Rattle.std.proofs.Common.{◌≡◌, ◌≢◌, ℕ, zero, suc, ◌+◌, ◌<◌, ◌≤◌, ◌==◌, List, [], ◌∷◌, length, filter, get_or, Bool}
use Rattle.std.proofs.Common.{true, false, cond, not, ◌&&◌, ◌||◌, true≢false, refl, sym, ◌∙◌, ap, subst, inl, inr}
use Rattle.std.proofs.Common.{arith}
use Rattle.std.specs.List.{range_with_len, list_all}
use Rattle.std.proofs.lemmas.Bool.{cases_Bool, cases_eq, eq-eqb, or_parts, or_right, not-false}
use Rattle.field_defs.specs.Layout.{key_len_of}
use Rattle.rule_set.specs.Rule.{RuleSetView}
use Rattle.list_lemmas.proofs.Ranges.{not_all_numbers, each_in_range, all_or_some_not}
use Rattle.group_states.proofs.Reached.{IsGap}
use Rattle.table_sizes.specs.Groups.{group_of}
use Rattle.group_states.specs.Kept.{is_wild_place, is_idle, is_kept, key_places, kept_places}

module _ (set : RuleSetView) (group : List ℕ) where
  -- The kept places with the gaps between them, to the end of the key.
  abbrev pub Gaps : List ℕ → Type 0
  Gaps [] = Unit {0}
  Gaps (place ∷ []) = IsGap set group place (key_len_of set.layout)
  Gaps (place ∷ next ∷ places) = IsGap set group place next × Gaps (next ∷ places)

  -- the places from one on that pass the test have wild places between them
  gaps_from : (test : ℕ → Bool)
      (wild : (k : ℕ) → k < key_len_of set.layout → test k ≡ false → is_wild_place set group k ≡ true)
      (place first count : ℕ) → place < first → first + count ≡ key_len_of set.layout
      → ((k : ℕ) → place < k → k < first → is_wild_place set group k ≡ true) →
      Gaps (place ∷ filter test (range_with_len first count))
  gaps_from test wild place first zero rises whole between = record {
    rises = omega (arith, whole);
    within = omega arith;
    wild = λ k from below. between k from (omega (arith, whole));
  }
  gaps_from test wild place first (suc count) rises whole between = elim (cases_Bool (test first)) [
    | inl kept ↦
        subst (λ b. Gaps (place ∷ cond b (first ∷ filter test (range_with_len (first + 1) count))
        (filter test (range_with_len (first + 1) count)))) (sym kept) (
          record { rises = rises; within = omega (arith, whole); wild = between },
          gaps_from test wild first (first + 1) count (omega arith) (omega (arith, whole))
              (λ k from below. absurd (omega arith)),
        )
    | inr left_out ↦
        subst (λ b. Gaps (place ∷ cond b (first ∷ filter test (range_with_len (first + 1) count))
        (filter test (range_with_len (first + 1) count)))) (sym left_out)
        (gaps_from test wild place (first + 1) count (omega arith) (omega (arith, whole))
        (λ k from below. elim (cases_eq k first) [
          | inl e ↦ ap (is_wild_place set group) e ∙ wild first (omega (arith, whole)) left_out
          | inr other ↦ between k from (omega (arith, other))
        ]))
  ]

  -- There is a first kept place, all before it are wild, and the gaps follow.
  pub record HasFirst (places : List ℕ) : Type 0 where
    pub some : 0 < length places
    pub before : (k : ℕ) → k < get_or places 0 0 → is_wild_place set group k ≡ true
    pub within : get_or places 0 0 ≤ key_len_of set.layout
    pub gaps : Gaps places

  -- the places that pass the test have a first one, and the places before it are wild
  first_from : (test : ℕ → Bool)
      (wild : (k : ℕ) → k < key_len_of set.layout → test k ≡ false → is_wild_place set group k ≡ true)
      (first count : ℕ) → first + count ≡ key_len_of set.layout
      → ((k : ℕ) → k < first → is_wild_place set group k ≡ true) →
      ((k : ℕ) × (first ≤ k) × (k < first + count) × (test k ≡ true))
      → HasFirst (filter test (range_with_len first count))
  first_from test wild first zero whole before one = absurd (omega (arith, one.1, one.2))
  first_from test wild first (suc count) whole before one = elim (cases_Bool (test first)) [
    | inl kept ↦
        subst (λ b. HasFirst (cond b (first ∷ filter test (range_with_len (first + 1) count))
        (filter test (range_with_len (first + 1) count)))) (sym kept)
        (record {
          some = omega arith;
          before = before;
          within = omega (arith, whole);
          gaps = gaps_from test wild first (first + 1) count (omega arith) (omega (arith, whole))
              (λ k from below. absurd (omega arith));
        })
    | inr left_out ↦
        let other : one.0 ≢ first = λ e. true≢false (sym one.3 ∙ ap test e ∙ left_out) in
        subst (λ b. HasFirst (cond b (first ∷ filter test (range_with_len (first + 1) count))
        (filter test (range_with_len (first + 1) count)))) (sym left_out)
        (first_from test wild (first + 1) count (omega (arith, whole))
        (λ k below. elim (cases_eq k first) [
          | inl e ↦ ap (is_wild_place set group) e ∙ wild first (omega (arith, whole)) left_out
          | inr apart ↦ before k (omega (arith, apart))
        ])
        (one.0, omega (arith, one.1, other), omega (arith, one.2), one.3))
  ]

  -- a place of an idle group is wild
  pub idle_is_wild : (place : ℕ) → place < key_len_of set.layout → is_idle set group (group_of place) ≡ true
      → is_wild_place set group place ≡ true
  unfolding is_idle
  idle_is_wild place within idle =
      let here =
      each_in_range (λ k. not (group_of k == group_of place) || is_wild_place set group k) 0 (key_len_of set.layout)
      idle place (omega arith) (omega arith) in
      sym (ap (λ b. not b || is_wild_place set group place) (eq-eqb (group_of place) (group_of place) refl)) ∙ here

  -- and so is one of a group that isn't kept
  left_out_is_wild : (place : ℕ) → place < key_len_of set.layout → is_kept set group (group_of place) ≡ false
      → is_wild_place set group place ≡ true
  unfolding is_kept
  left_out_is_wild place within left_out =
      let parts = or_parts (not (is_idle set group (group_of place)))
      (group_of place == 0 && list_all (is_wild_place set group) (key_places set)) left_out in
      idle_is_wild place within (not-false _ parts.0)

  -- some place is kept
  some_kept : 0 < key_len_of set.layout
      → (k : ℕ) × (0 ≤ k) × (k < 0 + key_len_of set.layout) × (is_kept set group (group_of k) ≡ true)
  unfolding is_kept is_idle
  some_kept some = elim (all_or_some_not (is_wild_place set group) 0 (key_len_of set.layout)) [
    | inl all ↦ (
      0,
      omega arith,
      omega arith,
      ap (λ b. not (list_all (λ k. not (group_of k == 0) || is_wild_place set group k) (key_places set)) || (true && b))
          all
          ∙ or_right (not (list_all (λ k. not (group_of k == 0) || is_wild_place set group k) (key_places set)))
          true refl,
    )
    | inr one ↦ (
      one.0,
      one.1,
      one.2,
      (let not_idle : list_all (λ k. not (group_of k == group_of one.0) || is_wild_place set group k) (key_places set)
          ≡ false =
          not_all_numbers (λ k. not (group_of k == group_of one.0) || is_wild_place set group k)
          (key_len_of set.layout) one.0 (omega (arith, one.2))
          (ap (λ b. not b || is_wild_place set group one.0) (eq-eqb (group_of one.0) (group_of one.0) refl) ∙ one.3) in
          ap (λ b. not b || (group_of one.0 == 0 && list_all (is_wild_place set group) (key_places set))) not_idle),
    )
  ]

  -- the kept places have a first one, and the places before it are wild
  pub kept_places_first : 0 < key_len_of set.layout → HasFirst (kept_places set group)
  unfolding kept_places
  kept_places_first some =
      first_from (λ place. is_kept set group (group_of place)) left_out_is_wild 0 (key_len_of set.layout) (omega arith)
      (λ k below. absurd (omega arith)) (some_kept some)
