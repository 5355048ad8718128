-- What is kept of some rules, as one more is met.
use Rattle.std.proofs.Common.{◌≡◌, ℕ, suc, ◌+◌, ◌<◌, ◌≤◌, ◌++◌, List, [], ◌∷◌, length, take, filter, All, Bool, true}
use Rattle.std.proofs.Common.{false, cond, refl, sym, ap, ◌∙◌, arith}
use Rattle.std.specs.List.{Contains}
use Rattle.std.proofs.lemmas.Bool.{cond-true, cond-false}
use Rattle.std.proofs.lemmas.List.{append-nil, length-append, length-take, take_all, take-append-le}
use Rattle.std.proofs.lemmas.List.Elements.{filter-append, All-weaker, All-contains_itself}
use Rattle.field_defs.specs.declared.field.FieldDef.{FieldDef}
use Rattle.rule_set.specs.Rule.{RuleView, RuleSetView}
use Rattle.covered_rules.specs.Covered.{is_wide_at, wide_ones, is_covered, uncovered_of, uncovered, IsKept}
use Rattle.covered_rules.proofs.Staying.{wide_stays}
use Rattle.list_lemmas.proofs.Members.{has}

-- nothing is kept of no rules
pub none_kept : (set : RuleSetView) → IsKept set 0 [] []
unfolding uncovered_of
none_kept set = record { places_are = refl; wide_are = refl }

-- what is kept of all rules are those that no other covers
pub all_kept : (set : RuleSetView) (count : ℕ) (places wide : List ℕ) → IsKept set count places wide →
    count ≡ length set.rules → places ≡ uncovered set.layout set.rules
unfolding uncovered
all_kept set count places wide kept all = kept.places_are ∙ ap (uncovered_of set.layout set.rules) all

-- the wide ones that are kept stand before the next rule
pub wide_before : (set : RuleSetView) (count : ℕ) (places wide : List ℕ) → IsKept set count places wide →
    All (λ other. other < count) wide
wide_before set count places wide kept =
    let is : wide ≡ wide_ones set.layout set.rules (uncovered_of set.layout set.rules count) =
    kept.wide_are ∙ ap (wide_ones set.layout set.rules) kept.places_are in
    rw is (All-weaker (Contains (wide_ones set.layout set.rules (uncovered_of set.layout set.rules count)))
    (λ other. other < count)
    (λ other among. (wide_stays set.layout set.rules count other (has _ other among)).0)
    (wide_ones set.layout set.rules (uncovered_of set.layout set.rules count)) (All-contains_itself _))

module _ (layout : List FieldDef) (rules : List RuleView) (count : ℕ) where
  -- the next rule is covered
  abbrev is_next_covered : Bool
  is_next_covered = is_covered layout rules (wide_ones layout rules (uncovered_of layout rules count)) count

  -- a covered rule isn't one of them
  more_covered : is_next_covered ≡ true → uncovered_of layout rules (count + 1) ≡ uncovered_of layout rules count
  unfolding uncovered_of
  more_covered is =
      let next : count + 1 ≡ suc count = omega arith in
      ap (uncovered_of layout rules) next ∙ cond-true _ _ _ is

  -- any other is
  more_free : is_next_covered ≡ false →
      uncovered_of layout rules (count + 1) ≡ uncovered_of layout rules count ++ count ∷ []
  unfolding uncovered_of
  more_free is =
      let next : count + 1 ≡ suc count = omega arith in
      ap (uncovered_of layout rules) next ∙ cond-false _ _ _ is

-- the wide ones that are kept cover what those of the definition do
covered_alike : (set : RuleSetView) (count : ℕ) (places wide : List ℕ) → IsKept set count places wide →
    is_covered set.layout set.rules wide count ≡ is_next_covered set.layout set.rules count
covered_alike set count places wide kept =
    ap (λ ws. is_covered set.layout set.rules ws count)
    (kept.wide_are ∙ ap (wide_ones set.layout set.rules) kept.places_are)

-- a covered rule leaves what is kept
pub kept_same : (set : RuleSetView) (count : ℕ) (places wide : List ℕ) → IsKept set count places wide →
    is_covered set.layout set.rules wide count ≡ true → IsKept set (count + 1) places wide
kept_same set count places wide kept covered = record {
  places_are = kept.places_are
      ∙ sym (more_covered set.layout set.rules count (sym (covered_alike set count places wide kept) ∙ covered));
  wide_are = kept.wide_are;
}

-- any other is kept, with the wide ones of those that are kept then
pub kept_more : (set : RuleSetView) (count : ℕ) (places wide more : List ℕ) → IsKept set count places wide →
    is_covered set.layout set.rules wide count ≡ false →
    more ≡ wide_ones set.layout set.rules (places ++ count ∷ []) → IsKept set (count + 1) (places ++ count ∷ []) more
kept_more set count places wide more kept free is = record {
  places_are = ap (λ (ps : List ℕ). ps ++ count ∷ []) kept.places_are
      ∙ sym (more_free set.layout set.rules count (sym (covered_alike set count places wide kept) ∙ free));
  wide_are = is;
}

-- the first of a longer list, while there is room
take_push : (n : ℕ) (xs ys : List ℕ) (x : ℕ) → ys ≡ take n xs → length ys < n → ys ++ x ∷ [] ≡ take n (xs ++ x ∷ [])
take_push n xs ys x is room =
    let long = ap length is in
    ap (λ (l : List ℕ). l ++ x ∷ []) (is ∙ take_all n xs (omega (arith, long, length-take n xs, room)))
    ∙ sym (take_all n (xs ++ x ∷ []) (omega (arith, long, length-take n xs, length-append xs (x ∷ []), room)))

-- and where there is none
take_full : (n : ℕ) (xs ys : List ℕ) (x : ℕ) → ys ≡ take n xs → n ≤ length ys → ys ≡ take n (xs ++ x ∷ [])
take_full n xs ys x is full =
    is ∙ sym (take-append-le n xs (x ∷ []) (omega (arith, ap length is, length-take n xs, full)))

module _ (layout : List FieldDef) (rules : List RuleView) (places wide : List ℕ) (place : ℕ)
    (are : wide ≡ wide_ones layout rules places) where
  -- the wide ones of some places and one more
  filter_push : (b : Bool) → is_wide_at layout rules place ≡ b →
      filter (is_wide_at layout rules) (places ++ place ∷ [])
      ≡ filter (is_wide_at layout rules) places ++ cond b (place ∷ []) []
  filter_push b is =
      filter-append (is_wide_at layout rules) places (place ∷ [])
      ∙ ap (λ b. filter (is_wide_at layout rules) places ++ cond b (place ∷ []) []) is

  -- a wide one is put after the others, while there is room
  pub wide_put : length wide < 1024 → is_wide_at layout rules place ≡ true →
      wide ++ place ∷ [] ≡ wide_ones layout rules (places ++ place ∷ [])
  wide_put room is =
      take_push 1024 (filter (is_wide_at layout rules) places) wide place are room
      ∙ ap (take 1024) (sym (filter_push true is))

  -- one that isn't wide isn't put there
  pub narrow_left : is_wide_at layout rules place ≡ false → wide ≡ wide_ones layout rules (places ++ place ∷ [])
  narrow_left is =
      are ∙ ap (take 1024) (sym (filter_push false is ∙ append-nil (filter (is_wide_at layout rules) places)))

  -- nor is any where there is no room
  pub full_left : (b : Bool) → is_wide_at layout rules place ≡ b → 1024 ≤ length wide →
      wide ≡ wide_ones layout rules (places ++ place ∷ [])
  full_left true is full =
      take_full 1024 (filter (is_wide_at layout rules) places) wide place are full
      ∙ ap (take 1024) (sym (filter_push true is))
  full_left false is full = narrow_left is
