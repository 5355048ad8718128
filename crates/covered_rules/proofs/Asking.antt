-- What rules at places are asked, told by the rules.
use Rattle.std.proofs.Common.{◌≡◌, ℕ, zero, suc, ◌+◌, ◌<◌, ◌≤◌, ◌&&◌, List, [], ◌∷◌, length, drop, get_or}
use Rattle.std.proofs.Common.{Bool, true}
use Rattle.std.proofs.Common.{cond, refl, ap, ◌∙◌, inl, inr, arith}
use Rattle.std.specs.List.{list_any}
use Rattle.std.proofs.lemmas.Bool.{cases_Bool}
use Rattle.std.proofs.lemmas.List.{drop_more, drop_all}
use Rattle.field_defs.specs.declared.field.FieldDef.{FieldDef}
use Rattle.field_defs.specs.declared.field.FieldKind.TheVariants as kinds
use Rattle.field_defs.specs.declared.field.FieldValue.{FieldValue}
use Rattle.field_defs.specs.declared.field.FieldValue.TheVariants.{Mask}
use Rattle.field_defs.specs.FieldBounds.{is_wild}
use Rattle.covered_rules.specs.Covered.{covers_value, covers_values, wild_bytes}

-- what stands where there is no field
abbrev pub no_field : FieldDef
no_field = record { kind = kinds.Mask; size = 0; field_index = 0; input_index = 0; offset = 0 }

abbrev pub no_value : FieldValue
no_value = Mask 0 0

-- a list with an element that passes has one
pub any_at : (p : ℕ → Bool) (xs : List ℕ) (i d : ℕ) → i < length xs → p (get_or xs i d) ≡ true → list_any p xs ≡ true
any_at p [] i d within is = absurd (omega arith)
any_at p (x ∷ xs) zero d within is = rw is refl
any_at p (x ∷ xs) (suc i) d within is =
    let rest = any_at p xs i d (omega arith) is in
    elim (cases_Bool (p x)) [
      | inl e ↦ rw e refl
      | inr e ↦ rw (e, rest) refl
    ]

module _ (defs : List FieldDef) (values : List FieldValue) (i : ℕ) (def : FieldDef) (value : FieldValue)
    (here : i < length defs) (there : i < length values) where
  -- the bytes of one more wild field
  wild_bytes-drop : wild_bytes (drop i defs) (drop i values)
      ≡ cond (is_wild (get_or values i value) (get_or defs i def).size) (get_or defs i def).size 0
      + wild_bytes (drop (i + 1) defs) (drop (i + 1) values)
  wild_bytes-drop =
      ap (λ ds. wild_bytes ds (drop i values)) (drop_more defs i def here)
      ∙ ap (λ vs. wild_bytes (get_or defs i def ∷ drop (i + 1) defs) vs) (drop_more values i value there)

  -- where it is known whether it is wild
  pub wild_bytes-more : (b : Bool) → is_wild (get_or values i value) (get_or defs i def).size ≡ b →
      wild_bytes (drop i defs) (drop i values)
      ≡ cond b (get_or defs i def).size 0 + wild_bytes (drop (i + 1) defs) (drop (i + 1) values)
  wild_bytes-more b is =
      wild_bytes-drop
      ∙ ap (λ w. cond w (get_or defs i def).size 0 + wild_bytes (drop (i + 1) defs) (drop (i + 1) values)) is

  -- whether one more field covers another
  pub covers_values-drop : (others : List FieldValue) (other : FieldValue) → i < length others →
      covers_values (drop i defs) (drop i values) (drop i others)
      ≡ (covers_value (get_or values i value) (get_or others i other) (get_or defs i def).size
      && covers_values (drop (i + 1) defs) (drop (i + 1) values) (drop (i + 1) others))
  covers_values-drop others other too =
      ap (λ ds. covers_values ds (drop i values) (drop i others)) (drop_more defs i def here)
      ∙ ap (λ vs. covers_values (get_or defs i def ∷ drop (i + 1) defs) vs (drop i others))
      (drop_more values i value there)
      ∙ ap (λ os. covers_values (get_or defs i def ∷ drop (i + 1) defs)
      (get_or values i value ∷ drop (i + 1) values) os)
      (drop_more others i other too)

-- where no field is left, all are covered
pub covers_values-drop_all : (defs : List FieldDef) (values others : List FieldValue) (i : ℕ) → length defs ≤ i →
    length values ≤ i → length others ≤ i → covers_values (drop i defs) (drop i values) (drop i others) ≡ true
covers_values-drop_all defs values others i h k l =
    ap (λ ds. covers_values ds (drop i values) (drop i others)) (drop_all i defs h)
    ∙ ap (λ vs. covers_values [] vs (drop i others)) (drop_all i values k)
    ∙ ap (λ os. covers_values [] [] os) (drop_all i others l)
