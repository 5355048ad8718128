-- The rows of a box are lawful, and there is at least one.
use Rattle.std.proofs.Common.{◌≡◌, ℕ, zero, suc, ◌+◌, ◌*◌, ◌-◌, ◌^◌, ◌≤◌, ◌<◌, List, [], ◌∷◌, ◌++◌, map, length, drop, Bool, true}
use Rattle.std.proofs.Common.{◌&&◌, ◌||◌, IsTrue, refl, sym, ap, subst, ◌∙◌, inl, inr, arith, length-append, leb, ltb}
use Rattle.std.specs.List.{AllByRecursion, AllZip, list_any}
use Rattle.std.proofs.lemmas.Bool.{cases_Bool, and_from, le-leb}
use Rattle.std.proofs.lemmas.List.{length-map}
use Rattle.std.proofs.lemmas.List.Concat.{flat_map-cons}
use Rattle.std.proofs.lemmas.Nat.{pow_pos}
use Rattle.std.proofs.Math.Nat.{two-pow-succ, mul-le-mul_right}
use Rattle.list_lemmas.proofs.Each.{all-append}
use Rattle.list_lemmas.proofs.Powers.{bytes_as_bits}
use Rattle.field_defs.specs.FieldBounds.{is_size}
use Rattle.field_defs.specs.FieldMatch.{field_match}
use Rattle.field_defs.specs.declared.field.FieldDef.{FieldDef}
use Rattle.field_defs.specs.declared.field.FieldKind.{FieldKind}
use Rattle.field_defs.specs.declared.field.FieldKind.TheVariants as kinds
use Rattle.field_defs.specs.declared.field.FieldValue.{FieldValue}
use Rattle.field_defs.specs.declared.field.FieldValue.TheVariants.{Range}
use Rattle.rule_set.specs.Lawful.{IsLawfulValue}
use Rattle.list_chains.specs.declared.span.Span.{Span}
use Rattle.list_chains.specs.Spans.{IsFieldSpan, in_span}
use Rattle.list_chains.specs.Values.{block, blocks_of, span_values, span_values_of, each_before, box_rows}
use Rattle.list_chains.proofs.BoxRows.{span_is}

-- each block of a span has what each block has
blocks_all : (P : FieldValue → Type 0) (value : ℕ → ℕ → FieldValue) (total : ℕ) →
    ((free base : ℕ) → free ≤ total → base + 2 ^ free ≤ 2 ^ total → P (value free base)) → (free base : ℕ) →
    free ≤ total → base + 2 ^ free ≤ 2 ^ total → (span : Span) → AllByRecursion P (blocks_of value free base span)
blocks_all P value total each zero base within fits span = elim (cases_Bool (in_span span base)) [
  | inl e ↦ rw e (each 0 base within fits, tt)
  | inr e ↦ rw e tt
]
blocks_all P value total each (suc free) base within fits span =
    let twice = two-pow-succ free in
    elim (cases_Bool (leb span.low base && leb (base + 2 ^ suc free) (span.high + 1))) [
      | inl e ↦ rw e (each (suc free) base within fits, tt)
      | inr e ↦ elim (cases_Bool (ltb span.high base || leb (base + 2 ^ suc free) span.low)) [
        | inl f ↦ rw (e, f) tt
        | inr f ↦ rw (e, f) (all-append P (blocks_of value free base span) (blocks_of value free (base + 2 ^ free) span)
            (blocks_all P value total each free base (omega (arith, within)) (omega (arith, fits, twice)) span)
            (blocks_all P value total each free (base + 2 ^ free) (omega (arith, within)) (omega (arith, fits, twice))
            span))
      ]
    ]

-- a number of a field's bits is one of its bytes
of_bytes : (size x : ℕ) → x < 2 ^ (8 * size) → ltb x (256 ^ size) ≡ true
of_bytes size x small =
    let same : 2 ^ (8 * size) ≡ 256 ^ size = bytes_as_bits size in
    le-leb (suc x) (256 ^ size) (omega (arith, small, same))

module _ (def : FieldDef) (sized : IsTrue (is_size def.size)) where
  -- a block as a mask
  mask_lawful : def.kind ≡ kinds.Mask → (free base : ℕ) → free ≤ 8 * def.size → base + 2 ^ free ≤ 2 ^ (8 * def.size) →
      IsLawfulValue def (block kinds.Mask (8 * def.size) free base)
  mask_lawful is free base within fits =
      let some : 0 < 2 ^ free = pow_pos free in
      record {
        kind = rw is refl;
        can_match = record {
          lawful_size = sized;
          within_size = of_bytes def.size base (omega (arith, fits, some));
          mask_within = le-leb (8 * def.size - free) (8 * def.size) (omega arith);
        };
        filled = refl;
      }

  -- and as a bitmask
  bitmask_lawful : def.kind ≡ kinds.Bitmask → (free base : ℕ) → free ≤ 8 * def.size →
      base + 2 ^ free ≤ 2 ^ (8 * def.size) → IsLawfulValue def (block kinds.Bitmask (8 * def.size) free base)
  bitmask_lawful is free base within fits =
      let some : 0 < 2 ^ free = pow_pos free in
      let all : 0 < 2 ^ (8 * def.size) = pow_pos (8 * def.size) in
      record {
        kind = rw is refl;
        can_match = record {
          lawful_size = sized;
          within_size = and_from _ _ (of_bytes def.size base (omega (arith, fits, some)))
              (of_bytes def.size (2 ^ (8 * def.size) - 2 ^ free) (omega (arith, some, all)));
          mask_within = refl;
        };
        filled = refl;
      }

  -- a span as a range
  range_lawful : def.kind ≡ kinds.Range → (span : Span) → span.low ≤ span.high → span.high < 2 ^ (8 * def.size) →
      IsLawfulValue def (Range span.low span.high)
  range_lawful is span filled small = record {
    kind = rw is refl;
    can_match = record {
      lawful_size = sized;
      within_size = and_from _ _ (of_bytes def.size span.low (omega (arith, filled, small)))
          (of_bytes def.size span.high small);
      mask_within = refl;
    };
    filled = le-leb span.low span.high filled;
  }

  -- the values of a span
  values_by_kind : (kind : FieldKind) → def.kind ≡ kind → (span : Span) → span.low ≤ span.high →
      span.high < 2 ^ (8 * def.size) → AllByRecursion (IsLawfulValue def) (span_values_of kind (8 * def.size) span)
  values_by_kind kinds.Mask is span filled small =
      blocks_all (IsLawfulValue def) (block kinds.Mask (8 * def.size)) (8 * def.size) (mask_lawful is) (8 * def.size) 0
      (omega arith) (omega arith) span
  values_by_kind kinds.Bitmask is span filled small =
      blocks_all (IsLawfulValue def) (block kinds.Bitmask (8 * def.size)) (8 * def.size) (bitmask_lawful is)
      (8 * def.size) 0 (omega arith) (omega arith) span
  values_by_kind kinds.Range is span filled small = (range_lawful is span filled small, tt)

-- the values of a lawful span are lawful
values_lawful : (def : FieldDef) (span : Span) → IsFieldSpan def span →
    AllByRecursion (IsLawfulValue def) (span_values def span)
values_lawful def span it = values_by_kind def it.size def.kind refl span it.filled it.within

-- a value before some rests
rests_lawful : (def : FieldDef) (defs : List FieldDef) (value : FieldValue) (rests : List (List FieldValue)) →
    IsLawfulValue def value → AllByRecursion (AllZip IsLawfulValue defs) rests →
    AllByRecursion (AllZip IsLawfulValue (def ∷ defs)) (map (λ rest. value ∷ rest) rests)
rests_lawful def defs value [] lawful all = tt
rests_lawful def defs value (rest ∷ rests) lawful all =
    ((lawful, all.0), rests_lawful def defs value rests lawful all.1)

-- and each of some values
each_lawful : (def : FieldDef) (defs : List FieldDef) (values : List FieldValue) (rests : List (List FieldValue)) →
    AllByRecursion (IsLawfulValue def) values → AllByRecursion (AllZip IsLawfulValue defs) rests →
    AllByRecursion (AllZip IsLawfulValue (def ∷ defs)) (each_before values rests)
each_lawful def defs [] rests lawful all = tt
each_lawful def defs (value ∷ values) rests lawful all =
    subst (AllByRecursion (AllZip IsLawfulValue (def ∷ defs)))
    (sym (flat_map-cons (λ v. map (λ rest. v ∷ rest) rests) value values))
    (all-append (AllZip IsLawfulValue (def ∷ defs)) (map (λ rest. value ∷ rest) rests) (each_before values rests)
    (rests_lawful def defs value rests lawful.0 all) (each_lawful def defs values rests lawful.1 all))

-- the rows of a box
pub rows_lawful : (layout : List FieldDef) (box : List Span) → AllZip IsFieldSpan layout box →
    AllByRecursion (AllZip IsLawfulValue layout) (box_rows layout box)
rows_lawful [] [] fits = (tt, tt)
rows_lawful [] (span ∷ spans) fits = absurd fits
rows_lawful (def ∷ defs) [] fits = absurd fits
rows_lawful (def ∷ defs) (span ∷ spans) fits =
    each_lawful def defs (span_values def span) (box_rows defs spans) (values_lawful def span fits.0)
    (rows_lawful defs spans fits.1)

-- how many rows there are
pub length_each : (values : List FieldValue) (rests : List (List FieldValue)) →
    length (each_before values rests) ≡ length values * length rests
length_each [] rests = omega arith
length_each (value ∷ values) rests =
    let one = length-map rests (λ (rest : List FieldValue). value ∷ rest) in
    let more = length_each values rests in
    let both = length-append (map (λ rest. value ∷ rest) rests) (each_before values rests) in
    let all : length (each_before (value ∷ values) rests)
    ≡ length (map (λ rest. value ∷ rest) rests ++ each_before values rests) =
    ap (λ rows. length rows) (flat_map-cons (λ v. map (λ rest. v ∷ rest) rests) value values) in
    all ∙ both ∙ (λ i. one i + more i) ∙ omega arith

-- some element passes a test, so there is one
some_passes : (test : FieldValue → Bool) (values : List FieldValue) → list_any test values ≡ true → 1 ≤ length values
some_passes test [] any = absurd (cc)
some_passes test (value ∷ values) any = omega arith

-- a lawful span has a value
values_some : (def : FieldDef) (span : Span) → IsFieldSpan def span → 1 ≤ length (span_values def span)
values_some def span it =
    some_passes (λ value. field_match value def.size span.low) (span_values def span)
    (span_is def.kind def.size span span.low
    (let filled = it.filled in let small = it.within in omega (arith, filled, small))
    ∙ and_from _ _ (le-leb span.low span.low (omega arith)) (le-leb span.low span.high it.filled))

-- so many rows or more
grow : (values rests : ℕ) → 1 ≤ values → rests ≤ values * rests
grow values rests some = let h = mul-le-mul_right rests some in omega (arith, h)

-- a box has no fewer rows than its last spans
pub rows_grow : (place : ℕ) (layout : List FieldDef) (box : List Span) → AllZip IsFieldSpan layout box →
    length (box_rows (drop place layout) (drop place box)) ≤ length (box_rows layout box)
rows_grow zero layout box fits = omega arith
rows_grow (suc place) [] [] fits = omega arith
rows_grow (suc place) [] (span ∷ spans) fits = absurd fits
rows_grow (suc place) (def ∷ defs) [] fits = absurd fits
rows_grow (suc place) (def ∷ defs) (span ∷ spans) fits =
    let rest = rows_grow place defs spans fits.1 in
    let more = grow (length (span_values def span)) (length (box_rows defs spans)) (values_some def span fits.0) in
    let all = length_each (span_values def span) (box_rows defs spans) in
    omega (arith, rest, more, all)

-- and at least one
pub rows_some : (layout : List FieldDef) (box : List Span) → AllZip IsFieldSpan layout box →
    1 ≤ length (box_rows layout box)
rows_some [] [] fits = omega arith
rows_some [] (span ∷ spans) fits = absurd fits
rows_some (def ∷ defs) [] fits = absurd fits
rows_some (def ∷ defs) (span ∷ spans) fits =
    let rest = rows_some defs spans fits.1 in
    let more = grow (length (span_values def span)) (length (box_rows defs spans)) (values_some def span fits.0) in
    let all = length_each (span_values def span) (box_rows defs spans) in
    omega (arith, rest, more, all)
