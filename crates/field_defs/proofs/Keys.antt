-- The key of a buffer, field by field.
use Rattle.std.proofs.Common.{◌≡◌, ℕ, zero, suc, ◌+◌, ◌<◌, ◌≤◌, List, [], ◌∷◌, ◌++◌, length, get_or, take, drop, fold}
use Rattle.std.proofs.Common.{max, ap, ◌∙◌, arith}
use Rattle.std.proofs.lemmas.List.{take_more, append-nil}
use Rattle.std.proofs.lemmas.List.Concat.{flat_map-append}
use Rattle.std.proofs.lemmas.List.Sums.{sum_by-cons}
use Rattle.field_defs.specs.declared.field.FieldDef.{FieldDef}
use Rattle.field_defs.specs.Layout.{key_of, key_len_of, buffer_len_of}

-- the greatest of a number and the ends of the fields
abbrev reach : ℕ → List FieldDef → ℕ
reach n defs = fold (λ m d. max m (d.offset + d.size)) n defs

-- the ends of the fields make the number no smaller
reach_from : (n : ℕ) (defs : List FieldDef) → n ≤ reach n defs
reach_from n [] = omega arith
reach_from n (def ∷ defs) = omega (arith, reach_from (max n (def.offset + def.size)) defs)

-- each field ends within the greatest end
field_within_reach : (n : ℕ) (defs : List FieldDef) (i : ℕ) (d : FieldDef) → i < length defs →
    (get_or defs i d).offset + (get_or defs i d).size ≤ reach n defs
field_within_reach n [] i d h = absurd (omega arith)
field_within_reach n (def ∷ defs) zero d h = omega (arith, reach_from (max n (def.offset + def.size)) defs)
field_within_reach n (def ∷ defs) (suc i) d h =
    field_within_reach (max n (def.offset + def.size)) defs i d (omega arith)

-- no field ends after the bytes that a buffer has to have
pub field_within_buffer : (defs : List FieldDef) (i : ℕ) (d : FieldDef) → i < length defs →
    (get_or defs i d).offset + (get_or defs i d).size ≤ buffer_len_of defs
field_within_buffer defs i d h = field_within_reach 0 defs i d h

-- a field ends within the key, after those before it
pub field_within_key : (defs : List FieldDef) (i : ℕ) (d : FieldDef) → i < length defs →
    key_len_of (take i defs) + (get_or defs i d).size ≤ key_len_of defs
field_within_key [] i d h = absurd (omega arith)
field_within_key (def ∷ defs) zero d h = omega (arith, sum_by-cons (λ (d : FieldDef). d.size) def defs)
field_within_key (def ∷ defs) (suc i) d h =
    omega (
      arith,
      sum_by-cons (λ (d : FieldDef). d.size) def (take i defs),
      sum_by-cons (λ (d : FieldDef). d.size) def defs,
      field_within_key defs i d (omega arith),
    )

-- one more field adds its bytes
pub key_of_more : (defs : List FieldDef) (buffer : List ℕ) (i : ℕ) (d : FieldDef) → i < length defs →
    key_of (take (i + 1) defs) buffer ≡ key_of (take i defs) buffer ++ take (get_or defs i d).size
    (drop (get_or defs i d).offset buffer)
key_of_more defs buffer i d h =
    ap (λ ds. key_of ds buffer) (take_more defs i d h)
    ∙ flat_map-append (λ (def : FieldDef). take def.size (drop def.offset buffer)) (take i defs) (get_or defs i d ∷ [])
    ∙ ap (λ last. key_of (take i defs) buffer ++ last) (append-nil _)
