-- The value of a rule for a field, as a word of a script spells it: `V/B` is a value and the number
-- of leading bits that have to be equal to it, `L:H` a lowest and a highest number, and `V&M` a
-- value and the bits that have to be equal to it.
use Rattle.std.specs.Prelude.{ℕ, ◌-◌, ◌^◌, List, [], ◌∷◌, Option, Some}
use Rattle.std.specs.Option.{option_map}
use Rattle.field_defs.specs.Faults.{first_of}
use Rattle.field_defs.specs.declared.field.FieldValue.{FieldValue}
use Rattle.field_defs.specs.declared.field.FieldValue.TheVariants.{Mask, Range, Bitmask}
use Rattle.text_scan.specs.Numeral.{whole_number}
use Rattle.text_scan.specs.Parts.{colon, cut_at, slash}
use Rattle.acl_session.specs.WordReading.{◌>>=◌}

-- `&`, which stands between a value and its mask
abbrev pub ampersand : ℕ
ampersand = 38

-- the greatest number of leading bits that may be written
abbrev pub max_bits : ℕ
max_bits = 255

-- the greatest other number
abbrev pub max_number : ℕ
max_number = 2 ^ 64 - 1

-- the numbers around the first separator of a word, the second of at most so much
abbrev pub pair_around : ℕ → ℕ → List ℕ → Option (ℕ × ℕ)
pair_around separator greatest word = do
  cut ← cut_at separator word
  first ← whole_number max_number (cut.0)
  second ← whole_number greatest (cut.1)
  Some (first, second)

-- `V/B`
abbrev pub mask_of : List ℕ → Option FieldValue
mask_of word =
    option_map (λ (pair : ℕ × ℕ). Mask (pair.0) (pair.1)) (pair_around slash max_bits word)

-- `L:H`
abbrev pub range_of : List ℕ → Option FieldValue
range_of word =
    option_map (λ (pair : ℕ × ℕ). Range (pair.0) (pair.1)) (pair_around colon max_number word)

-- `V&M`
abbrev pub bitmask_of : List ℕ → Option FieldValue
bitmask_of word =
    option_map (λ (pair : ℕ × ℕ). Bitmask (pair.0) (pair.1))
    (pair_around ampersand max_number word)

-- the value that a word spells, in one of the three forms
abbrev pub value_of : List ℕ → Option FieldValue
value_of word = first_of (mask_of word ∷ range_of word ∷ bitmask_of word ∷ [])

-- the values that words spell, all of them
abbrev pub values_of : List (List ℕ) → Option (List FieldValue)
values_of [] = Some []
values_of (word ∷ words) =
    value_of word >>= λ value. option_map (λ values. value ∷ values) (values_of words)
