-- Which sizes a field may have, and which values: those that let every number through, and those
-- that are within its size.
use Rattle.std.specs.Prelude.{◌≡◌, ℕ, ◌+◌, ◌-◌, ◌*◌, ◌^◌, ◌<◌, ◌==◌, Bool, true, false, ◌&&◌}
use Rattle.std.specs.Prelude.{◌||◌, nat_le, nat_lt, IsTrue}
use Rattle.field_defs.specs.declared.field.FieldKind.{FieldKind}
use Rattle.field_defs.specs.declared.field.FieldKind.TheVariants as kinds
use Rattle.field_defs.specs.declared.field.FieldValue.{FieldValue}
use Rattle.field_defs.specs.declared.field.FieldValue.TheVariants.{Mask, Range, Bitmask}
use Rattle.field_defs.specs.FieldMatch.{field_match}

-- the sizes that a field may have, in bytes
abbrev pub is_size : ℕ → Bool
is_size size = size == 1 || size == 2 || size == 4 || size == 8

-- Every number of the size matches.
abbrev pub IsWild : FieldValue → ℕ → Type 0
IsWild value size = (x : ℕ) → x < 256 ^ size → field_match value size x ≡ true

-- The same by the value's numbers: a mask or bitmask of no bits, or a range from 0 to the greatest
-- number of the size.
abbrev pub is_wild : FieldValue → ℕ → Bool
is_wild (Mask value bits) size = bits == 0
is_wild (Range low high) size = low == 0 && nat_le (256 ^ size) (high + 1)
is_wild (Bitmask value mask) size = mask == 0

-- the two kinds are one
abbrev pub same_kind : FieldKind → FieldKind → Bool
same_kind kinds.Mask kinds.Mask = true
same_kind kinds.Range kinds.Range = true
same_kind kinds.Bitmask kinds.Bitmask = true
same_kind _ _ = false

-- the numbers of the value are numbers of the size
abbrev pub is_within_size : FieldValue → ℕ → Bool
is_within_size (Mask value bits) size = nat_lt value (256 ^ size)
is_within_size (Range low high) size = nat_lt low (256 ^ size) && nat_lt high (256 ^ size)
is_within_size (Bitmask value mask) size = nat_lt value (256 ^ size) && nat_lt mask (256 ^ size)

-- a mask has no more bits than the field
abbrev pub is_mask_within : FieldValue → ℕ → Bool
is_mask_within (Mask value bits) size = nat_le bits (8 * size)
is_mask_within (Range low high) size = true
is_mask_within (Bitmask value mask) size = true

-- a range has a number in it
abbrev pub is_range_filled : FieldValue → Bool
is_range_filled (Mask value bits) = true
is_range_filled (Range low high) = nat_le low high
is_range_filled (Bitmask value mask) = true

-- a value that can be asked about numbers of the size
pub record CanMatch (value : FieldValue) (size : ℕ) : Type 0 where
  pub lawful_size : IsTrue (is_size size)
  pub within_size : IsTrue (is_within_size value size)
  pub mask_within : IsTrue (is_mask_within value size)
