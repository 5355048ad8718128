-- Which numbers a rule's value for a field lets through (DPDK Programmer's Guide, ACL field types:
-- mask, range, bitmask).
use Rattle.std.specs.Prelude.{ℕ, ◌-◌, ◌*◌, ◌/◌, ◌^◌, ◌==◌, Bool, ◌&&◌}
use Rattle.std.specs.Prelude.{nat_le, bit_and}
use Rattle.field_defs.specs.declared.field.FieldKind.{FieldKind}
use Rattle.field_defs.specs.declared.field.FieldKind.TheVariants as kinds
use Rattle.field_defs.specs.declared.field.FieldValue.{FieldValue}
use Rattle.field_defs.specs.declared.field.FieldValue.TheVariants.{Mask, Range, Bitmask}

-- A mask agrees in its leading bits, a range holds both of its ends, and a bitmask agrees where it
-- is set.
abbrev pub field_match : FieldValue → ℕ → ℕ → Bool
field_match (Mask value bits) size x = x / 2 ^ (8 * size - bits) == value / 2 ^ (8 * size - bits)
field_match (Range low high) size x = nat_le low x && nat_le x high
field_match (Bitmask value mask) size x = bit_and x mask == bit_and value mask

-- the kind of field that the value is for
abbrev pub kind_of : FieldValue → FieldKind
kind_of (Mask value bits) = kinds.Mask
kind_of (Range low high) = kinds.Range
kind_of (Bitmask value mask) = kinds.Bitmask
