-- Examples of the field match, each checked by evaluation.
use Rattle.std.specs.Prelude.{◌≡◌, ℕ, List, [], ◌∷◌, Bool, true, false, map, refl}
use Rattle.field_defs.specs.declared.field.FieldKind.TheVariants as kinds
use Rattle.field_defs.specs.declared.field.FieldValue.{FieldValue}
use Rattle.field_defs.specs.declared.field.FieldValue.TheVariants.{Mask, Range, Bitmask}
use Rattle.field_defs.specs.FieldMatch.{field_match, kind_of}
use Rattle.field_defs.specs.FieldBounds.{same_kind, is_within_size}
use Rattle.field_defs.specs.FieldBounds.{is_mask_within, is_range_filled}

-- which of the numbers the value lets through
abbrev answers : FieldValue → ℕ → List ℕ → List Bool
answers value size xs = map (field_match value size) xs

-- both ends of 192.168.1.0/24, and the numbers beside them
a_prefix_of_24_bits : answers (Mask 0xC0A80100 24) 4
    (0xC0A800FF ∷ 0xC0A80100 ∷ 0xC0A801FF ∷ 0xC0A80200 ∷ []) ≡ false ∷ true ∷ true ∷ false ∷ []
a_prefix_of_24_bits = refl

-- host bits past the prefix are ignored
host_bits : answers (Mask 0xC0A80105 24) 4 (0xC0A80100 ∷ 0xC0A80205 ∷ []) ≡ true ∷ false ∷ []
host_bits = refl

prefix_of_0_bits_1 : answers (Mask 7 0) 1 (0 ∷ 255 ∷ []) ≡ true ∷ true ∷ []
prefix_of_0_bits_1 = refl

prefix_of_0_bits_2 : answers (Mask 7 0) 2 (0 ∷ 0xFFFF ∷ []) ≡ true ∷ true ∷ []
prefix_of_0_bits_2 = refl

prefix_of_0_bits_4 : answers (Mask 7 0) 4 (0 ∷ 0xFFFF_FFFF ∷ []) ≡ true ∷ true ∷ []
prefix_of_0_bits_4 = refl

prefix_of_0_bits_8 : answers (Mask 7 0) 8 (0 ∷ 0xFFFF_FFFF_FFFF_FFFF ∷ []) ≡ true ∷ true ∷ []
prefix_of_0_bits_8 = refl

prefix_of_all_bits_1 : answers (Mask 7 8) 1 (6 ∷ 7 ∷ 8 ∷ []) ≡ false ∷ true ∷ false ∷ []
prefix_of_all_bits_1 = refl

prefix_of_all_bits_2 : answers (Mask 0xFFFF 16) 2 (0xFFFE ∷ 0xFFFF ∷ []) ≡ false ∷ true ∷ []
prefix_of_all_bits_2 = refl

prefix_of_all_bits_4 : answers (Mask 0x0A010101 32) 4 (0x0A010100 ∷ 0x0A010101 ∷ 0x0A010102 ∷ [])
    ≡ false ∷ true ∷ false ∷ []
prefix_of_all_bits_4 = refl

prefix_of_all_bits_8 : answers (Mask 0xFFFF_FFFF_FFFF_FFFF 64) 8
    (0xFFFF_FFFF_FFFF_FFFE ∷ 0xFFFF_FFFF_FFFF_FFFF ∷ []) ≡ false ∷ true ∷ []
prefix_of_all_bits_8 = refl

-- both ends of a range are in it
range_ends : answers (Range 1024 2048) 2 (1023 ∷ 1024 ∷ 2048 ∷ 2049 ∷ [])
    ≡ false ∷ true ∷ true ∷ false ∷ []
range_ends = refl

range_of_one_number : answers (Range 80 80) 2 (79 ∷ 80 ∷ 81 ∷ []) ≡ false ∷ true ∷ false ∷ []
range_of_one_number = refl

range_of_all_ports : answers (Range 0 65535) 2 (0 ∷ 65535 ∷ []) ≡ true ∷ true ∷ []
range_of_all_ports = refl

-- protocol 17 exactly, any odd protocol, and any protocol at all
bitmask_of_all_bits : answers (Bitmask 0x11 0xFF) 1 (6 ∷ 17 ∷ 16 ∷ []) ≡ false ∷ true ∷ false ∷ []
bitmask_of_all_bits = refl

bitmask_of_one_bit : answers (Bitmask 1 1) 1 (6 ∷ 17 ∷ 255 ∷ []) ≡ false ∷ true ∷ true ∷ []
bitmask_of_one_bit = refl

bitmask_of_no_bit : answers (Bitmask 0x11 0) 1 (0 ∷ 6 ∷ 255 ∷ []) ≡ true ∷ true ∷ true ∷ []
bitmask_of_no_bit = refl

-- a bit of the value that the mask lacks is ignored
bitmask_beyond_its_mask : answers (Bitmask 0xF1 0x0F) 1 (0x01 ∷ 0xF1 ∷ 0x02 ∷ [])
    ≡ true ∷ true ∷ false ∷ []
bitmask_beyond_its_mask = refl

-- which values can be asked about at all
widths : is_within_size (Mask 256 0) 1 ∷ is_within_size (Range 0 65535) 2 ∷ is_within_size
    (Range 0 65536) 2 ∷ is_within_size (Bitmask 0 256) 1 ∷ [] ≡ false ∷ true ∷ false ∷ false ∷ []
widths = refl

mask_lengths : is_mask_within (Mask 0 32) 4 ∷ is_mask_within (Mask 0 33) 4 ∷ [] ≡ true ∷ false ∷ []
mask_lengths = refl

filled_ranges : is_range_filled (Range 7 7) ∷ is_range_filled (Range 8 7) ∷ [] ≡ true ∷ false ∷ []
filled_ranges = refl

-- a kind is one with itself, and with no other
same_kinds : map (same_kind kinds.Range) (kinds.Mask ∷ kinds.Range ∷ kinds.Bitmask ∷ [])
    ≡ false ∷ true ∷ false ∷ []
same_kinds = refl

other_kinds : map (same_kind kinds.Bitmask) (kinds.Mask ∷ kinds.Range ∷ kinds.Bitmask ∷ [])
    ≡ false ∷ false ∷ true ∷ []
other_kinds = refl

kinds_of_values : map kind_of (Mask 0 0 ∷ Range 0 0 ∷ Bitmask 0 0 ∷ [])
    ≡ kinds.Mask ∷ kinds.Range ∷ kinds.Bitmask ∷ []
kinds_of_values = refl
