-- Examples of the rest, each checked by evaluation.
use Rattle.std.specs.Prelude.{◌≡◌, ℕ, List, [], ◌∷◌, Option, Some, None, map, refl}
use Rattle.field_defs.specs.declared.field.FieldValue.{FieldValue}
use Rattle.field_defs.specs.declared.field.FieldValue.TheVariants.{Mask, Range, Bitmask}
use Rattle.node_expand.specs.Rest.{Rest, Interval, Live, part, mask_low, mask_high, rest_after}
use Rattle.node_expand.specs.Rest.{rest_step}

-- the rests after each of the prefixes
abbrev rests : FieldValue → ℕ → ℕ → List ℕ → List (Option Rest)
rests value size place prefixes = map (rest_after value size place) prefixes

-- the rests after each byte that may follow a rest
abbrev steps : FieldValue → ℕ → ℕ → Rest → List ℕ → List (Option Rest)
steps value size place before bytes = map (rest_step value size place before) bytes

-- ports from 1024 on: before the first byte, after it, and whole
ports_from_1024 : rests (Range 1024 65535) 2 0 (0 ∷ []) ≡ Some (Interval 1024 65535) ∷ []
unfolding rest_after part
ports_from_1024 = refl

ports_after_a_byte : rests (Range 1024 65535) 2 1 (3 ∷ 4 ∷ 255 ∷ [])
    ≡ None ∷ Some (Interval 0 255) ∷ Some (Interval 0 255) ∷ []
unfolding rest_after part
ports_after_a_byte = refl

whole_ports : rests (Range 1024 65535) 2 2 (1023 ∷ 1024 ∷ 65535 ∷ [])
    ≡ None ∷ Some Live ∷ Some Live ∷ []
unfolding rest_after
whole_ports = refl

-- ports of traceroute: both ends inner, each end alone, and within one first byte
traceroute_ports : rests (Range 33746 33846) 2 1 (130 ∷ 131 ∷ 132 ∷ 133 ∷ [])
    ≡ None ∷ Some (Interval 210 255) ∷ Some (Interval 0 54) ∷ None ∷ []
unfolding rest_after part
traceroute_ports = refl

one_first_byte : rests (Range 0x1210 0x1220) 2 1 (0x11 ∷ 0x12 ∷ 0x13 ∷ [])
    ≡ None ∷ Some (Interval 0x10 0x20) ∷ None ∷ []
unfolding rest_after part
one_first_byte = refl

one_port : rests (Range 80 80) 2 1 (0 ∷ 1 ∷ []) ≡ Some (Interval 80 80) ∷ None ∷ []
unfolding rest_after part
one_port = refl

-- 192.168.2.31/31, whose host bit is ignored
a_mask_of_31_bits : rests (Mask 0xC0A8021F 31) 4 3 (0xC0A801 ∷ 0xC0A802 ∷ [])
    ≡ None ∷ Some (Interval 30 31) ∷ []
unfolding rest_after part mask_low mask_high
a_mask_of_31_bits = refl

a_mask_of_12_bits : rests (Mask 0xAC100000 12) 4 1 (0xAB ∷ 0xAC ∷ [])
    ≡ None ∷ Some (Interval 0x100000 0x1FFFFF) ∷ []
unfolding rest_after part mask_low mask_high
a_mask_of_12_bits = refl

a_whole_address : rests (Mask 0xC0A8021F 31) 4 4
    (0xC0A8021D ∷ 0xC0A8021E ∷ 0xC0A8021F ∷ 0xC0A80220 ∷ [])
    ≡ None ∷ Some Live ∷ Some Live ∷ None ∷ []
unfolding rest_after
a_whole_address = refl

-- a mask of 0 bits and one of all bits, at each size
no_bits : rest_after (Mask 7 0) 1 0 0 ∷ rest_after (Mask 7 0) 2 1 9 ∷ rest_after
    (Mask 7 0) 4 3 0xFFFFFF ∷ rest_after (Mask 7 0) 8 1 255 ∷ []
    ≡ Some (Interval 0 255) ∷ Some (Interval 0 255) ∷ Some (Interval 0 255) ∷ Some
    (Interval 0 0xFF_FFFF_FFFF_FFFF) ∷ []
unfolding rest_after part mask_low mask_high
no_bits = refl

all_bits : rest_after (Mask 7 8) 1 0 0 ∷ rest_after (Mask 7 16) 2 1 0 ∷ rest_after
    (Mask 7 32) 4 3 0 ∷ rest_after (Mask 7 64) 8 1 0 ∷ []
    ≡ Some (Interval 7 7) ∷ Some (Interval 7 7) ∷ Some (Interval 7 7) ∷ Some (Interval 7 7) ∷ []
unfolding rest_after part mask_low mask_high
all_bits = refl

-- near the end of what 8 bytes can spell
near_the_end : rests (Range 0xFFFF_FFFF_FFFF_FFFE 0xFFFF_FFFF_FFFF_FFFF) 8 7
    (0xFF_FFFF_FFFF_FFFE ∷ 0xFF_FFFF_FFFF_FFFF ∷ []) ≡ None ∷ Some (Interval 254 255) ∷ []
unfolding rest_after part
near_the_end = refl

below_the_end : rests (Range 1 0xFFFF_FFFF_FFFF_FFFE) 8 0 (0 ∷ [])
    ≡ Some (Interval 1 0xFFFF_FFFF_FFFF_FFFE) ∷ []
unfolding rest_after part
below_the_end = refl

the_last_number : rests (Mask 0xFFFF_FFFF_FFFF_FFFF 64) 8 7
    (0xFF_FFFF_FFFF_FFFE ∷ 0xFF_FFFF_FFFF_FFFF ∷ []) ≡ None ∷ Some (Interval 255 255) ∷ []
unfolding rest_after part mask_low mask_high
the_last_number = refl

-- a bitmask with a bit in either byte, one of no bit, and one of all bits
bits_in_both_bytes : rests (Bitmask 0x0103 0x0182) 2 1 (0 ∷ 1 ∷ 3 ∷ 2 ∷ [])
    ≡ None ∷ Some Live ∷ Some Live ∷ None ∷ []
unfolding rest_after
bits_in_both_bytes = refl

whole_number_of_bits : rests (Bitmask 0x0103 0x0182) 2 2 (0x0100 ∷ 0x0102 ∷ 0xFF03 ∷ [])
    ≡ None ∷ Some Live ∷ Some Live ∷ []
unfolding rest_after
whole_number_of_bits = refl

no_bit_set : rests (Bitmask 0x11 0) 1 0 (0 ∷ []) ∷ rests (Bitmask 0x11 0) 1 1 (0 ∷ 255 ∷ []) ∷ []
    ≡ (Some Live ∷ []) ∷ (Some Live ∷ Some Live ∷ []) ∷ []
unfolding rest_after
no_bit_set = refl

all_bits_set : rests (Bitmask 0x11 0xFF) 1 1 (0x10 ∷ 0x11 ∷ []) ≡ None ∷ Some Live ∷ []
unfolding rest_after
all_bits_set = refl

eight_bytes_of_bits : rests (Bitmask 0xFFFF_FFFF_FFFF_FFFF 0x8000_0000_0000_0001) 8 1
    (0x7F ∷ 0x80 ∷ []) ≡ None ∷ Some Live ∷ []
unfolding rest_after
eight_bytes_of_bits = refl

-- one more byte after a rest
steps_of_an_interval : steps (Range 33746 33846) 2 0 (Interval 33746 33846)
    (130 ∷ 131 ∷ 132 ∷ 133 ∷ []) ≡ None ∷ Some (Interval 210 255) ∷ Some (Interval 0 54) ∷ None ∷ []
unfolding rest_after part rest_step
steps_of_an_interval = refl

last_steps_of_an_interval : steps (Range 33746 33846) 2 1 (Interval 0 54) (0 ∷ 54 ∷ 55 ∷ [])
    ≡ Some Live ∷ Some Live ∷ None ∷ []
unfolding rest_after rest_step
last_steps_of_an_interval = refl

steps_of_a_bitmask : steps (Bitmask 0x0103 0x0182) 2 0 Live (0 ∷ 1 ∷ []) ∷ steps
    (Bitmask 0x0103 0x0182) 2 1 Live (0x7D ∷ 0x02 ∷ []) ∷ []
    ≡ (None ∷ Some Live ∷ []) ∷ (None ∷ Some Live ∷ []) ∷ []
unfolding rest_after rest_step
steps_of_a_bitmask = refl

-- a whole field has no further byte
steps_of_whole_fields : steps (Range 80 80) 2 2 Live (0 ∷ []) ∷ steps (Bitmask 17 255) 1 1 Live
    (0 ∷ 17 ∷ []) ∷ []
    ≡ (None ∷ []) ∷ (None ∷ None ∷ []) ∷ []
unfolding rest_after rest_step
steps_of_whole_fields = refl
