-- Examples of layouts and keys, each checked by evaluation.
use Rattle.std.specs.Prelude.{◌≡◌, List, [], ◌∷◌, refl}
use Rattle.std.specs.List.{range_with_len}
use Rattle.field_defs.specs.declared.field.FieldKind.TheVariants.{Range, Bitmask}
use Rattle.field_defs.specs.declared.field.FieldDef.{FieldDef}
use Rattle.field_defs.specs.Layout.{key_of, key_len_of, buffer_len_of, ip4_fields, ip6_fields}
use Rattle.field_defs.specs.KeyGroups.{group_count}

ip4_key_len : key_len_of ip4_fields ≡ 13
ip4_key_len = refl

-- both addresses fill a group each, and both ports fill one together
ip4_groups : group_count ip4_fields ≡ 3
unfolding group_count
ip4_groups = refl

ip4_buffer_len : buffer_len_of ip4_fields ≡ 13
ip4_buffer_len = refl

-- the IPv4 fields lie one after the other, so the key is the buffer
ip4_key : key_of ip4_fields (range_with_len 100 13) ≡ range_with_len 100 13
ip4_key = refl

ip6_key_len : key_len_of ip6_fields ≡ 37
ip6_key_len = refl

-- each half of an address fills two groups
ip6_groups : group_count ip6_fields ≡ 9
unfolding group_count
ip6_groups = refl

ip6_buffer_len : buffer_len_of ip6_fields ≡ 37
ip6_buffer_len = refl

-- the IPv6 fields lie one after the other, too
ip6_key : key_of ip6_fields (range_with_len 100 37) ≡ range_with_len 100 37
ip6_key = refl

-- a field of two bytes that lies before one of one byte in the buffer, and after it in the key
swapped : List FieldDef
swapped =
    record { kind = Bitmask; size = 1; field_index = 0; input_index = 0; offset = 4 }
    ∷ record { kind = Range; size = 2; field_index = 1; input_index = 1; offset = 1 }
    ∷ []

swapped_key : key_of swapped (10 ∷ 11 ∷ 12 ∷ 13 ∷ 14 ∷ 15 ∷ []) ≡ 14 ∷ 11 ∷ 12 ∷ []
unfolding swapped
swapped_key = refl

swapped_buffer_len : buffer_len_of swapped ≡ 5
unfolding swapped
swapped_buffer_len = refl
