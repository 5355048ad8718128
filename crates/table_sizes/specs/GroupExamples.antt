-- The groups of places, from the first byte of a key on.
use Rattle.std.specs.Prelude.{◌*◌, ◌+◌, [], ◌∷◌, map, ◌≡◌, refl}
use Rattle.std.specs.List.{range_with_len}
use Rattle.table_sizes.specs.Groups.{group_of, kept_places, max_key_len}
use Rattle.table_sizes.specs.Groups.{ip4_key_len, ip6_key_len}

-- the first thirteen places
first_places : map group_of (range_with_len 0 13)
    ≡ 0 ∷ 1 ∷ 1 ∷ 1 ∷ 1 ∷ 2 ∷ 2 ∷ 2 ∷ 2 ∷ 3 ∷ 3 ∷ 3 ∷ 3 ∷ []
first_places = refl

-- the last places of the longest key
last_places : map group_of (500 ∷ 501 ∷ 504 ∷ []) ≡ 125 ∷ 126 ∷ 126 ∷ []
last_places = refl

-- the longest key: a field of one byte, and 63 of eight
longest : max_key_len ≡ 1 + 63 * 8
longest = refl

-- the keys of packets: a byte, and what two addresses and two ports take
of_packets : ip4_key_len ∷ ip6_key_len ∷ [] ≡ (1 + 2 * 4 + 2 * 2) ∷ (1 + 2 * 16 + 2 * 2) ∷ []
of_packets = refl

-- the places of group 0, of group 1, and of groups 0 and 3
places : map (kept_places ip4_key_len) (1 ∷ 2 ∷ 9 ∷ [])
    ≡ (0 ∷ []) ∷ (1 ∷ 2 ∷ 3 ∷ 4 ∷ []) ∷ (0 ∷ 9 ∷ 10 ∷ 11 ∷ 12 ∷ []) ∷ []
places = refl
