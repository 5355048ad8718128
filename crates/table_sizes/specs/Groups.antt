-- The bytes of a key, and the groups in which they are read (DPDK Programmer's Guide, "Packet
-- Classification and Access Control": the first field is one byte, and all later input comes in
-- groups of four consecutive bytes).
use Rattle.std.specs.Prelude.{ℕ, ◌+◌, ◌-◌, ◌/◌, ◌==◌, List, filter, Bool}
use Rattle.std.specs.Int.{bit_at}
use Rattle.std.specs.List.{range_with_len}

-- how many bytes a key has at most: the first field has one, and each of 63 others at most eight
abbrev pub max_key_len : ℕ
max_key_len = 505

-- how many bytes the key of an IPv4 packet has: protocol, two addresses of 4 bytes, two ports of 2
abbrev pub ip4_key_len : ℕ
ip4_key_len = 13

-- how many bytes the key of an IPv6 packet has: protocol, two addresses of 16 bytes, two ports of 2
abbrev pub ip6_key_len : ℕ
ip6_key_len = 37

-- how many bytes a group has, but for group 0, which has one
abbrev pub group_len : ℕ
group_len = 4

-- the group in which the place of a key lies
abbrev pub group_of : ℕ → ℕ
group_of place = (place + (group_len - 1)) / group_len

-- bit g of a trie's word of kept groups says that group g is kept
abbrev pub is_kept : ℕ → ℕ → Bool
is_kept kept place = bit_at kept (group_of place) == 1

-- the places of the kept groups, ascending
abbrev pub kept_places : ℕ → ℕ → List ℕ
kept_places key_len kept = filter (is_kept kept) (range_with_len 0 key_len)
