-- The groups of key bytes that a trie keeps: it reads their bytes and passes over the others.
use Rattle.std.specs.Prelude.{ℕ, ◌+◌, ◌-◌, ◌/◌, ◌%◌, ◌^◌, ◌==◌, nat_lt, length, Bool}
use Rattle.std.specs.Prelude.{◌&&◌}
use Rattle.table_sizes.specs.Groups.{group_len, kept_places, max_key_len}

-- a key is one byte and whole groups
abbrev pub is_key_len : ℕ → Bool
is_key_len key_len = key_len % group_len == 1 && nat_lt key_len (max_key_len + 1)

-- how many groups such a key has
abbrev pub groups_of : ℕ → ℕ
groups_of key_len = 1 + (key_len - 1) / group_len

-- some group of the key is kept, and none that it hasn't
abbrev pub is_kept_word : ℕ → ℕ → Bool
is_kept_word key_len kept = nat_lt 0 kept && kept / 2 ^ groups_of key_len == 0

-- how many bytes a walk through the trie reads at most: one for each kept place
abbrev pub depth_of : ℕ → ℕ → ℕ
depth_of key_len kept = length (kept_places key_len kept)
