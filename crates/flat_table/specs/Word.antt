-- Transition words, of which a table is made (after the words of DPDK's `lib/acl/acl.h`: an index,
-- a kind of node, and for a quad-range node its boundaries). A word says which node it leads to:
--
--     bits 0 to 28    index: the place of the node's first word, or the row of a match
--     bits 29 to 31   kind: 0 full, 1 single, 3 quad-range, 4 match
--     bits 32 to 63   four boundaries of 8 bits, the first in bits 32 to 39; 0 unless quad-range
use Rattle.std.specs.Prelude.{ℕ, ◌+◌, ◌*◌, ◌/◌, ◌%◌, ◌^◌, ◌==◌, nat_lt, List, map, Bool, ◌&&◌, ◌||◌}
use Rattle.std.specs.Prelude.{if◌then◌else◌, slice_index, count_by}
use Rattle.std.specs.List.{range_with_len}
use Rattle.table_sizes.specs.Sizes.{few_runs, full_len, single_len}

-- how many numbers there are for an index
abbrev pub indexes : ℕ
indexes = 2 ^ 29

-- how many there are for a kind
abbrev pub kinds : ℕ
kinds = 8

-- how many there are for both together
abbrev pub below_boundaries : ℕ
below_boundaries = 2 ^ 32

-- the kind of a node with a word for each byte value
abbrev pub full : ℕ
full = 0

-- that of a node of one word for all bytes
abbrev pub single : ℕ
single = 1

-- that of a node of a word for each of five runs of bytes
abbrev pub quad : ℕ
quad = 3

-- that of the end of a walk
abbrev pub matching : ℕ
matching = 4

-- the index of a word
abbrev pub index_of : ℕ → ℕ
index_of word = word % indexes

-- its kind
abbrev pub kind_of : ℕ → ℕ
kind_of word = word / indexes % kinds

-- its boundaries, in their order
abbrev pub boundaries_of : ℕ → List ℕ
boundaries_of word = map (λ n. word / 2 ^ (32 + 8 * n) % 256) (range_with_len 0 4)

-- the word has no boundaries
abbrev pub is_unbounded : ℕ → Bool
is_unbounded word = word / below_boundaries == 0

-- the word ends a walk
abbrev pub is_match : ℕ → Bool
is_match word = kind_of word == matching

-- the word leads to a node, and has boundaries only where the node is a quad-range
abbrev pub is_node : ℕ → Bool
is_node word =
    kind_of word == quad
    || ((kind_of word == full || kind_of word == single) && is_unbounded word)

-- how many words the node has
abbrev pub node_len : ℕ → ℕ
node_len word =
    if kind_of word == full then full_len
    else (if kind_of word == quad then few_runs else single_len)

-- which of the node's words is taken by the byte: its own of 256, that of its run, or the only one
abbrev pub offset_of : ℕ → ℕ → ℕ
offset_of word byte =
    if kind_of word == full then byte
    else (if kind_of word == quad
    then count_by (λ boundary. nat_lt boundary byte) (boundaries_of word)
    else 0)

-- the place of the word that a walk takes by the byte from a word that is no match
abbrev pub next_place : ℕ → ℕ → ℕ
next_place word byte = index_of word + offset_of word byte

-- that word
abbrev pub next_word : List ℕ → ℕ → ℕ → ℕ
next_word words word byte = slice_index words (next_place word byte)
