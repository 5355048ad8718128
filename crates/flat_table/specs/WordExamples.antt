-- Examples of transition words and of kept places, each checked by evaluation.
use Rattle.std.specs.Prelude.{◌≡◌, ℕ, [], ◌∷◌, map, filter, true, false, refl}
use Rattle.std.specs.List.{range_with_len}
use Rattle.flat_table.specs.Word.{index_of, kind_of, boundaries_of, full, single, quad, matching}
use Rattle.flat_table.specs.Word.{is_match, is_node, node_len, offset_of, next_place}
use Rattle.flat_table.specs.Groups.{is_key_len, is_kept_word, groups_of}
use Rattle.flat_table.specs.Groups.{depth_of}

-- a quad-range node at 291 with the boundaries 9, 10, 64 and 255
abbrev ranges : ℕ
ranges = 0xFF400A0960000123

parts_of_ranges : (index_of ranges ∷ kind_of ranges ∷ boundaries_of ranges)
    ≡ 291 ∷ quad ∷ 9 ∷ 10 ∷ 64 ∷ 255 ∷ []
parts_of_ranges = refl

-- the greatest index of each kind
full_parts : (index_of 0x1FFFFFFF ∷ kind_of 0x1FFFFFFF ∷ node_len 0x1FFFFFFF ∷ [])
    ≡ 536870911 ∷ full ∷ 256 ∷ []
full_parts = refl

single_parts : (index_of 0x3FFFFFFF ∷ kind_of 0x3FFFFFFF ∷ node_len 0x3FFFFFFF ∷ [])
    ≡ 536870911 ∷ single ∷ 1 ∷ []
single_parts = refl

match_parts : (index_of 0x9FFFFFFF ∷ kind_of 0x9FFFFFFF ∷ []) ≡ 536870911 ∷ matching ∷ []
match_parts = refl

-- of the kinds 0 to 7 only 4 is a match, and only 0, 1 and 3 lead to nodes
matches : map is_match (0 ∷ 0x20000000 ∷ 0x40000000 ∷ 0x60000000 ∷ 0x80000000 ∷ 0xA0000000 ∷
    0xC0000000 ∷ 0xE0000000 ∷ [])
    ≡ false ∷ false ∷ false ∷ false ∷ true ∷ false ∷ false ∷ false ∷ []
matches = refl

nodes : map is_node (0 ∷ 0x20000000 ∷ 0x40000000 ∷ 0x60000000 ∷ 0x80000000 ∷ 0xA0000000 ∷ 0xC0000000
    ∷ 0xE0000000 ∷ [])
    ≡ true ∷ true ∷ false ∷ true ∷ false ∷ false ∷ false ∷ false ∷ []
nodes = refl

-- boundaries are lawful in a quad-range word alone
bounded_nodes : map is_node (0x100000000 ∷ 0x120000000 ∷ ranges ∷ []) ≡ false ∷ false ∷ true ∷ []
bounded_nodes = refl

-- a full node has a word for each byte
full_offsets : map (next_place 100) (0 ∷ 1 ∷ 255 ∷ []) ≡ 100 ∷ 101 ∷ 355 ∷ []
full_offsets = refl

-- a single node has one for all
single_offsets : map (next_place 0x20000064) (0 ∷ 1 ∷ 255 ∷ []) ≡ 100 ∷ 100 ∷ 100 ∷ []
single_offsets = refl

-- a quad-range node has one for each run; a boundary is the last byte of its run
range_offsets : map (offset_of ranges) (0 ∷ 9 ∷ 10 ∷ 11 ∷ 64 ∷ 65 ∷ 255 ∷ [])
    ≡ 0 ∷ 0 ∷ 1 ∷ 2 ∷ 2 ∷ 3 ∷ 3 ∷ []
range_offsets = refl

-- the fifth word is that of the bytes above the last boundary
above_all_boundaries : map (offset_of 0xC8402010_60000000) (0 ∷ 16 ∷ 200 ∷ 201 ∷ 255 ∷ [])
    ≡ 0 ∷ 0 ∷ 3 ∷ 4 ∷ 4 ∷ []
above_all_boundaries = refl

-- boundaries need no order
unordered_boundaries : map (offset_of 0x00FF00FF_60000000) (0 ∷ 1 ∷ 255 ∷ []) ≡ 0 ∷ 2 ∷ 2 ∷ []
unordered_boundaries = refl

-- keys of one byte and whole groups
key_lens : filter is_key_len (range_with_len 0 20) ≡ 1 ∷ 5 ∷ 9 ∷ 13 ∷ 17 ∷ []
key_lens = refl

longest_key_lens : map is_key_len (501 ∷ 504 ∷ 505 ∷ 506 ∷ 509 ∷ [])
    ≡ true ∷ false ∷ true ∷ false ∷ false ∷ []
longest_key_lens = refl

group_counts : map groups_of (1 ∷ 5 ∷ 13 ∷ 37 ∷ 505 ∷ []) ≡ 1 ∷ 2 ∷ 4 ∷ 10 ∷ 127 ∷ []
group_counts = refl

-- none kept, group 0 alone, groups 0 and 2, all, and a bit too high
kept_words : map (is_kept_word 13) (0 ∷ 1 ∷ 5 ∷ 15 ∷ 16 ∷ [])
    ≡ false ∷ true ∷ true ∷ true ∷ false ∷ []
kept_words = refl

depths : map (depth_of 13) (1 ∷ 2 ∷ 15 ∷ []) ≡ 1 ∷ 4 ∷ 13 ∷ []
depths = refl
