-- Examples of the edges, their steps and their cuts, each checked by evaluation.
use Rattle.std.proofs.Common.{zero, suc}
use Rattle.std.specs.Prelude.{◌≡◌, ℕ, List, [], ◌∷◌, ◌++◌, drop, Option, Some, None, map, filter}
use Rattle.std.specs.Prelude.{refl}
use Rattle.field_defs.specs.declared.field.FieldValue.{FieldValue}
use Rattle.field_defs.specs.declared.field.FieldValue.TheVariants.{Mask, Range, Bitmask}
use Rattle.node_expand.specs.declared.edge.Edge.{Edge}
use Rattle.node_expand.specs.declared.edge.Edge.TheVariants.{Free, Low, High, Both}
use Rattle.node_expand.specs.Rest.{part, mask_low, mask_high, rest_after, rest_step}
use Rattle.node_expand.specs.Edges.{edge_of, rest_of, edge_after, edge_step, is_change, is_cut}

-- the edge before the first byte
abbrev starts : FieldValue → ℕ → Option Edge
starts value size = edge_after value size 0 0

-- the edges after each of the bytes
abbrev answers : FieldValue → ℕ → ℕ → Edge → List ℕ → List (Option Edge)
answers value size place edge bytes = map (edge_step value size place edge) bytes

-- the numbers below n
abbrev below : ℕ → List ℕ
below zero = []
below (suc n) = below n ++ n ∷ []

-- all bytes at which the answer changes
abbrev all_cuts : FieldValue → ℕ → ℕ → Edge → List ℕ
all_cuts value size place edge = filter (is_cut value size place edge) (below 256)

-- ports from 1024 on
ports_start : starts (Range 1024 65535) 2 ≡ Some Low
unfolding edge_after edge_of rest_after part
ports_start = refl

ports_answers : answers (Range 1024 65535) 2 0 Low (3 ∷ 4 ∷ 5 ∷ [])
    ≡ None ∷ Some Free ∷ Some Free ∷ []
unfolding edge_step rest_of rest_step edge_of rest_after part
ports_answers = refl

ports_cuts : all_cuts (Range 1024 65535) 2 0 Low ≡ 4 ∷ []
unfolding is_cut is_change edge_step rest_of rest_step edge_of rest_after part
ports_cuts = refl

-- ports of traceroute
traceroute_start : starts (Range 33746 33846) 2 ≡ Some Both
unfolding edge_after edge_of rest_after part
traceroute_start = refl

traceroute_answers : answers (Range 33746 33846) 2 0 Both (130 ∷ 131 ∷ 132 ∷ 133 ∷ [])
    ≡ None ∷ Some Low ∷ Some High ∷ None ∷ []
unfolding edge_step rest_of rest_step edge_of rest_after part
traceroute_answers = refl

traceroute_cuts : all_cuts (Range 33746 33846) 2 0 Both ≡ 131 ∷ 132 ∷ 133 ∷ []
unfolding is_cut is_change edge_step rest_of rest_step edge_of rest_after part
traceroute_cuts = refl

-- the last byte of 192.168.2.31/31
mask_before_the_last_byte : edge_after (Mask 0xC0A8021F 31) 4 3 0xC0A802 ≡ Some Both
unfolding edge_after edge_of rest_after part mask_low mask_high
mask_before_the_last_byte = refl

mask_answers : answers (Mask 0xC0A8021F 31) 4 3 Both (29 ∷ 30 ∷ 31 ∷ 32 ∷ [])
    ≡ None ∷ Some Free ∷ Some Free ∷ None ∷ []
unfolding edge_step rest_of rest_step edge_of rest_after part mask_low mask_high
mask_answers = refl

mask_cuts : all_cuts (Mask 0xC0A8021F 31) 4 3 Both ≡ 30 ∷ 32 ∷ []
unfolding is_cut is_change edge_step rest_of rest_step edge_of rest_after part mask_low mask_high
mask_cuts = refl

-- the odd numbers of one byte
odd_start : starts (Bitmask 1 1) 1 ≡ Some Free
unfolding edge_after edge_of rest_after
odd_start = refl

odd_answers : answers (Bitmask 1 1) 1 0 Free (0 ∷ 1 ∷ 254 ∷ 255 ∷ [])
    ≡ None ∷ Some Free ∷ None ∷ Some Free ∷ []
unfolding edge_step rest_of rest_step edge_of rest_after
odd_answers = refl

odd_cuts : all_cuts (Bitmask 1 1) 1 0 Free ≡ drop 1 (below 256)
unfolding is_cut is_change edge_step rest_of rest_step edge_of rest_after
odd_cuts = refl

-- any number of eight bytes
any_start : starts (Mask 7 0) 8 ≡ Some Free
unfolding edge_after edge_of rest_after part mask_low mask_high
any_start = refl

any_answers : answers (Mask 7 0) 8 0 Free (0 ∷ 7 ∷ 255 ∷ [])
    ≡ Some Free ∷ Some Free ∷ Some Free ∷ []
unfolding edge_step rest_of rest_step edge_of rest_after part mask_low mask_high
any_answers = refl

any_cuts : all_cuts (Mask 7 0) 8 0 Free ≡ []
unfolding is_cut is_change edge_step rest_of rest_step edge_of rest_after part mask_low mask_high
any_cuts = refl

-- a range of one number keeps both ends to its last byte
one_port_start : starts (Range 80 80) 2 ≡ Some Both
unfolding edge_after edge_of rest_after part
one_port_start = refl

one_port_answers : answers (Range 80 80) 2 0 Both (0 ∷ 1 ∷ []) ∷ answers (Range 80 80) 2 1 Both
    (79 ∷ 80 ∷ 81 ∷ []) ∷ [] ≡ (Some Both ∷ None ∷ []) ∷ (None ∷ Some Free ∷ None ∷ []) ∷ []
unfolding edge_step rest_of rest_step edge_of rest_after part
one_port_answers = refl

one_port_cuts : all_cuts (Range 80 80) 2 0 Both ∷ all_cuts (Range 80 80) 2 1 Both ∷ []
    ≡ (1 ∷ []) ∷ (80 ∷ 81 ∷ []) ∷ []
unfolding is_cut is_change edge_step rest_of rest_step edge_of rest_after part
one_port_cuts = refl

-- neighbours: the byte after the lower end is that of the upper end
neighbours : answers (Range 0x01FF 0x02FE) 2 0 Both (1 ∷ 2 ∷ []) ∷ answers
    (Range 0x0100 0x02FE) 2 0 Both (1 ∷ 2 ∷ []) ∷ []
    ≡ (Some Low ∷ Some High ∷ []) ∷ (Some Free ∷ Some High ∷ []) ∷ []
unfolding edge_step rest_of rest_step edge_of rest_after part
neighbours = refl

neighbour_cuts : all_cuts (Range 0x0100 0x02FF) 2 0 Both ≡ 1 ∷ 3 ∷ []
unfolding is_cut is_change edge_step rest_of rest_step edge_of rest_after part
neighbour_cuts = refl

-- near the end of what 8 bytes can spell
end_start : starts (Range 0xFFFF_FFFF_FFFF_FFFE 0xFFFF_FFFF_FFFF_FFFF) 8 ∷ starts
    (Range 1 0xFFFF_FFFF_FFFF_FFFE) 8 ∷ starts (Range 0 0xFFFF_FFFF_FFFF_FFFE) 8 ∷ []
    ≡ Some Low ∷ Some Both ∷ Some High ∷ []
unfolding edge_after edge_of rest_after part
end_start = refl

end_answers : answers (Range 0xFFFF_FFFF_FFFF_FFFE 0xFFFF_FFFF_FFFF_FFFF) 8 0 Low
    (254 ∷ 255 ∷ []) ∷ answers (Range 0 0xFFFF_FFFF_FFFF_FFFE) 8 7 High (254 ∷ 255 ∷ []) ∷ []
    ≡ (None ∷ Some Low ∷ []) ∷ (Some Free ∷ None ∷ []) ∷ []
unfolding edge_step rest_of rest_step edge_of rest_after part
end_answers = refl

end_cuts : all_cuts (Range 0xFFFF_FFFF_FFFF_FFFE 0xFFFF_FFFF_FFFF_FFFF) 8 0 Low ∷ all_cuts
    (Range 0 0xFFFF_FFFF_FFFF_FFFE) 8 7 High ∷ [] ≡ (255 ∷ []) ∷ (255 ∷ []) ∷ []
unfolding is_cut is_change edge_step rest_of rest_step edge_of rest_after part
end_cuts = refl

-- a bitmask of no bit, of all bits, and over eight bytes
bitmask_cuts : all_cuts (Bitmask 0x11 0) 1 0 Free ∷ all_cuts (Bitmask 0x11 0xFF) 1 0 Free ∷ all_cuts
    (Bitmask 0xFFFF_FFFF_FFFF_FFFF 0x8000_0000_0000_0001) 8 0 Free ∷ []
    ≡ [] ∷ (17 ∷ 18 ∷ []) ∷ (128 ∷ []) ∷ []
unfolding is_cut is_change edge_step rest_of rest_step edge_of rest_after
bitmask_cuts = refl

-- both ends of a range of each size, at its first byte and at its last
range_of_1_byte : answers (Range 10 20) 1 0 Both (9 ∷ 10 ∷ 20 ∷ 21 ∷ [])
    ≡ None ∷ Some Free ∷ Some Free ∷ None ∷ []
unfolding edge_step rest_of rest_step edge_of rest_after part
range_of_1_byte = refl

range_of_2_bytes : answers (Range 0x0A10 0x1420) 2 0 Both (9 ∷ 10 ∷ 20 ∷ 21 ∷ []) ∷ answers
    (Range 0x0A10 0x1420) 2 1 Low (0x0F ∷ 0x10 ∷ []) ∷ answers (Range 0x0A10 0x1420) 2 1 High
    (0x20 ∷ 0x21 ∷ []) ∷ []
    ≡ (None ∷ Some Low ∷ Some High ∷ None ∷ []) ∷ (None ∷ Some Free ∷ []) ∷
    (Some Free ∷ None ∷ []) ∷ []
unfolding edge_step rest_of rest_step edge_of rest_after part
range_of_2_bytes = refl

range_of_4_bytes : answers (Range 0x0A00_0001 0x1400_00FE) 4 0 Both
    (9 ∷ 10 ∷ 20 ∷ 21 ∷ []) ∷ answers (Range 0x0A00_0001 0x1400_00FE) 4 3 Low (0 ∷ 1 ∷ []) ∷ answers
    (Range 0x0A00_0001 0x1400_00FE) 4 3 High (0xFE ∷ 0xFF ∷ []) ∷ []
    ≡ (None ∷ Some Low ∷ Some High ∷ None ∷ []) ∷ (None ∷ Some Free ∷ []) ∷
    (Some Free ∷ None ∷ []) ∷ []
unfolding edge_step rest_of rest_step edge_of rest_after part
range_of_4_bytes = refl

range_of_8_bytes : answers (Range 0x0A00_0000_0000_0001 0x1400_0000_0000_00FE) 8 0 Both
    (9 ∷ 10 ∷ 20 ∷ 21 ∷ []) ∷ answers (Range 0x0A00_0000_0000_0001 0x1400_0000_0000_00FE) 8 7 Low
    (0 ∷ 1 ∷ []) ∷ answers (Range 0x0A00_0000_0000_0001 0x1400_0000_0000_00FE) 8 7 High
    (0xFE ∷ 0xFF ∷ []) ∷ []
    ≡ (None ∷ Some Low ∷ Some High ∷ None ∷ []) ∷ (None ∷ Some Free ∷ []) ∷
    (Some Free ∷ None ∷ []) ∷ []
unfolding edge_step rest_of rest_step edge_of rest_after part
range_of_8_bytes = refl

-- both ends of a mask of each size: 101 and any bits; 10.96/11; 10.128.0.0/9; fe80::/10
mask_of_1_byte : answers (Mask 0xA7 3) 1 0 Both (0x9F ∷ 0xA0 ∷ 0xBF ∷ 0xC0 ∷ [])
    ≡ None ∷ Some Free ∷ Some Free ∷ None ∷ []
unfolding edge_step rest_of rest_step edge_of rest_after part mask_low mask_high
mask_of_1_byte = refl

mask_of_2_bytes : answers (Mask 0x0A7F 11) 2 0 Both (9 ∷ 10 ∷ 11 ∷ []) ∷ answers
    (Mask 0x0A7F 11) 2 1 Both (0x5F ∷ 0x60 ∷ 0x7F ∷ 0x80 ∷ []) ∷ []
    ≡ (None ∷ Some Both ∷ None ∷ []) ∷ (None ∷ Some Free ∷ Some Free ∷ None ∷ []) ∷ []
unfolding edge_step rest_of rest_step edge_of rest_after part mask_low mask_high
mask_of_2_bytes = refl

mask_of_4_bytes : answers (Mask 0x0A80_0000 9) 4 0 Both (9 ∷ 10 ∷ 11 ∷ []) ∷ answers
    (Mask 0x0A80_0000 9) 4 1 Low (0x7F ∷ 0x80 ∷ 0xFF ∷ []) ∷ []
    ≡ (None ∷ Some Low ∷ None ∷ []) ∷ (None ∷ Some Free ∷ Some Free ∷ []) ∷ []
unfolding edge_step rest_of rest_step edge_of rest_after part mask_low mask_high
mask_of_4_bytes = refl

mask_of_8_bytes : answers (Mask 0xFE80_0000_0000_0000 10) 8 0 Both
    (0xFD ∷ 0xFE ∷ 0xFF ∷ []) ∷ answers (Mask 0xFE80_0000_0000_0000 10) 8 1 Both
    (0x7F ∷ 0x80 ∷ 0xBF ∷ 0xC0 ∷ []) ∷ []
    ≡ (None ∷ Some Both ∷ None ∷ []) ∷ (None ∷ Some Free ∷ Some Free ∷ None ∷ []) ∷ []
unfolding edge_step rest_of rest_step edge_of rest_after part mask_low mask_high
mask_of_8_bytes = refl

-- a bitmask with bits in its first byte and in its last, of each size
bitmask_of_2_bytes : answers (Bitmask 0x0103 0x0182) 2 0 Free (0 ∷ 1 ∷ 3 ∷ []) ∷ answers
    (Bitmask 0x0103 0x0182) 2 1 Free (0x02 ∷ 0x7D ∷ 0x7F ∷ 0x82 ∷ []) ∷ []
    ≡ (None ∷ Some Free ∷ Some Free ∷ []) ∷ (Some Free ∷ None ∷ Some Free ∷ None ∷ []) ∷ []
unfolding edge_step rest_of rest_step edge_of rest_after
bitmask_of_2_bytes = refl

bitmask_of_4_bytes : answers (Bitmask 0x8000_0001 0x8000_0001) 4 0 Free
    (0x7F ∷ 0x80 ∷ 0xFF ∷ []) ∷ answers (Bitmask 0x8000_0001 0x8000_0001) 4 1 Free
    (0 ∷ 255 ∷ []) ∷ answers (Bitmask 0x8000_0001 0x8000_0001) 4 3 Free (0 ∷ 1 ∷ 255 ∷ []) ∷ []
    ≡ (None ∷ Some Free ∷ Some Free ∷ []) ∷ (Some Free ∷ Some Free ∷ []) ∷
    (None ∷ Some Free ∷ Some Free ∷ []) ∷ []
unfolding edge_step rest_of rest_step edge_of rest_after
bitmask_of_4_bytes = refl

bitmask_of_8_bytes : answers (Bitmask 0x8000_0000_0000_0001 0x8000_0000_0000_0001) 8 0 Free
    (0x7F ∷ 0x80 ∷ 0xFF ∷ []) ∷ answers
    (Bitmask 0x8000_0000_0000_0001 0x8000_0000_0000_0001) 8 7 Free (0 ∷ 1 ∷ 255 ∷ []) ∷ []
    ≡ (None ∷ Some Free ∷ Some Free ∷ []) ∷ (None ∷ Some Free ∷ Some Free ∷ []) ∷ []
unfolding edge_step rest_of rest_step edge_of rest_after
bitmask_of_8_bytes = refl
