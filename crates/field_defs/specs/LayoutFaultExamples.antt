-- Examples of the faults of layouts, each checked by evaluation.
use Rattle.std.specs.Prelude.{◌≡◌, ℕ, [], ◌∷◌, Some, None, refl}
use Rattle.field_defs.specs.declared.field.FieldKind.TheVariants as kinds
use Rattle.field_defs.specs.declared.field.FieldDef.{FieldDef}
use Rattle.field_defs.specs.declared.lawful.LayoutFault.TheVariants.{NoFields, FieldIndex, BadSize}
use Rattle.field_defs.specs.declared.lawful.LayoutFault.TheVariants.{FirstNotOneByte, InputOrder}
use Rattle.field_defs.specs.declared.lawful.LayoutFault.TheVariants.{GroupSize, GroupOffsets}
use Rattle.field_defs.specs.declared.lawful.LayoutFault.TheVariants.{OffsetTooLarge}
use Rattle.field_defs.specs.Faults.{failing_number}
use Rattle.field_defs.specs.Layout.{ip4_fields, ip6_fields}
use Rattle.field_defs.specs.LayoutFault.{layout_fault}

-- a definition by its field index, size, input index and offset
abbrev field : ℕ → ℕ → ℕ → ℕ → FieldDef
field index size input offset =
    record {
      kind = kinds.Mask;
      size = size;
      field_index = index;
      input_index = input;
      offset = offset;
    }

ip4 : layout_fault ip4_fields ≡ None
unfolding layout_fault failing_number
ip4 = refl

ip6 : layout_fault ip6_fields ≡ None
unfolding layout_fault failing_number
ip6 = refl

-- one byte alone is a layout
one_byte : layout_fault (field 0 1 0 7 ∷ []) ≡ None
unfolding layout_fault failing_number
one_byte = refl

-- a field of 8 bytes fills two groups, so the next one has the group after them
wide_field : layout_fault (field 0 1 0 0 ∷ field 1 8 1 1 ∷ field 2 4 3 9 ∷ []) ≡ None
unfolding layout_fault failing_number
wide_field = refl

-- fields of four bytes together, one after the other; the first may lie anywhere
shared_group : layout_fault (field 0 1 0 0 ∷ field 1 1 1 20 ∷ field 2 1 1 21 ∷ field 3 2 1 22 ∷
    field 4 4 2 4 ∷ []) ≡ None
unfolding layout_fault failing_number
shared_group = refl

no_fields : layout_fault [] ≡ Some NoFields
unfolding layout_fault failing_number
no_fields = refl

wrong_index : layout_fault (field 0 1 0 0 ∷ field 1 4 1 1 ∷ field 3 4 2 5 ∷ [])
    ≡ Some (FieldIndex 2)
unfolding layout_fault failing_number
wrong_index = refl

size_3 : layout_fault (field 0 1 0 0 ∷ field 1 3 1 1 ∷ []) ≡ Some (BadSize 1)
unfolding layout_fault failing_number
size_3 = refl

size_0 : layout_fault (field 0 0 0 0 ∷ []) ≡ Some (BadSize 0)
unfolding layout_fault failing_number
size_0 = refl

first_of_two_bytes : layout_fault (field 0 2 0 0 ∷ []) ≡ Some FirstNotOneByte
unfolding layout_fault failing_number
first_of_two_bytes = refl

first_input_1 : layout_fault (field 0 1 1 0 ∷ []) ≡ Some (InputOrder 0)
unfolding layout_fault failing_number
first_input_1 = refl

second_input_0 : layout_fault (field 0 1 0 0 ∷ field 1 1 0 1 ∷ []) ≡ Some (InputOrder 1)
unfolding layout_fault failing_number
second_input_0 = refl

second_input_2 : layout_fault (field 0 1 0 0 ∷ field 1 4 2 1 ∷ []) ≡ Some (InputOrder 1)
unfolding layout_fault failing_number
second_input_2 = refl

skipped_group : layout_fault (field 0 1 0 0 ∷ field 1 4 1 1 ∷ field 2 4 3 5 ∷ [])
    ≡ Some (InputOrder 2)
unfolding layout_fault failing_number
skipped_group = refl

within_a_wide_field : layout_fault (field 0 1 0 0 ∷ field 1 8 1 1 ∷ field 2 4 2 9 ∷ [])
    ≡ Some (InputOrder 2)
unfolding layout_fault failing_number
within_a_wide_field = refl

two_bytes_alone : layout_fault (field 0 1 0 0 ∷ field 1 2 1 1 ∷ field 2 4 2 3 ∷ [])
    ≡ Some (GroupSize 1)
unfolding layout_fault failing_number
two_bytes_alone = refl

six_bytes_together : layout_fault (field 0 1 0 0 ∷ field 1 4 1 1 ∷ field 2 4 2 5 ∷ field 3 2 2 9 ∷
    []) ≡ Some (GroupSize 2)
unfolding layout_fault failing_number
six_bytes_together = refl

-- eight bytes of a group are one field, and not two
two_fields_of_four_bytes : layout_fault (field 0 1 0 0 ∷ field 1 4 1 1 ∷ field 2 4 1 5 ∷ [])
    ≡ Some (GroupSize 1)
unfolding layout_fault failing_number
two_fields_of_four_bytes = refl

gap_in_a_group : layout_fault (field 0 1 0 0 ∷ field 1 2 1 1 ∷ field 2 2 1 4 ∷ [])
    ≡ Some (GroupOffsets 2)
unfolding layout_fault failing_number
gap_in_a_group = refl

turned_in_a_group : layout_fault (field 0 1 0 0 ∷ field 1 2 1 3 ∷ field 2 2 1 1 ∷ [])
    ≡ Some (GroupOffsets 2)
unfolding layout_fault failing_number
turned_in_a_group = refl

great_offset : layout_fault (field 0 1 0 65536 ∷ []) ≡ Some (OffsetTooLarge 0)
unfolding layout_fault failing_number
great_offset = refl

greatest_offset : layout_fault (field 0 1 0 65535 ∷ []) ≡ None
unfolding layout_fault failing_number
greatest_offset = refl

-- two at once: the earlier kind comes first, also where its definition stands later
index_before_size : layout_fault (field 0 3 0 0 ∷ field 2 4 1 1 ∷ []) ≡ Some (FieldIndex 1)
unfolding layout_fault failing_number
index_before_size = refl

size_before_first : layout_fault (field 0 2 0 0 ∷ field 1 3 1 1 ∷ []) ≡ Some (BadSize 1)
unfolding layout_fault failing_number
size_before_first = refl

first_before_order : layout_fault (field 0 2 7 0 ∷ []) ≡ Some FirstNotOneByte
unfolding layout_fault failing_number
first_before_order = refl

order_before_group : layout_fault (field 0 1 0 0 ∷ field 1 2 1 1 ∷ field 2 4 3 3 ∷ [])
    ≡ Some (InputOrder 2)
unfolding layout_fault failing_number
order_before_group = refl

group_before_offsets : layout_fault
    (field 0 1 0 0 ∷ field 1 2 1 1 ∷ field 2 2 1 4 ∷ field 3 2 2 5 ∷ []) ≡ Some (GroupSize 2)
unfolding layout_fault failing_number
group_before_offsets = refl

offsets_before_reach : layout_fault (field 0 1 0 65536 ∷ field 1 2 1 1 ∷ field 2 2 1 4 ∷ [])
    ≡ Some (GroupOffsets 2)
unfolding layout_fault failing_number
offsets_before_reach = refl

-- of one kind the least number
first_wrong_index : layout_fault (field 1 1 0 0 ∷ field 2 4 1 1 ∷ []) ≡ Some (FieldIndex 0)
unfolding layout_fault failing_number
first_wrong_index = refl
