-- Why a list of field definitions is no layout (DPDK Programmer's Guide, "Packet Classification and
-- Access Control": the first field is one byte long, and all later fields are grouped into sets of
-- four consecutive bytes, an 8-byte field into two of them). DPDK answers one number for all of
-- these; here each check has a fault of its own, in this order.
use Rattle.std.specs.Prelude.{ℕ, ◌+◌, ◌-◌, ◌==◌, List, [], ◌∷◌, length, filter, drop, sum_by}
use Rattle.std.specs.Prelude.{slice_index_or, Bool, not, ◌&&◌, ◌||◌, nat_le, nat_lt, Option}
use Rattle.std.specs.Prelude.{if◌then◌else◌}
use Rattle.std.specs.Option.{option_map}
use Rattle.table_sizes.specs.Groups.{group_len}
use Rattle.field_defs.specs.declared.field.FieldKind.TheVariants.{Mask}
use Rattle.field_defs.specs.declared.field.FieldDef.{FieldDef}
use Rattle.field_defs.specs.declared.lawful.TheConstants.{MAX_OFFSET, WIDE_SIZE}
use Rattle.field_defs.specs.declared.lawful.TheConstants.{GROUP_NUMBERS}
use Rattle.field_defs.specs.declared.lawful.DefCheck.{DefCheck}
use Rattle.field_defs.specs.declared.lawful.DefCheck.TheVariants.{Index, Size, Order, Offset, Reach}
use Rattle.field_defs.specs.declared.lawful.LayoutFault.{LayoutFault}
use Rattle.field_defs.specs.declared.lawful.LayoutFault.TheVariants.{NoFields, FieldIndex, BadSize}
use Rattle.field_defs.specs.declared.lawful.LayoutFault.TheVariants.{FirstNotOneByte, InputOrder}
use Rattle.field_defs.specs.declared.lawful.LayoutFault.TheVariants.{GroupSize, GroupOffsets}
use Rattle.field_defs.specs.declared.lawful.LayoutFault.TheVariants.{OffsetTooLarge}
use Rattle.field_defs.specs.FieldBounds.{is_size}
use Rattle.field_defs.specs.Faults.{fault_unless, first_of, failing_number}

-- the greatest offset of a field
abbrev pub max_offset : ℕ
max_offset = MAX_OFFSET

-- the size of a field that fills two groups
abbrev pub wide_size : ℕ
wide_size = WIDE_SIZE

-- how many numbers of groups there are
abbrev pub group_numbers : ℕ
group_numbers = GROUP_NUMBERS

-- the definition at the place, where there is one
abbrev pub def_at : List FieldDef → ℕ → FieldDef
def_at defs place = slice_index_or defs place record
    { kind = Mask; size = 1; field_index = 0; input_index = 0; offset = 0 }

-- the field index of the definition is its place
abbrev pub is_indexed : List FieldDef → ℕ → Bool
is_indexed defs place = (def_at defs place).field_index == place

-- its size is one that a field may have
abbrev pub is_sized : List FieldDef → ℕ → Bool
is_sized defs place = is_size (def_at defs place).size

-- the group of a definition that comes after another: the second next one after a field of 8
-- bytes, and else the same or the next one
abbrev pub may_follow : FieldDef → FieldDef → Bool
may_follow before def =
    if before.size == wide_size
    then def.input_index == before.input_index + 2
    else def.input_index == before.input_index || def.input_index == before.input_index + 1

-- the first definition has group 0, the second group 1, and each later one a group that may follow
abbrev pub is_in_order : List FieldDef → ℕ → Bool
is_in_order defs place =
    if nat_lt place 2
    then (def_at defs place).input_index == place
    else may_follow (def_at defs (place - 1)) (def_at defs place)

-- those of the definitions that are of a group are none, one field of 8 bytes, or fields of four
-- bytes together
abbrev pub is_filled_group : List FieldDef → ℕ → Bool
is_filled_group defs group =
    let members = filter (λ def. def.input_index == group) defs in
    let bytes = sum_by (λ def. def.size) members in
    length members == 0 || (bytes == group_len || (length members == 1 && bytes == wide_size))

-- a definition that shares a group past 0 with the one before it lies after it in the buffer
abbrev pub is_after : List FieldDef → ℕ → Bool
is_after defs place =
    let before = def_at defs (place - 1) in
    let def = def_at defs place in
    let shares = nat_lt 0 place && (before.input_index == def.input_index && not
    (def.input_index == 0)) in
    not shares || def.offset == before.offset + before.size

-- its offset isn't too large
abbrev pub is_in_reach : List FieldDef → ℕ → Bool
is_in_reach defs place = nat_le (def_at defs place).offset max_offset

-- what each check of definitions asks
abbrev pub passes : DefCheck → List FieldDef → ℕ → Bool
passes Index = is_indexed
passes Size = is_sized
passes Order = is_in_order
passes Offset = is_after
passes Reach = is_in_reach

-- the eight kinds of checks in their order, each with its fault if it fails, and within a kind with
-- the least number
abbrev pub layout_faults : List FieldDef → List (Option LayoutFault)
layout_faults defs =
    fault_unless (not (length defs == 0)) NoFields
    ∷ option_map FieldIndex (failing_number (is_indexed defs) (length defs))
    ∷ option_map BadSize (failing_number (is_sized defs) (length defs))
    ∷ fault_unless ((def_at defs 0).size == 1) FirstNotOneByte
    ∷ option_map InputOrder (failing_number (is_in_order defs) (length defs))
    ∷ option_map GroupSize (failing_number (is_filled_group (drop 1 defs)) group_numbers)
    ∷ option_map GroupOffsets (failing_number (is_after defs) (length defs))
    ∷ option_map OffsetTooLarge (failing_number (is_in_reach defs) (length defs))
    ∷ []

-- why the definitions are no layout, if they are none
unfoldable pub layout_fault : List FieldDef → Option LayoutFault
layout_fault defs = first_of (layout_faults defs)
