-- How many groups of a key's bytes the fields of a layout fill.
use Rattle.std.specs.Prelude.{ℕ, ◌+◌, ◌-◌, ◌==◌, List}
use Rattle.std.specs.Prelude.{Bool, ◌&&◌, ◌||◌, length, filter}
use Rattle.std.specs.List.{list_any, range_with_len}
use Rattle.field_defs.specs.declared.field.FieldDef.{FieldDef}
use Rattle.field_defs.specs.LayoutFault.{wide_size, group_numbers}

-- a field fills the group: its own, or of 8 bytes the one after it too
abbrev pub fills : ℕ → FieldDef → Bool
fills group def =
    def.input_index == group || (def.size == wide_size && def.input_index + 1 == group)

-- how many groups past 0 some field fills
unfoldable pub group_count : List FieldDef → ℕ
group_count defs =
    length (filter (λ group. list_any (fills group) defs) (range_with_len 1 (group_numbers - 1)))
