-- Laws of field values, over the definitions alone.
use Rattle.std.specs.Prelude.{ℕ, ◌≡◌, ◌+◌, ◌*◌, ◌<◌, ◌≤◌, ◌↔◌, List, IsTrue}
use Rattle.std.specs.List.{list_all}
use Rattle.table_sizes.specs.Groups.{group_len, max_key_len}
use Rattle.field_defs.specs.declared.field.FieldDef.{FieldDef}
use Rattle.field_defs.specs.declared.field.FieldValue.{FieldValue}
use Rattle.field_defs.specs.FieldBounds.{is_size, CanMatch, IsWild, is_wild}
use Rattle.field_defs.specs.Layout.{key_len_of}
use Rattle.field_defs.specs.KeyGroups.{group_count}
use Rattle.field_defs.specs.Lawful.{IsLayout}

-- A value is wild by its numbers exactly where every number of the size matches.
abbrev pub WildValuesMatchEveryNumber : Type 0
WildValuesMatchEveryNumber =
    (value : FieldValue) (size : ℕ) → CanMatch value size →
    (IsTrue (is_wild value size) ↔ IsWild value size)

-- Each field of a lawful layout has a size that a field may have.
abbrev pub LawfulLayoutsHaveLawfulSizes : Type 0
LawfulLayoutsHaveLawfulSizes = (defs : List FieldDef) → IsLayout defs →
    IsTrue (list_all (λ def. is_size def.size) defs)

-- A key of a lawful layout has at least one byte and at most 505.
abbrev pub LawfulLayoutsHaveShortKeys : Type 0
LawfulLayoutsHaveShortKeys =
    (defs : List FieldDef) → IsLayout defs → (0 < key_len_of defs) × (key_len_of defs ≤ max_key_len)

-- A key of a lawful layout has the byte of the first field and four for each group after it.
abbrev pub LawfulLayoutsFillTheirGroups : Type 0
LawfulLayoutsFillTheirGroups =
    (defs : List FieldDef) → IsLayout defs → key_len_of defs ≡ 1 + group_len * group_count defs
