-- How the answers of calls are numbered, as `aclc.h` names the numbers.
use Rattle.std.specs.Prelude.{ℕ}
use Rattle.field_defs.specs.declared.lawful.LayoutFault.{LayoutFault}
use Rattle.field_defs.specs.declared.lawful.LayoutFault.TheVariants.{NoFields, FieldIndex, BadSize}
use Rattle.field_defs.specs.declared.lawful.LayoutFault.TheVariants.{FirstNotOneByte, InputOrder}
use Rattle.field_defs.specs.declared.lawful.LayoutFault.TheVariants.{GroupSize, GroupOffsets}
use Rattle.field_defs.specs.declared.lawful.LayoutFault.TheVariants.{OffsetTooLarge}
use Rattle.rule_set.specs.declared.check.RuleFault.{RuleFault}
use Rattle.rule_set.specs.declared.check.RuleFault.TheVariants.{FieldCount, FieldKind, NoCategory}
use Rattle.rule_set.specs.declared.check.RuleFault.TheVariants.{PriorityRange, FieldTooWide}
use Rattle.rule_set.specs.declared.check.RuleFault.TheVariants.{MaskTooLong, EmptyRange}

-- the call did what it was asked for
abbrev pub ok : ℕ
ok = 0

-- there is no memory for it
abbrev pub no_memory : ℕ
no_memory = 1

-- a handle that the call is on is empty
abbrev pub empty_handle : ℕ
empty_handle = 2

-- a handle that the call fills isn't empty
abbrev pub taken_handle : ℕ
taken_handle = 3

-- the lengths of two arguments don't fit together
abbrev pub bad_length : ℕ
bad_length = 4

-- a context may not be made for so many rules
abbrev pub bad_limit : ℕ
bad_limit = 5

-- the budget is more than a table may have
abbrev pub bad_budget : ℕ
bad_budget = 6

-- the number of categories is none
abbrev pub bad_categories : ℕ
bad_categories = 7

-- the number is none of a walk
abbrev pub bad_walk : ℕ
bad_walk = 8

-- there are more keys than a call may have
abbrev pub too_many_keys : ℕ
too_many_keys = 9

-- there is room by lanes for fewer keys
abbrev pub no_lanes : ℕ
no_lanes = 10

-- the context has no table
abbrev pub not_built : ℕ
not_built = 11

-- the context would hold more rules than it may
abbrev pub full : ℕ
full = 12

-- the table needs more words than the budget
abbrev pub too_large : ℕ
too_large = 13

-- no image may have the tables
abbrev pub no_image : ℕ
no_image = 15

-- the room is less than the image needs
abbrev pub no_room : ℕ
no_room = 16

-- there are too many field definitions
abbrev pub too_many_fields : ℕ
too_many_fields = 32

-- the number is none of a kind of field
abbrev pub bad_kind : ℕ
bad_kind = 33

-- the code of a fault of field definitions, and the number of the definition or the group
abbrev pub layout_code : LayoutFault → ℕ × ℕ
layout_code NoFields = (34, 0)
layout_code (FieldIndex place) = (35, place)
layout_code (BadSize place) = (36, place)
layout_code FirstNotOneByte = (37, 0)
layout_code (InputOrder place) = (38, place)
layout_code (GroupSize group) = (39, group)
layout_code (GroupOffsets place) = (40, place)
layout_code (OffsetTooLarge place) = (41, place)

-- the code of a fault of a rule, and the place of the field
abbrev pub rule_code : RuleFault → ℕ × ℕ
rule_code FieldCount = (46, 0)
rule_code (FieldKind place) = (47, place)
rule_code NoCategory = (48, 0)
rule_code PriorityRange = (49, 0)
rule_code (FieldTooWide place) = (50, place)
rule_code (MaskTooLong place) = (51, place)
rule_code (EmptyRange place) = (52, place)
