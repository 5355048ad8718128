-- Field definitions as C gives them.
use Rattle.std.specs.Prelude.{ℕ, ◌==◌, nat_lt, List, length, map, Bool, Option, Some, None}
use Rattle.std.specs.Prelude.{if◌then◌else◌}
use Rattle.std.specs.List.{position}
use Rattle.std.specs.Option.{option_map}
use Rattle.field_defs.specs.declared.field.FieldKind.{FieldKind}
use Rattle.field_defs.specs.declared.field.FieldKind.TheVariants.{Mask, Range, Bitmask}
use Rattle.field_defs.specs.declared.field.FieldDef.{FieldDef}
use Rattle.field_defs.specs.Layout.{max_fields}
use Rattle.field_defs.specs.LayoutFault.{layout_fault}
use Rattle.acl_c.specs.declared.given.Field.{Field}
use Rattle.acl_c.specs.Codes.{bad_kind, too_many_fields, layout_code}

-- the kind of a number
abbrev pub kind_of : ℕ → FieldKind
kind_of number = if number == 0 then Mask else (if number == 1 then Range else Bitmask)

-- the number is none of a kind
abbrev pub is_unknown : Field → Bool
is_unknown field = nat_lt 2 field.kind

-- a definition
abbrev pub def_of : Field → FieldDef
def_of field = record {
  kind = kind_of field.kind;
  size = field.size;
  field_index = field.field_index;
  input_index = field.input_index;
  offset = field.offset;
}

-- the fault of a kind that is none, or else the other one
abbrev pub kind_or_else : Option ℕ → Option (ℕ × ℕ) → Option (ℕ × ℕ)
kind_or_else (Some place) other = Some (bad_kind, place)
kind_or_else None other = other

-- the code of the first fault of definitions, and its place
abbrev pub fields_fault : List Field → Option (ℕ × ℕ)
fields_fault fields = if nat_lt max_fields (length fields) then Some (too_many_fields, 0)
    else kind_or_else (position is_unknown fields)
    (option_map layout_code (layout_fault (map def_of fields)))
