-- What values have to be so that they can be asked about numbers.
use Rattle.std.specs.Prelude.{List}
use Rattle.std.specs.List.{AllZip}
use Rattle.field_defs.specs.declared.field.FieldDef.{FieldDef}
use Rattle.field_defs.specs.declared.field.FieldValue.{FieldValue}
use Rattle.field_defs.specs.FieldBounds.{CanMatch}

-- there is a value for each field, and it can be asked about the numbers of the field's size
abbrev pub CanMatchAll : List FieldDef → List FieldValue → Type 0
CanMatchAll layout values = AllZip (λ (def : FieldDef) value. CanMatch value def.size) layout values
