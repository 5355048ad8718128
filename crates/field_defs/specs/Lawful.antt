-- Lawful layouts.
use Rattle.std.specs.Prelude.{◌≡◌, ◌≤◌, List, length, None}
use Rattle.field_defs.specs.declared.field.FieldDef.{FieldDef}
use Rattle.field_defs.specs.Layout.{max_fields}
use Rattle.field_defs.specs.LayoutFault.{layout_fault}

-- the definitions have no fault, and there are no more than a layout may have
pub record IsLayout (defs : List FieldDef) : Type 0 where
  pub few : length defs ≤ max_fields
  pub faultless : layout_fault defs ≡ None
