-- Rules for the examples of the split.
use Rattle.std.specs.Prelude.{ℕ, pos, List, [], ◌∷◌, map, replicate}
use Rattle.field_defs.specs.declared.field.FieldKind.TheVariants as kinds
use Rattle.field_defs.specs.declared.field.FieldDef.{FieldDef}
use Rattle.field_defs.specs.declared.field.FieldValue.{FieldValue}
use Rattle.field_defs.specs.declared.field.FieldValue.TheVariants.{Range, Bitmask}
use Rattle.field_defs.specs.Layout.{ip4_fields}
use Rattle.rule_set.specs.Rule.{RuleView, RuleSetView}

-- a definition of a field of one byte, by its place
abbrev byte_field : ℕ → FieldDef
byte_field place =
    record { kind = kinds.Range; size = 1; field_index = place; input_index = 0; offset = place }

-- a rule of the values
abbrev valued : List FieldValue → RuleView
valued values =
    record { tag = record { category_mask = 1; priority = pos 1; userdata = 1 }; fields = values }

-- a value that is wild in a field of one byte
abbrev pub wild : FieldValue
wild = Range 0 255

-- and one that isn't
abbrev pub bound : FieldValue
bound = Range 5 255

-- a set over three fields of one byte, by the values of each rule
abbrev pub of_values : List (List FieldValue) → RuleSetView
of_values rules = record {
  layout = byte_field 0 ∷ byte_field 1 ∷ byte_field 2 ∷ [];
  rules = map valued rules;
}

-- so many rules that are wild in each field
abbrev pub all_wild : ℕ → RuleSetView
all_wild count = of_values (replicate count (wild ∷ wild ∷ wild ∷ []))

-- a rule for IPv4 packets of any protocol and ports, by its source and destination
abbrev pub addressed : FieldValue → FieldValue → RuleView
addressed source destination =
    valued (Bitmask 0 0 ∷ source ∷ destination ∷ Range 0 65535 ∷ Range 0 65535 ∷ [])

-- a set of such rules
abbrev pub of_packets : List RuleView → RuleSetView
of_packets rules = record { layout = ip4_fields; rules = rules }
