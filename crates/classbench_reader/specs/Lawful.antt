-- Values that a lawful rule may have for a field, by the field's kind and size.
use Rattle.std.specs.Prelude.{◌≡◌, ℕ, Bool, true, ◌&&◌, IsTrue}
use Rattle.field_defs.specs.declared.field.FieldKind.{FieldKind}
use Rattle.field_defs.specs.declared.field.FieldValue.{FieldValue}
use Rattle.field_defs.specs.declared.field.FieldKind.TheVariants.{Range, Bitmask}
use Rattle.field_defs.specs.FieldMatch.{kind_of}
use Rattle.field_defs.specs.FieldBounds.{same_kind, is_within_size, is_mask_within}
use Rattle.field_defs.specs.FieldBounds.{is_range_filled}
use Rattle.rule_set.specs.Lawful.{IsLawfulTag}
use Rattle.classbench_reader.specs.declared.line.RuleLine.{RuleLine}
use Rattle.classbench_reader.specs.Network.{family_of, IsLawfulNetwork}
use Rattle.classbench_reader.specs.Line.{same_family}

-- the value is of the kind, its numbers and its mask fit the size, and it isn't an empty range
abbrev pub is_lawful : FieldKind → ℕ → FieldValue → Bool
is_lawful kind size value =
    same_kind (kind_of value) kind && is_within_size value size && is_mask_within value size
    && is_range_filled value

-- what makes the rule of a line lawful for its family's layout
pub record IsLawfulLine (line : RuleLine) : Type 0 where
  pub source_network : IsLawfulNetwork line.source
  pub destination_network : IsLawfulNetwork line.destination
  pub one_family : same_family (family_of line.source) (family_of line.destination) ≡ true
  pub source_range : IsTrue (is_lawful Range 2 line.source_ports)
  pub destination_range : IsTrue (is_lawful Range 2 line.destination_ports)
  pub protocol_bits : IsTrue (is_lawful Bitmask 1 line.protocol)
  pub lawful_tag : IsLawfulTag line.tag
