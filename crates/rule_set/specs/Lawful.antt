-- Which rules are lawful, said of the rule as a whole.
use Rattle.std.specs.Prelude.{pos, List, IsTrue}
use Rattle.std.specs.List.{AllZip, list_any}
use Rattle.std.specs.Int.Signed.{le_z}
use Rattle.field_defs.specs.declared.field.FieldDef.{FieldDef}
use Rattle.field_defs.specs.declared.field.FieldValue.{FieldValue}
use Rattle.field_defs.specs.FieldMatch.{kind_of}
use Rattle.field_defs.specs.FieldBounds.{same_kind, is_range_filled, CanMatch}
use Rattle.rule_set.specs.declared.rule.RuleTag.{RuleTag}
use Rattle.rule_set.specs.Limits.{max_priority}
use Rattle.rule_set.specs.Fault.{categories}
use Rattle.rule_set.specs.Winner.{is_in_category}

-- A value that a rule may have for a field: of the field's kind, of numbers of the field's size,
-- with no more bits than the field where it is a mask, and with a number in it where it is a range.
pub record IsLawfulValue (def : FieldDef) (value : FieldValue) : Type 0 where
  pub kind : IsTrue (same_kind (kind_of value) def.kind)
  pub can_match : CanMatch value def.size
  pub filled : IsTrue (is_range_filled value)

-- A tag that a rule may have: it names some category, and its priority isn't below 0 or above the
-- greatest.
pub record IsLawfulTag (tag : RuleTag) : Type 0 where
  pub category : IsTrue (list_any (is_in_category tag) categories)
  pub not_below : IsTrue (le_z (pos 0) tag.priority)
  pub not_above : IsTrue (le_z tag.priority (pos max_priority))

-- A lawful tag, and for each field a lawful value.
pub record IsLawfulRule (layout : List FieldDef) (its_tag : RuleTag)
    (its_values : List FieldValue) : Type 0 where
  pub tag : IsLawfulTag its_tag
  pub values : AllZip IsLawfulValue layout its_values
