-- Rules and rule sets as contracts see them.
use Rattle.std.specs.Prelude.{List}
use Rattle.field_defs.specs.declared.field.FieldDef.{FieldDef}
use Rattle.field_defs.specs.declared.field.FieldValue.{FieldValue}
use Rattle.rule_set.specs.declared.rule.RuleTag.{RuleTag}

-- a rule: its tag and its values for the fields of a layout, in their order
pub record RuleView : Type 0 where
  pub tag : RuleTag
  pub fields : List FieldValue

-- a rule set: its layout and its rules, in the order in which they were added
pub record RuleSetView : Type 0 where
  pub layout : List FieldDef
  pub rules : List RuleView
