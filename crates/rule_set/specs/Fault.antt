-- Why a rule is refused (DPDK Programmer's Guide, "Packet Classification and Access Control", and
-- `rte_acl.h`: a rule has a value for each field, some category, and a priority from 0 to
-- 536,870,911). DPDK answers one number for all of these; here each kind of check has a fault of
-- its own, and the kinds have an order. Userdata 0 is lawful, as in DPDK 22.11.
use Rattle.std.specs.Prelude.{ℕ, pos, ◌==◌, List, [], ◌∷◌, length, position, Bool, not}
use Rattle.std.specs.Prelude.{◌&&◌, Option}
use Rattle.std.specs.List.{list_any, range_with_len, zip}
use Rattle.std.specs.Option.{option_map}
use Rattle.std.specs.Int.Signed.{le_z}
use Rattle.field_defs.specs.declared.field.FieldDef.{FieldDef}
use Rattle.field_defs.specs.declared.field.FieldValue.{FieldValue}
use Rattle.field_defs.specs.FieldMatch.{kind_of}
use Rattle.field_defs.specs.FieldBounds.{same_kind, is_within_size, is_mask_within}
use Rattle.field_defs.specs.FieldBounds.{is_range_filled}
use Rattle.field_defs.specs.Faults.{fault_unless, first_of}
use Rattle.rule_set.specs.declared.rule.RuleTag.{RuleTag}
use Rattle.rule_set.specs.declared.check.ValueCheck.{ValueCheck}
use Rattle.rule_set.specs.declared.check.ValueCheck.TheVariants.{Kind, Width, MaskLength, RangeEnds}
use Rattle.rule_set.specs.declared.check.RuleFault.{RuleFault}
use Rattle.rule_set.specs.declared.check.RuleFault.TheVariants.{FieldCount, FieldKind, NoCategory}
use Rattle.rule_set.specs.declared.check.RuleFault.TheVariants.{PriorityRange, FieldTooWide}
use Rattle.rule_set.specs.declared.check.RuleFault.TheVariants.{MaskTooLong, EmptyRange}
use Rattle.rule_set.specs.Limits.{max_priority, max_categories}
use Rattle.rule_set.specs.Winner.{is_in_category}

-- the sixteen categories
unfoldable pub categories : List ℕ
categories = range_with_len 0 max_categories

-- the value is of its field's kind
abbrev pub is_of_kind : FieldDef → FieldValue → Bool
is_of_kind def value = same_kind (kind_of value) def.kind

-- the numbers of the value are numbers of its field's size
abbrev pub is_narrow : FieldDef → FieldValue → Bool
is_narrow def value = is_within_size value def.size

-- the value, if it is a mask, has no more bits than its field
abbrev pub is_mask_short : FieldDef → FieldValue → Bool
is_mask_short def value = is_mask_within value def.size

-- the value, if it is a range, has a number in it
abbrev pub is_filled : FieldDef → FieldValue → Bool
is_filled def value = is_range_filled value

-- what each check of values asks
abbrev pub passes : ValueCheck → FieldDef → FieldValue → Bool
passes Kind = is_of_kind
passes Width = is_narrow
passes MaskLength = is_mask_short
passes RangeEnds = is_filled

-- the least place at which a field and its value fail the test
abbrev pub failing_place : (FieldDef → FieldValue → Bool) → List FieldDef → List FieldValue →
    Option ℕ
failing_place holds layout values = position (λ pair. not (holds pair.0 pair.1)) (zip layout values)

-- the seven kinds of checks in their order, each with its fault if it fails
abbrev pub faults : List FieldDef → RuleTag → List FieldValue → List (Option RuleFault)
faults layout tag values =
    fault_unless (length values == length layout) FieldCount
    ∷ option_map FieldKind (failing_place is_of_kind layout values)
    ∷ fault_unless (list_any (is_in_category tag) categories) NoCategory
    ∷ fault_unless (le_z (pos 0) tag.priority && le_z tag.priority (pos max_priority)) PriorityRange
    ∷ option_map FieldTooWide (failing_place is_narrow layout values)
    ∷ option_map MaskTooLong (failing_place is_mask_short layout values)
    ∷ option_map EmptyRange (failing_place is_filled layout values)
    ∷ []

-- why the rule is refused, if it is: each kind of check is made over all fields before the next
-- kind
unfoldable pub rule_fault : List FieldDef → RuleTag → List FieldValue → Option RuleFault
rule_fault layout tag values = first_of (faults layout tag values)
