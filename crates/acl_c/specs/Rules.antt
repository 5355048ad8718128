-- Rules as C gives them: what each is for, and beside them the values of all, rule after rule.
use Rattle.std.specs.Prelude.{ℕ, pos, ◌*◌, ◌/◌, ◌%◌, ◌==◌, ◌&&◌, nat_le, List, map, drop, length}
use Rattle.std.specs.Prelude.{Bool, not}
use Rattle.std.specs.Prelude.{slice_index_or, if◌then◌else◌}
use Rattle.std.specs.List.{range_with_len}
use Rattle.field_defs.specs.declared.field.FieldKind.{FieldKind}
use Rattle.field_defs.specs.declared.field.FieldKind.TheVariants as kinds
use Rattle.field_defs.specs.declared.field.FieldDef.{FieldDef}
use Rattle.field_defs.specs.declared.field.FieldValue.{FieldValue}
use Rattle.field_defs.specs.declared.field.FieldValue.TheVariants.{Mask, Range, Bitmask}
use Rattle.field_defs.specs.LayoutFault.{def_at}
use Rattle.rule_set.specs.declared.rule.RuleTag.{RuleTag}
use Rattle.rule_set.specs.Rule.{RuleView}
use Rattle.acl_c.specs.declared.rules.Tag.{Tag}
use Rattle.acl_c.specs.declared.rules.Value.{Value}

-- how many bits a mask has, of which no field has more than 64
abbrev pub bits_of : ℕ → ℕ
bits_of mask_range = if nat_le mask_range 255 then mask_range else 255

-- the value for a field of the kind
abbrev pub value_of : FieldKind → Value → FieldValue
value_of kinds.Mask given = Mask given.value (bits_of given.mask_range)
value_of kinds.Range given = Range given.value given.mask_range
value_of kinds.Bitmask given = Bitmask given.value given.mask_range

-- what a rule is for
abbrev pub tag_of : Tag → RuleTag
tag_of given = record {
  category_mask = given.category_mask;
  priority = given.priority;
  userdata = given.userdata;
}

-- the value at the place, where there is one
abbrev pub value_at : List Value → ℕ → Value
value_at values place = slice_index_or values place record { value = 0; mask_range = 0 }

-- a value for each field
unfoldable pub fields_from : List FieldDef → List Value → List FieldValue
fields_from defs values = map
    (λ place. value_of (def_at defs place).kind (value_at values place))
    (range_with_len 0 (length defs))

-- what the rule at the place is for, where there is one
abbrev pub tag_at : List Tag → ℕ → Tag
tag_at tags place = slice_index_or tags place
    record { category_mask = 0; priority = pos 0; userdata = 0 }

-- the rule at the place: its values stand after those of the rules before it
abbrev pub rule_from : List FieldDef → List Tag → List Value → ℕ → RuleView
rule_from defs tags values place = record {
  tag = tag_of (tag_at tags place);
  fields = fields_from defs (drop (place * length defs) values);
}

-- all rules
unfoldable pub rules_from : List FieldDef → List Tag → List Value → List RuleView
rules_from defs tags values = map (rule_from defs tags values) (range_with_len 0 (length tags))

-- there is a value for each field of each rule
abbrev pub are_whole : List FieldDef → List Tag → List Value → Bool
are_whole defs tags values = not (length defs == 0)
    && length values % length defs == 0 && length values / length defs == length tags
