-- Which rule wins a packet in a category (DPDK Programmer's Guide, "Packet Classification and
-- Access Control": of the matching rules the one of greatest priority). DPDK leaves equal
-- priorities open; here the rule added first wins.
use Rattle.std.specs.Prelude.{ℕ, ◌==◌, List, [], ◌∷◌, take, drop, filter, slice_get, Bool, true}
use Rattle.std.specs.Prelude.{false, ◌&&◌, Option, Some, None}
use Rattle.std.specs.List.{list_all, position_from}
use Rattle.std.specs.Option.{option_map_or}
use Rattle.std.specs.Int.{bit_at}
use Rattle.std.specs.Int.Signed.{le_z}
use Rattle.byte_numbers.specs.Number.{number_of}
use Rattle.field_defs.specs.declared.field.FieldDef.{FieldDef}
use Rattle.field_defs.specs.declared.field.FieldValue.{FieldValue}
use Rattle.field_defs.specs.FieldMatch.{field_match}
use Rattle.rule_set.specs.declared.rule.RuleTag.{RuleTag}
use Rattle.rule_set.specs.Rule.{RuleView}

-- Each field's bytes of the key, as a number in network order, match the rule's value for the
-- field.
abbrev pub rule_match : List FieldDef → List FieldValue → List ℕ → Bool
rule_match [] [] key = true
rule_match (def ∷ defs) (value ∷ values) key =
    field_match value def.size (number_of (take def.size key)) && rule_match defs values
    (drop def.size key)
rule_match [] (value ∷ values) key = false
rule_match (def ∷ defs) [] key = false

-- the rule takes part in the category
abbrev pub is_in_category : RuleTag → ℕ → Bool
is_in_category tag category = bit_at tag.category_mask category == 1

-- the rule takes part in the category and matches the key
abbrev pub applies : List FieldDef → List ℕ → ℕ → RuleView → Bool
applies layout key category rule = rule_match layout rule.fields key && is_in_category rule.tag
    category

-- no rule of the list has a greater priority
abbrev pub is_greatest : List RuleView → RuleView → Bool
is_greatest rules rule = list_all (λ other. le_z other.tag.priority rule.tag.priority) rules

-- the place of the first rule that applies and has the greatest priority of all that apply, or none
abbrev pub winner : List FieldDef → List RuleView → List ℕ → ℕ → Option ℕ
winner layout rules key category =
    position_from (λ rule. applies layout key category rule && is_greatest
    (filter (applies layout key category) rules) rule) 0 rules

-- the userdata of the rule at a place, and 0 for no place
abbrev pub userdata_at : List RuleView → Option ℕ → ℕ
userdata_at rules None = 0
userdata_at rules (Some place) = option_map_or (λ rule. rule.tag.userdata) (slice_get rules place) 0

-- the userdata of the winner, and 0 where no rule applies
abbrev pub verdict : List FieldDef → List RuleView → List ℕ → ℕ → ℕ
verdict layout rules key category = userdata_at rules (winner layout rules key category)
