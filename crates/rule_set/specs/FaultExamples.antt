-- Examples of the faults of rules, each checked by evaluation.
use Rattle.std.specs.Prelude.{◌≡◌, ℕ, ℤ, pos, negsuc, List, [], ◌∷◌, Option, Some, None, refl}
use Rattle.field_defs.specs.declared.field.FieldKind.TheVariants as kinds
use Rattle.field_defs.specs.declared.field.FieldDef.{FieldDef}
use Rattle.field_defs.specs.declared.field.FieldValue.{FieldValue}
use Rattle.field_defs.specs.declared.field.FieldValue.TheVariants.{Mask, Range, Bitmask}
use Rattle.rule_set.specs.declared.rule.RuleTag.{RuleTag}
use Rattle.rule_set.specs.declared.check.RuleFault.{RuleFault}
use Rattle.rule_set.specs.declared.check.RuleFault.TheVariants.{FieldCount, FieldKind, NoCategory}
use Rattle.rule_set.specs.declared.check.RuleFault.TheVariants.{PriorityRange, FieldTooWide}
use Rattle.rule_set.specs.declared.check.RuleFault.TheVariants.{MaskTooLong, EmptyRange}
use Rattle.rule_set.specs.Fault.{categories, rule_fault}

-- a layout of a bitmask of one byte, a mask of four and a range of two
abbrev three_fields : List FieldDef
three_fields =
    record { kind = kinds.Bitmask; size = 1; field_index = 0; input_index = 0; offset = 0 }
    ∷ record { kind = kinds.Mask; size = 4; field_index = 1; input_index = 1; offset = 1 }
    ∷ record { kind = kinds.Range; size = 2; field_index = 2; input_index = 2; offset = 5 }
    ∷ []

-- a layout of a range and a mask of one byte each
abbrev ranged_then_masked : List FieldDef
ranged_then_masked =
    record { kind = kinds.Range; size = 1; field_index = 0; input_index = 0; offset = 0 }
    ∷ record { kind = kinds.Mask; size = 1; field_index = 1; input_index = 1; offset = 1 }
    ∷ []

abbrev tagged : ℕ → ℤ → ℕ → RuleTag
tagged mask priority userdata = record
    { category_mask = mask; priority = priority; userdata = userdata }

-- a lawful tag
abbrev plain : RuleTag
plain = tagged 1 (pos 1) 1

-- lawful values
abbrev values : List FieldValue
values = Bitmask 17 255 ∷ Mask 0xC0A80000 16 ∷ Range 0 65535 ∷ []

-- the fault of a rule over the three fields
abbrev fault : RuleTag → List FieldValue → Option RuleFault
fault tag fields = rule_fault three_fields tag fields

-- the fault of the tag beside lawful values, and of the values beside a lawful tag
abbrev tag_fault : ℕ → ℤ → ℕ → Option RuleFault
tag_fault mask priority userdata = fault (tagged mask priority userdata) values

abbrev value_fault : FieldValue → FieldValue → FieldValue → Option RuleFault
value_fault protocol source port = fault plain (protocol ∷ source ∷ port ∷ [])

lawful : fault plain values ≡ None
unfolding rule_fault categories
lawful = refl

-- each fault alone
too_few_values : fault plain (Bitmask 17 255 ∷ Mask 0 0 ∷ []) ≡ Some FieldCount
unfolding rule_fault categories
too_few_values = refl

too_many_values : fault plain (Bitmask 17 255 ∷ Mask 0 0 ∷ Range 0 1 ∷ Range 0 1 ∷ [])
    ≡ Some FieldCount
unfolding rule_fault categories
too_many_values = refl

no_values_for_no_fields : rule_fault [] plain [] ≡ None
unfolding rule_fault categories
no_values_for_no_fields = refl

other_kind : value_fault (Bitmask 17 255) (Range 0 1) (Range 0 65535) ≡ Some (FieldKind 1)
unfolding rule_fault categories
other_kind = refl

no_category : tag_fault 0 (pos 1) 1 ≡ Some NoCategory
unfolding rule_fault categories
no_category = refl

negative_priority : tag_fault 1 (negsuc 0) 1 ≡ Some PriorityRange
unfolding rule_fault categories
negative_priority = refl

great_priority : tag_fault 1 (pos 536870912) 1 ≡ Some PriorityRange
unfolding rule_fault categories
great_priority = refl

userdata_0_is_lawful : tag_fault 1 (pos 1) 0 ≡ None
unfolding rule_fault categories
userdata_0_is_lawful = refl

wide_value : value_fault (Bitmask 17 255) (Mask 0x100000000 16) (Range 0 65535)
    ≡ Some (FieldTooWide 1)
unfolding rule_fault categories
wide_value = refl

wide_mask : value_fault (Bitmask 17 256) (Mask 0 16) (Range 0 65535) ≡ Some (FieldTooWide 0)
unfolding rule_fault categories
wide_mask = refl

wide_low : value_fault (Bitmask 17 255) (Mask 0 16) (Range 65536 65535) ≡ Some (FieldTooWide 2)
unfolding rule_fault categories
wide_low = refl

wide_high : value_fault (Bitmask 17 255) (Mask 0 16) (Range 0 65536) ≡ Some (FieldTooWide 2)
unfolding rule_fault categories
wide_high = refl

long_mask : value_fault (Bitmask 17 255) (Mask 0 33) (Range 0 65535) ≡ Some (MaskTooLong 1)
unfolding rule_fault categories
long_mask = refl

empty_range : value_fault (Bitmask 17 255) (Mask 0 16) (Range 8 7) ≡ Some (EmptyRange 2)
unfolding rule_fault categories
empty_range = refl

-- the last that each check lets through
greatest_values : value_fault (Bitmask 255 255) (Mask 0xFFFFFFFF 32) (Range 65535 65535) ≡ None
unfolding rule_fault categories
greatest_values = refl

least_values : value_fault (Bitmask 0 0) (Mask 0 0) (Range 0 0) ≡ None
unfolding rule_fault categories
least_values = refl

greatest_priority : tag_fault 1 (pos 536870911) 1 ≡ None
unfolding rule_fault categories
greatest_priority = refl

least_priority : tag_fault 1 (pos 0) 1 ≡ None
unfolding rule_fault categories
least_priority = refl

last_category : tag_fault 0x8000 (pos 1) 1 ≡ None
unfolding rule_fault categories
last_category = refl

-- bits above the low 16 stand for no category
no_low_category : tag_fault 0x10000 (pos 1) 1 ≡ Some NoCategory
unfolding rule_fault categories
no_low_category = refl

greatest_userdata : tag_fault 1 (pos 1) 0xFFFFFFFF ≡ None
unfolding rule_fault categories
greatest_userdata = refl

-- two at once: the earlier kind comes first, also where its field stands later
count_before_kind : fault plain (Mask 0 0 ∷ []) ≡ Some FieldCount
unfolding rule_fault categories
count_before_kind = refl

kind_before_category : fault (tagged 0 (pos 1) 1) (Mask 0 0 ∷ Mask 0 0 ∷ Range 0 0 ∷ [])
    ≡ Some (FieldKind 0)
unfolding rule_fault categories
kind_before_category = refl

category_before_priority : tag_fault 0 (negsuc 4) 1 ≡ Some NoCategory
unfolding rule_fault categories
category_before_priority = refl

priority_before_width : fault (tagged 1 (negsuc 4) 0) (Bitmask 256 0 ∷ Mask 0 0 ∷ Range 0 0 ∷ [])
    ≡ Some PriorityRange
unfolding rule_fault categories
priority_before_width = refl

width_before_mask : value_fault (Bitmask 0 0) (Mask 0 33) (Range 0 65536) ≡ Some (FieldTooWide 2)
unfolding rule_fault categories
width_before_mask = refl

mask_before_range : rule_fault ranged_then_masked plain (Range 8 7 ∷ Mask 0 9 ∷ [])
    ≡ Some (MaskTooLong 1)
unfolding rule_fault categories
mask_before_range = refl

-- of one kind the least place
first_wide_field : value_fault (Bitmask 0 0) (Mask 0x100000000 0) (Range 0 65536)
    ≡ Some (FieldTooWide 1)
unfolding rule_fault categories
first_wide_field = refl
