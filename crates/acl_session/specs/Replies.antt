-- The lines of reply.
use Rattle.std.specs.Prelude.{ℕ, List, [], ◌∷◌, ◌++◌, flat_map, Option, Some, None, codes, decimal}
use Rattle.field_defs.specs.declared.lawful.LayoutFault.{LayoutFault}
use Rattle.field_defs.specs.declared.lawful.LayoutFault.TheVariants as layout
use Rattle.rule_set.specs.declared.check.RuleFault.{RuleFault}
use Rattle.rule_set.specs.declared.check.RuleFault.TheVariants as rule
use Rattle.text_scan.specs.Parts.{line_feed, space}

-- the call was done
abbrev pub ok_text : List ℕ
ok_text = codes "ok\n"

-- what is said of a line that says nothing
abbrev pub bad_line_text : List ℕ
bad_line_text = codes "bad line\n"

-- as many fields are collected as a layout may have
abbrev pub too_many_text : List ℕ
too_many_text = codes "refused too many fields\n"

-- no context was made yet
abbrev pub no_context_text : List ℕ
no_context_text = codes "refused no context\n"

-- the context holds as many rules as it may
abbrev pub full_text : List ℕ
full_text = codes "refused full\n"

-- the fields reach further than the buffer
abbrev pub short_text : List ℕ
short_text = codes "refused short buffer\n"

-- no build was ok since the context was made or reset
abbrev pub not_built_text : List ℕ
not_built_text = codes "refused not built\n"

-- the table would have so many words
abbrev pub too_large_text : ℕ → ℕ → List ℕ
too_large_text words budget =
    codes "refused words " ++ decimal words ++ codes " budget " ++ decimal budget ++ line_feed ∷ []

-- a number that a fault carries, if it carries one
abbrev pub carried_text : Option ℕ → List ℕ
carried_text None = []
carried_text (Some number) = space ∷ decimal number

-- a fault by its number, and the number that it carries
abbrev pub fault_text : List ℕ → ℕ → Option ℕ → List ℕ
fault_text subject number carried =
    subject ++ decimal number ++ carried_text carried ++ line_feed ∷ []

-- the number of a fault of a layout
abbrev pub layout_fault_number : LayoutFault → ℕ
layout_fault_number layout.NoFields = 1
layout_fault_number (layout.FieldIndex place) = 2
layout_fault_number (layout.BadSize place) = 3
layout_fault_number layout.FirstNotOneByte = 4
layout_fault_number (layout.InputOrder place) = 5
layout_fault_number (layout.GroupSize group) = 6
layout_fault_number (layout.GroupOffsets place) = 7
layout_fault_number (layout.OffsetTooLarge place) = 8

-- and the number that it carries
abbrev pub layout_fault_carries : LayoutFault → Option ℕ
layout_fault_carries layout.NoFields = None
layout_fault_carries (layout.FieldIndex place) = Some place
layout_fault_carries (layout.BadSize place) = Some place
layout_fault_carries layout.FirstNotOneByte = None
layout_fault_carries (layout.InputOrder place) = Some place
layout_fault_carries (layout.GroupSize group) = Some group
layout_fault_carries (layout.GroupOffsets place) = Some place
layout_fault_carries (layout.OffsetTooLarge place) = Some place

-- the fields aren't a layout
abbrev pub layout_fault_text : LayoutFault → List ℕ
layout_fault_text fault =
    fault_text (codes "refused layout ") (layout_fault_number fault) (layout_fault_carries fault)

-- The number of a fault of a rule. 5 was that of userdata 0, which is lawful.
abbrev pub rule_fault_number : RuleFault → ℕ
rule_fault_number rule.FieldCount = 1
rule_fault_number (rule.FieldKind place) = 2
rule_fault_number rule.NoCategory = 3
rule_fault_number rule.PriorityRange = 4
rule_fault_number (rule.FieldTooWide place) = 6
rule_fault_number (rule.MaskTooLong place) = 7
rule_fault_number (rule.EmptyRange place) = 8

-- and the number that it carries
abbrev pub rule_fault_carries : RuleFault → Option ℕ
rule_fault_carries rule.FieldCount = None
rule_fault_carries (rule.FieldKind place) = Some place
rule_fault_carries rule.NoCategory = None
rule_fault_carries rule.PriorityRange = None
rule_fault_carries (rule.FieldTooWide place) = Some place
rule_fault_carries (rule.MaskTooLong place) = Some place
rule_fault_carries (rule.EmptyRange place) = Some place

-- the rule isn't lawful for the layout
abbrev pub rule_fault_text : RuleFault → List ℕ
rule_fault_text fault =
    fault_text (codes "refused rule ") (rule_fault_number fault) (rule_fault_carries fault)

-- numbers, each after a space
abbrev pub spaced : List ℕ → List ℕ
spaced numbers = flat_map (λ number. space ∷ decimal number) numbers

-- the verdicts of a buffer, separated by single spaces
abbrev pub verdicts_text : List ℕ → List ℕ
verdicts_text [] = line_feed ∷ []
verdicts_text (first ∷ others) = decimal first ++ spaced others ++ line_feed ∷ []
