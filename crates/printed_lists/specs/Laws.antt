-- What a reader of rule files makes of the text of a list.
use Rattle.std.specs.Prelude.{◌≡◌, ◌≤◌, List, All, length, Ok}
use Rattle.field_defs.specs.declared.field.Family.{Family}
use Rattle.table_sizes.specs.Sizes.{max_rules}
use Rattle.classbench_reader.specs.Limits.{max_rule_file}
use Rattle.classbench_reader.specs.RuleFile.{rule_file_of}
use Rattle.printed_lists.specs.Listed.{LineView, FitsLineTag, IsPrintableLine, list_text, lists_of}
use Rattle.printed_lists.specs.Listed.{rules_of}

-- within the limits of a rule file, the text is one of the list's rules and no others
abbrev pub ReadsBack : Family → List LineView → Type 0
ReadsBack its lines =
    length (rules_of lines) ≤ max_rules → length (list_text its lines) ≤ max_rule_file
    → rule_file_of (list_text its lines) ≡ Ok (lists_of its (rules_of lines))

-- so it is with every list whose rules lines can say
abbrev pub PrintedListsAreFiles : Type 0
PrintedListsAreFiles =
    (its : Family) (lines : List LineView) → All (IsPrintableLine its) lines → All FitsLineTag lines
    → ReadsBack its lines
