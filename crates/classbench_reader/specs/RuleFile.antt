-- Rule files: each line that isn't skipped is a rule, and the first that is none is the fault of
-- the file.
use Rattle.std.specs.Prelude.{ℕ, ◌+◌, not, nat_lt, if◌then◌else◌, List, [], ◌∷◌, length, map}
use Rattle.std.specs.Prelude.{filter, Result, Ok, Err}
use Rattle.std.specs.List.{enumerate_from}
use Rattle.field_defs.specs.declared.field.Family.{Family}
use Rattle.field_defs.specs.declared.field.Family.TheVariants as family
use Rattle.table_sizes.specs.Sizes.{max_rules}
use Rattle.rule_set.specs.Rule.{RuleView}
use Rattle.text_scan.specs.Parts.{lines_of}
use Rattle.classbench_reader.specs.declared.rules_fault.LineFault.{LineFault}
use Rattle.classbench_reader.specs.declared.rules_fault.LineKind.{LineKind}
use Rattle.classbench_reader.specs.declared.rules_fault.LineKind.TheVariants.{FileTooLong, TooManyRules}
use Rattle.classbench_reader.specs.declared.line.RuleLine.{RuleLine}
use Rattle.classbench_reader.specs.Limits.{max_rule_file}
use Rattle.classbench_reader.specs.Line.{is_skipped, rule_line_of, rule_of, family_of_line}
use Rattle.classbench_reader.specs.Line.{same_family}

-- the rules of a file by family, each list in the order of the lines
pub record RuleLists : Type 0 where
  pub ip4 : List RuleView
  pub ip6 : List RuleView

-- the lines that aren't skipped, each with its number in the file, where the first of `lines` has
-- the number
abbrev pub numbered_from : ℕ → List (List ℕ) → List (ℕ × List ℕ)
numbered_from number lines = filter (λ line. not (is_skipped line.1)) (enumerate_from number lines)

-- what a line says as the rule of an ordinal: there may be so many rules and no more
abbrev pub counted_line_of : ℕ → List ℕ → Result RuleLine LineKind
counted_line_of ordinal line =
    if nat_lt max_rules ordinal then Err TooManyRules else rule_line_of ordinal line

-- what a line says, before what the lines after it say
abbrev pub line_then : ℕ → Result RuleLine LineKind → Result (List RuleLine) LineFault
    → Result (List RuleLine) LineFault
line_then number (Err kind) others = Err (record { line = number; kind = kind })
line_then number (Ok line) (Err fault) = Err fault
line_then number (Ok line) (Ok lines) = Ok (line ∷ lines)

-- what numbered lines say as rules, of which the first has the ordinal
abbrev pub rule_lines_from : ℕ → List (ℕ × List ℕ) → Result (List RuleLine) LineFault
rule_lines_from ordinal [] = Ok []
rule_lines_from ordinal (line ∷ lines) =
    line_then line.0 (counted_line_of ordinal line.1) (rule_lines_from (ordinal + 1) lines)

-- the rules of one family
abbrev pub rules_of_family : Family → List RuleLine → List RuleView
rules_of_family kept lines =
    map rule_of (filter (λ line. same_family (family_of_line line) kept) lines)

-- the rules by family, or the fault
abbrev pub by_family : Result (List RuleLine) LineFault → Result RuleLists LineFault
by_family (Err fault) = Err fault
by_family (Ok lines) =
    Ok (record { ip4 = rules_of_family family.Ip4 lines; ip6 = rules_of_family family.Ip6 lines })

-- the rules of a file, or its first faulty line
abbrev pub rule_file_of : List ℕ → Result RuleLists LineFault
rule_file_of bytes =
    if nat_lt max_rule_file (length bytes) then Err (record { line = 0; kind = FileTooLong })
    else by_family (rule_lines_from 1 (numbered_from 1 (lines_of bytes)))
