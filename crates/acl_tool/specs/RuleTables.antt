-- The tables of a rule file, as parts of a plan: the rules of the file, and the table of each
-- family.
use Rattle.std.specs.Prelude.{ℕ, nat_le, if◌then◌else◌, List, Result, Ok, Err}
use Rattle.field_defs.specs.declared.field.Family.{Family}
use Rattle.field_defs.specs.declared.field.Family.TheVariants.{Ip4, Ip6}
use Rattle.rule_split.specs.Split.{total_of}
use Rattle.flat_table.specs.Table.{TableView}
use Rattle.acl_context.specs.Context.{built_of}
use Rattle.classbench_reader.specs.declared.rules_fault.LineFault.{LineFault}
use Rattle.classbench_reader.specs.RuleFile.{RuleLists, rule_file_of}
use Rattle.command_ending.specs.declared.status.Status.{Status}
use Rattle.command_ending.specs.declared.status.Status.TheVariants.{TooLarge}
use Rattle.command_ending.specs.Plan.{◌>>=◌, Plan, Give, reading, unless_refused}
use Rattle.capture_report.specs.Classifier.{Tables}
use Rattle.acl_tool.specs.FamilySet.{set_of}

-- the rules of a file by family, or the status that stands for its fault
abbrev pub refused_rules : (LineFault → Status) → Result RuleLists LineFault →
    Result RuleLists Status
refused_rules refused (Ok lists) = Ok lists
refused_rules refused (Err fault) = Err (refused fault)

-- the rules of the bytes of a rule file
abbrev pub rules_of_bytes : (LineFault → Status) → List ℕ → Result RuleLists Status
rules_of_bytes refused bytes = refused_rules refused (rule_file_of bytes)

-- the rules of the named file, whose fault has this status
abbrev pub rules_in : (LineFault → Status) → List ℕ → Plan RuleLists
rules_in refused name = do
  bytes ← reading name
  unless_refused (rules_of_bytes refused bytes)

-- the table of a family's rules under the budget, or the status that stands for a total above it
abbrev pub table_within : ℕ → Family → RuleLists → Result TableView Status
table_within budget family lists =
    if nat_le (total_of (set_of family lists) budget) budget
    then Ok (built_of (set_of family lists) budget)
    else Err (TooLarge family (total_of (set_of family lists) budget) budget)

-- the tables of both families, of which each has the budget for itself
abbrev pub tables_within : ℕ → RuleLists → Plan Tables
tables_within budget lists = do
  ip4 ← unless_refused (table_within budget Ip4 lists)
  ip6 ← unless_refused (table_within budget Ip6 lists)
  Give (record { ip4 = ip4; ip6 = ip6 })
