-- What two rule files come to where they are compared, or why they aren't.
use Rattle.std.specs.Prelude.{ℕ, ◌+◌, ◌++◌, nat_lt, if◌then◌else◌, List, length, Result, Ok, Err}
use Rattle.field_defs.specs.declared.field.Family.{Family}
use Rattle.field_defs.specs.declared.field.Family.TheVariants.{Ip4, Ip6}
use Rattle.table_sizes.specs.Sizes.{max_rules}
use Rattle.rule_set.specs.Rule.{RuleSetView}
use Rattle.acl_audit.specs.declared.compare.CompareFault.{CompareFault}
use Rattle.acl_audit.specs.declared.compare.CompareFault.TheVariants as faults
use Rattle.acl_audit.specs.Compared.{is_too_large}
use Rattle.audit_report.specs.Compare.{compared_text}
use Rattle.classbench_reader.specs.RuleFile.{RuleLists}
use Rattle.command_ending.specs.declared.status.Status.{Status}
use Rattle.command_ending.specs.declared.status.Status.TheVariants.{TooLarge, TooManyTogether, OutOfMemory}
use Rattle.acl_tool.specs.FamilySet.{set_of}
use Rattle.acl_tool.specs.Texts.{◌>>=◌}

-- the line of a family, unless both lists have too many rules together, or their merged states need
-- more words than the budget
abbrev pub compared_within : ℕ → Family → RuleSetView → RuleSetView → Result (List ℕ) Status
compared_within budget family one two =
    if nat_lt max_rules (length one.rules + length two.rules) then Err TooManyTogether
    else if is_too_large one two budget then Err (TooLarge family (budget + 1) budget)
    else Ok (compared_text family one two)

-- the status of a comparison of the rules of a family that is refused
abbrev pub compare_refused : Family → CompareFault → Status
compare_refused family faults.TooManyRules = TooManyTogether
compare_refused family (faults.TooLarge words budget) = TooLarge family words budget
compare_refused family faults.OutOfMemory = OutOfMemory

-- the lines of both families, of which each has the budget for itself
abbrev pub compare_of : ℕ → RuleLists → RuleLists → Result (List ℕ) Status
compare_of budget one two = do
  ip4 ← compared_within budget Ip4 (set_of Ip4 one) (set_of Ip4 two)
  ip6 ← compared_within budget Ip6 (set_of Ip6 one) (set_of Ip6 two)
  Ok (ip4 ++ ip6)
