-- What the rules of both families tell once all rules of each were merged in one group, or that
-- they need too many words.
use Rattle.std.specs.Prelude.{ℕ, ◌+◌, if◌then◌else◌, List, Result, Ok, Err}
use Rattle.field_defs.specs.declared.field.Family.{Family}
use Rattle.field_defs.specs.declared.field.Family.TheVariants.{Ip4, Ip6}
use Rattle.rule_set.specs.Rule.{RuleSetView}
use Rattle.group_states.specs.Levels.{levels_of}
use Rattle.acl_audit.specs.declared.audit.AuditFault.{AuditFault}
use Rattle.acl_audit.specs.declared.audit.AuditFault.TheVariants as faults
use Rattle.acl_audit.specs.Half.{exceeds}
use Rattle.acl_audit.specs.Least.{all_rules}
use Rattle.audit_report.specs.Audit.{audit_text}
use Rattle.classbench_reader.specs.RuleFile.{RuleLists}
use Rattle.command_ending.specs.declared.status.Status.{Status}
use Rattle.command_ending.specs.declared.status.Status.TheVariants.{TooLarge, OutOfMemory}
use Rattle.acl_tool.specs.FamilySet.{set_of}
use Rattle.acl_tool.specs.Texts.{◌>>=◌}

-- how many words the merged states of all rules of a set need, in one group
abbrev pub merged_words : RuleSetView → ℕ
merged_words set = (levels_of set (all_rules set)).words

-- the rules of a family, unless there are some and they need more words than the budget
abbrev pub merged_within : ℕ → Family → RuleSetView → Result RuleSetView Status
merged_within budget family set =
    if exceeds set budget then Err (TooLarge family (budget + 1) budget) else Ok set

-- the status of an audit of the rules of a family that is refused
abbrev pub audit_refused : Family → AuditFault → Status
audit_refused family (faults.TooLarge words budget) = TooLarge family words budget
audit_refused family faults.OutOfMemory = OutOfMemory

-- the lines of the rules of both families, of which each has the budget for itself
abbrev pub audit_of : ℕ → ℕ → RuleLists → Result (List ℕ) Status
audit_of categories budget lists = do
  ip4 ← merged_within budget Ip4 (set_of Ip4 lists)
  ip6 ← merged_within budget Ip6 (set_of Ip6 lists)
  Ok (audit_text categories ip4 ip6)
