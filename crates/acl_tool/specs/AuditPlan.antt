-- What `audit` does.
use Rattle.std.specs.Prelude.{ℕ, List}
use Rattle.command_ending.specs.declared.status.Status.TheVariants.{RulesRefused}
use Rattle.command_ending.specs.Plan.{◌>>=◌, Outcome, Plan, unless_refused}
use Rattle.acl_tool.specs.RuleTables.{rules_in}
use Rattle.acl_tool.specs.Texts.{only_text}
use Rattle.acl_tool.specs.AuditMerged.{audit_of}

-- the lines of an audit are printed, of the rules of a file and in so many categories
abbrev pub audit_plan : List ℕ → ℕ → ℕ → Plan Outcome
audit_plan rules categories max_words = do
  lists ← rules_in RulesRefused rules
  text ← unless_refused (audit_of categories max_words lists)
  only_text text
