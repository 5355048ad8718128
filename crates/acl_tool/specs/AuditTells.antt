-- What `audit` prints, said by itself: of rule lines and least keys, and of what the desk gave and
-- the output took, whatever they are.
use Rattle.std.specs.Prelude.{◌≡◌, ℕ, ◌<◌, ◌+◌, List, ◌∷◌, ◌++◌, length, codes, Ok}
use Rattle.field_defs.specs.declared.field.Family.{Family}
use Rattle.field_defs.specs.declared.field.Family.TheVariants.{Ip4, Ip6}
use Rattle.acl_outside.specs.Heard.{Heard, Ended}
use Rattle.classbench_reader.specs.RuleFile.{RuleLists, rule_file_of}
use Rattle.audit_report.specs.Audit.{audit_text}
use Rattle.command_ending.specs.declared.status.Status.{Status}
use Rattle.command_ending.specs.declared.status.Status.TheVariants.{Done, TooLarge}
use Rattle.command_ending.specs.StepEffects.{Outside, heard_of}
use Rattle.acl_tool.specs.FamilySet.{set_of}
use Rattle.acl_tool.specs.GivenOptions.{categories_shown}
use Rattle.acl_tool.specs.GivenBudget.{budget_given}
use Rattle.acl_tool.specs.AuditMerged.{merged_words}

-- The words of an `audit` name a file, and options may follow. The desk was asked for the file
-- once, and for nothing else. It was read to its end, and its lines are the rules.
pub record HearsRules (words : List (List ℕ)) (old new : Outside) : Type 0 where
  pub rule_file : Heard
  pub options : List (List ℕ)
  pub rules : RuleLists
  pub named : words ≡ codes "audit" ∷ rule_file.name ∷ options
  pub once : heard_of new.desk ≡ rule_file ∷ heard_of old.desk
  pub whole : rule_file.ending ≡ Ended
  pub accepted : rule_file_of rule_file.bytes ≡ Ok rules

-- The output took the lines of the rules of both families: the categories in which each wins, with
-- the least key at which it does, or that it never wins. No transition was taken.
pub record PrintsAudit (words : List (List ℕ)) (old new : Outside) : Type 0 where
  pub heard : HearsRules words old new
  pub taken : new.out.taken ≡ old.out.taken
      ++ audit_text (categories_shown heard.options) (set_of Ip4 heard.rules)
      (set_of Ip6 heard.rules)
  pub steps : new.steps ≡ old.steps

-- The family has rules, whose merged states need more words than the budget, and the words that are
-- told are one more than that. The output took nothing.
pub record AuditNeedsMore (words : List (List ℕ)) (family : Family) (size budget : ℕ)
    (old new : Outside) : Type 0 where
  pub heard : HearsRules words old new
  pub given : budget ≡ budget_given heard.options
  pub some : 0 < length (set_of family heard.rules).rules
  pub above : budget < merged_words (set_of family heard.rules)
  pub told : size ≡ budget + 1
  pub taken : new.out.taken ≡ old.out.taken

-- Wherever `audit` ends with Done, or with rules that are too large, it told so.
pub record AuditTells (words : List (List ℕ)) (status : Status) (old new : Outside)
    : Type 0 where
  pub prints : (after : List (List ℕ)) → words ≡ codes "audit" ∷ after → status ≡ Done →
      PrintsAudit words old new
  pub needs_more : (after : List (List ℕ)) (family : Family) (size budget : ℕ) →
      words ≡ codes "audit" ∷ after → status ≡ TooLarge family size budget →
      AuditNeedsMore words family size budget old new
