-- How `audit` ends, link by link.
use Rattle.std.proofs.Common.{◌≡◌, ℕ, List, false, None, Ok, Err}
use Rattle.acl_outside.specs.Desk.{File, DeskView}
use Rattle.acl_outside.specs.Sink.{SinkView}
use Rattle.classbench_reader.specs.RuleFile.{RuleLists}
use Rattle.command_words.specs.Command.{Audit}
use Rattle.command_ending.specs.declared.status.Status.{Status}
use Rattle.command_ending.specs.declared.status.Status.TheVariants.{RulesRefused}
use Rattle.command_ending.specs.Plan.{Outcome, Plan}
use Rattle.command_ending.specs.Endings.{is_usage}
use Rattle.command_ending.specs.StepEffects.{Ends, Outside, PutsLast, Takes, outside}
use Rattle.command_ending.proofs.Offered.{BeginsWith-nothing, IsFaithful, faithful_unless, Ends-cut, Ends-then}
use Rattle.acl_tool.specs.RuleTables.{rules_in, rules_of_bytes}
use Rattle.acl_tool.specs.Texts.{Refuses, only_text}
use Rattle.acl_tool.specs.AuditMerged.{audit_of}
use Rattle.acl_tool.specs.AuditPlan.{audit_plan}
use Rattle.acl_tool.specs.CommandEffects.{Answers}
use Rattle.acl_tool.proofs.Answering.{Answers-request}
use Rattle.acl_tool.proofs.RuleFiles.{HasRules, with_rules}
use Rattle.acl_tool.proofs.Texts.{Ends-text, Ends-refused, lawful_put, lawful_refusal, told}

-- what comes after the rules
abbrev pub audit_in : ℕ → ℕ → RuleLists → Plan Outcome
audit_in categories max_words lists = told (audit_of categories max_words lists)

-- what `audit` prints while it reads is the first part of what it prints in all
audit_faithful : (rules : List ℕ) (categories max_words : ℕ) (files : List File) →
    IsFaithful files (audit_plan rules categories max_words)
audit_faithful rules categories max_words files = (
  λ bytes more. BeginsWith-nothing _,
  λ bytes. faithful_unless files (rules_of_bytes RulesRefused bytes) (audit_in categories max_words)
      (λ lists. faithful_unless files (audit_of categories max_words lists) only_text (λ text. tt)),
)

-- a request that ended so
answered : (rules : List ℕ) (categories max_words : ℕ) (old new : Outside) (status : Status) →
    Ends (audit_plan rules categories max_words) old new status → is_usage status ≡ false →
    Answers (Ok (Audit rules categories max_words)) old new status
answered rules categories max_words old new status ends lawful =
    Answers-request (Audit rules categories max_words) old new status
    record {
      faithful = audit_faithful rules categories max_words;
      ends = ends;
      lawful = lawful;
      opened = λ files told reported. tt;
      totals = λ reported. tt;
      image = λ done. tt;
      keeps_up = λ w. tt;
    }

-- the rule file ends the command
pub Audit-no_rules : {X : Type 0} (rules : List ℕ) (categories max_words : ℕ) (seen : X → RuleLists) (old : Outside)
    (desk : DeskView) (status : Status) → Takes (rules_in RulesRefused rules) seen old.desk desk (Err status) →
    Answers (Ok (Audit rules categories max_words)) old (record old { desk = desk }) status
Audit-no_rules rules categories max_words seen old desk status step =
    answered rules categories max_words old (record old { desk = desk }) status
    (Ends-cut None (rules_in RulesRefused rules) seen (audit_in categories max_words) old desk status step) step.lawful

-- the rules are refused, or there is no memory
pub Audit-refused : {X : Type 0} (rules : List ℕ) (categories max_words : ℕ) (seen : X → RuleLists) (old : Outside)
    (status : Status) (has : HasRules rules seen old) → Refuses (audit_of categories max_words (seen has.set)) status →
    Answers (Ok (Audit rules categories max_words)) old (with_rules rules seen old has) status
Audit-refused rules categories max_words seen old status has refuses =
    let view : Outside = with_rules rules seen old has in
    let said = audit_of categories max_words (seen has.set) in
    answered rules categories max_words old view status
    (Ends-then None (rules_in RulesRefused rules) seen (audit_in categories max_words) old view has.desk has.set status
    has.step (Ends-refused said view status refuses)) (lawful_refusal said status refuses)

-- the lines were put
pub Audit-put : {X : Type 0} (rules : List ℕ) (categories max_words : ℕ) (seen : X → RuleLists) (old : Outside)
    (out : SinkView) (text : List ℕ) (status : Status) (has : HasRules rules seen old) →
    audit_of categories max_words (seen has.set) ≡ Ok text → PutsLast text old.out out status →
    Answers (Ok (Audit rules categories max_words)) old (outside has.desk out old.steps) status
Audit-put rules categories max_words seen old out text status has is puts =
    let new : Outside = outside has.desk out old.steps in
    let said = audit_of categories max_words (seen has.set) in
    answered rules categories max_words old new status
    (Ends-then None (rules_in RulesRefused rules) seen (audit_in categories max_words) old new has.desk has.set status
    has.step (Ends-text said text has.desk old.out out old.steps status is puts))
    (lawful_put text old.out out status puts)
