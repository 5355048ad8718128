-- How `classify` ends, link by link.
use Rattle.std.proofs.Common.{◌≡◌, ◌≢◌, ℕ, List, ◌∷◌, length, false, Option, None, Ok, Err, inl, inr, sym, subst, ap}
use Rattle.std.proofs.Common.{◌∙◌, arith}
use Rattle.std.proofs.lemmas.Bool.{false≢true}
use Rattle.acl_outside.specs.Desk.{File, DeskView}
use Rattle.acl_outside.specs.Heard.{Heard}
use Rattle.classbench_reader.specs.RuleFile.{RuleLists, rule_file_of}
use Rattle.command_ending.specs.declared.status.Status.{Status}
use Rattle.command_ending.specs.declared.status.Status.TheVariants.{RulesRefused}
use Rattle.command_words.specs.Options.{Options}
use Rattle.command_words.specs.Command.{Classify}
use Rattle.capture_report.specs.ReportForm.{ReportForm}
use Rattle.capture_report.specs.Classifier.{ByRules, Tables}
use Rattle.capture_report.specs.CaptureOutcome.{reported}
use Rattle.capture_report.specs.PrintsCapture.{Reports}
use Rattle.capture_report.proofs.Offered.{report-begins}
use Rattle.command_ending.specs.Plan.{Outcome, Plan, Give, ◌>>=◌}
use Rattle.command_ending.specs.Endings.{is_reported, is_usage, is_decided}
use Rattle.command_ending.specs.Follow.{Reached, Follows}
use Rattle.command_ending.specs.StepEffects.{Outside, Takes, Ends, files_of, heard_of}
use Rattle.command_ending.proofs.Offered.{BeginsWith-nothing, IsFaithful, faithful_unless, unwritten, Ends-stopped}
use Rattle.command_ending.proofs.Offered.{Ends-full, Ends-cut, Ends-then}
use Rattle.acl_tool.specs.RuleTables.{rules_of_bytes, rules_in, tables_within}
use Rattle.acl_tool.specs.ClassifyPlan.{form_of, classify_plan}
use Rattle.acl_tool.specs.Built.{Refuses, WordsAreTotals}
use Rattle.acl_tool.specs.CommandEffects.{Answers}
use Rattle.acl_tool.specs.ClassifyTotals.{HasTotals}
use Rattle.acl_tool.proofs.Answering.{Answers-request, keeps_up_later}
use Rattle.acl_tool.proofs.RuleFiles.{tables_faithful, with_rules, HasRules, rules_heard}

-- what comes after the tables
abbrev report_by : Options → List ℕ → RuleLists → Tables → Plan Outcome
report_by options capture lists tables = reported (form_of (ByRules lists) tables options) capture

-- what comes after the rules
abbrev report_in : Options → List ℕ → RuleLists → Plan Outcome
report_in options capture lists = tables_within options.max_words lists >>= report_by options capture lists

-- what `classify` prints while it reads is the first part of what it prints in all
classify_faithful : (rules capture : List ℕ) (options : Options) (files : List File) →
    IsFaithful files (classify_plan rules capture options)
classify_faithful rules capture options files = (
  λ bytes more. BeginsWith-nothing _,
  λ bytes. faithful_unless files (rules_of_bytes RulesRefused bytes) (report_in options capture)
      (λ lists. tables_faithful files options.max_words lists (report_by options capture lists)
      (λ tables. (λ front more. report-begins (form_of (ByRules lists) tables options) front more, λ front. tt))),
)

-- a request that ended before its capture was opened
answered_early : (rules capture : List ℕ) (options : Options) (old new : Outside) (status : Status) →
    Ends (classify_plan rules capture options) old new status → is_usage status ≡ false →
    is_reported status ≡ false → Answers (Ok (Classify rules capture options)) old new status
answered_early rules capture options old new status ends lawful unreported =
    Answers-request (Classify rules capture options) old new status
    record {
      faithful = classify_faithful rules capture options;
      ends = ends;
      lawful = lawful;
      opened = λ files told reported. absurd (false≢true (sym unreported ∙ reported));
      totals = λ reported. absurd (false≢true (sym unreported ∙ reported));
      image = λ done. tt;
      keeps_up = λ w. absurd (unwritten status unreported w);
    }

-- the rule file ends the command
pub Answers-no_rules : {X : Type 0} (rules capture : List ℕ) (options : Options) (seen : X → RuleLists)
    (old : Outside) (desk : DeskView) (status : Status) →
    Takes (rules_in RulesRefused rules) seen old.desk desk (Err status) →
    Answers (Ok (Classify rules capture options)) old (record old { desk = desk }) status
Answers-no_rules rules capture options seen old desk status step =
    answered_early rules capture options old (record old { desk = desk }) status
    (Ends-cut None (rules_in RulesRefused rules) seen (report_in options capture) old desk status step) step.lawful
    step.unreported

-- the tables aren't made
pub Answers-no_tables : {X : Type 0} (rules capture : List ℕ) (options : Options) (seen : X → RuleLists)
    (old : Outside) (status : Status) (has : HasRules rules seen old) →
    Refuses options.max_words (seen has.set) status →
    Answers (Ok (Classify rules capture options)) old (with_rules rules seen old has) status
Answers-no_tables rules capture options seen old status has (inr full) =
    let view : Outside = with_rules rules seen old has in
    answered_early rules capture options old view status
    (Ends-then None (rules_in RulesRefused rules) seen (report_in options capture) old view has.desk has.set status
    has.step (subst (Ends (report_in options capture (seen has.set)) view view) (sym full)
    (Ends-full None (report_in options capture (seen has.set)) view)))
    (ap is_usage full) (ap is_reported full)
Answers-no_tables rules capture options seen old status has (inl (family, large, stops)) =
    let view : Outside = with_rules rules seen old has in
    let unreported : is_reported status ≡ false = ap is_reported large.says in
    answered_early rules capture options old view status
    (Ends-then None (rules_in RulesRefused rules) seen (report_in options capture) old view has.desk has.set status
    has.step (subst (λ (plan : Plan Tables).
    Ends (plan >>= report_by options capture (seen has.set)) view view status) (sym stops)
    (Ends-stopped None status view unreported (ap is_decided large.says))))
    (ap is_usage large.says) unreported

-- a file that was heard after others isn't among them
heard_more : (file : Heard) (old : List Heard) → old ≢ file ∷ old
heard_more file old is = omega (arith, ap length is)

-- a report hears the capture alone
heard_before : (form : ReportForm) (name : List ℕ) (told : Option (List File)) (old : List Heard)
    (first rule_file file : Heard) (reached : Reached Outcome) →
    Follows told (reported form name) (first ∷ old) (file ∷ rule_file ∷ old) reached → rule_file ≡ first
heard_before form name told old first rule_file file reached (inl before) =
    absurd (heard_more rule_file old (let e = before.0 in cc))
heard_before form name told old first rule_file file reached (inr (one, named, part, inl within)) =
    let e = within.0 in cc
heard_before form name told old first rule_file file reached (inr (one, named, part, inr (enough, rest))) =
    let e = rest.0 in cc

-- the words of the tables are the totals of the rules that were heard
has_totals : {X : Type 0} (rules capture : List ℕ) (options : Options) (form : ReportForm) (seen : X → RuleLists)
    (old new : Outside) (status : Status) (has : HasRules rules seen old) →
    WordsAreTotals (seen has.set) options.max_words → Reports form capture (with_rules rules seen old has) new status →
    HasTotals (Classify rules capture options) (heard_of old.desk) (heard_of new.desk)
has_totals rules capture options form seen old new status has totals reports rule_file file lists newest accepted =
    let (heard, next, read) = rules_heard rules (files_of old.desk) (heard_of old.desk) (heard_of has.desk)
    has.step.reached (seen has.set) has.step.follows has.step.answer in
    let same = heard_before form capture (files_of has.desk) (heard_of old.desk) heard rule_file file
    reports.ends.reached (rw (next, newest) at (reports.ends.follows)) in
    let lists_same : lists ≡ seen has.set =
    (let e = sym accepted ∙ ap (λ (h : Heard). rule_file_of h.bytes) same ∙ read in cc) in
    subst (λ (l : RuleLists). WordsAreTotals l options.max_words) (sym lists_same) totals

-- the report is printed
pub Answers-reported : {X : Type 0} (rules capture : List ℕ) (options : Options) (seen : X → RuleLists)
    (old new : Outside) (status : Status) (has : HasRules rules seen old) (tables : Tables) →
    tables_within options.max_words (seen has.set) ≡ Give tables → WordsAreTotals (seen has.set) options.max_words →
    Reports (form_of (ByRules (seen has.set)) tables options) capture (with_rules rules seen old has) new status →
    Answers (Ok (Classify rules capture options)) old new status
Answers-reported rules capture options seen old new status has tables within totals reports =
    Answers-request (Classify rules capture options) old new status
    record {
      faithful = classify_faithful rules capture options;
      ends = Ends-then None (rules_in RulesRefused rules) seen (report_in options capture) old new has.desk has.set
          status has.step
          (subst (λ (plan : Plan Tables).
          Ends (plan >>= report_by options capture (seen has.set)) (with_rules rules seen old has) new status)
          (sym within) reports.ends);
      lawful = reports.lawful;
      totals = λ reported. has_totals rules capture options (form_of (ByRules (seen has.set)) tables options)
          seen old new status has totals reports;
      image = λ done. tt;
      opened = λ files told reported. reports.opened files (has.step.kept.files ∙ told) reported;
      keeps_up = λ w. keeps_up_later capture old new has.desk (reports.keeps_up w);
    }
