-- A `classify` that ended with a report heard both files, and reached the report.
use Rattle.std.proofs.Common.{◌≡◌, ℕ, ◌<◌, ◌≤◌, List, ◌∷◌, ◌++◌, Bool, true, false, Option, Result, Ok, inl, inr}
use Rattle.std.proofs.Common.{sym, ap, ◌∙◌, arith, length, length-append}
use Rattle.std.proofs.lemmas.Bool.{false≢true}
use Rattle.acl_outside.specs.Desk.{File}
use Rattle.acl_outside.specs.Heard.{Heard, Ended}
use Rattle.classbench_reader.specs.declared.rules_fault.LineFault.{LineFault}
use Rattle.classbench_reader.specs.Limits.{max_rule_file}
use Rattle.classbench_reader.specs.RuleFile.{RuleLists, rule_file_of}
use Rattle.field_defs.specs.declared.field.Family.TheVariants.{Ip4, Ip6}
use Rattle.rule_split.specs.Split.{total_of}
use Rattle.acl_context.specs.Context.{built_of}
use Rattle.command_words.specs.Options.{Options}
use Rattle.command_ending.specs.declared.status.Status.{Status}
use Rattle.command_ending.specs.declared.status.Status.TheVariants.{RulesRefused}
use Rattle.command_ending.specs.Plan.{Outcome, Plan, Give, Stop, Read, ◌>>=◌, nothing, unless_refused}
use Rattle.command_ending.specs.Follow.{Reached, Given, Follows, IsEnough, outcome_of}
use Rattle.capture_report.specs.Classifier.{Tables, ByRules}
use Rattle.capture_report.specs.ReportForm.{ReportForm}
use Rattle.capture_report.specs.CaptureOutcome.{lines_so_far, report, reported}
use Rattle.acl_tool.specs.FamilySet.{set_of}
use Rattle.acl_tool.specs.RuleTables.{refused_rules, rules_of_bytes, tables_within}
use Rattle.acl_tool.specs.ClassifyPlan.{classify_plan, form_of}
use Rattle.acl_tool.proofs.RuleFiles.{rule_file_of-long}
use Rattle.acl_tool.proofs.ReadOn.{accepted_rules, both_on, is_told, read_on, told_small, told_test, unless_on, untold_rules}
use Rattle.acl_tool.proofs.ReadOn.{longer}

-- a plan asks for a file
abbrev pub asks : Plan Outcome → Bool
asks (Give value) = false
asks (Stop status) = false
asks (Read name shown next) = true

-- What a `classify` heard that ended with a report, and what it reached.
pub record Classified (rules capture : List ℕ) (options : Options) (old new : List Heard) (reached : Reached Outcome)
    : Type 0 where
  pub rule_file : Heard
  pub file : Heard
  pub lists : RuleLists
  pub tables : Tables
  pub rules_named : rule_file.name ≡ rules
  pub named : file.name ≡ capture
  pub newest : new ≡ file ∷ rule_file ∷ old
  pub whole : rule_file.ending ≡ Ended
  pub accepted : rule_file_of rule_file.bytes ≡ Ok lists
  pub within : tables_within options.max_words lists ≡ Give tables
  pub ip4_is : tables.ip4 ≡ built_of (set_of Ip4 lists) options.max_words
  pub ip6_is : tables.ip6 ≡ built_of (set_of Ip6 lists) options.max_words
  pub ip4_fits : total_of (set_of Ip4 lists) options.max_words ≤ options.max_words
  pub ip6_fits : total_of (set_of Ip6 lists) options.max_words ≤ options.max_words
  pub enough : IsEnough (λ bytes. Give (report (form_of (ByRules lists) tables options) bytes)) file
  pub is : reached ≡ Given (report (form_of (ByRules lists) tables options) file.bytes)

-- what comes after the rules
abbrev pub after_rules : Options → List ℕ → RuleLists → Plan Outcome
after_rules options capture lists =
    tables_within options.max_words lists >>= λ tables. reported (form_of (ByRules lists) tables options) capture

-- what comes after the bytes of the rule file
abbrev pub after_bytes : Options → List ℕ → List ℕ → Plan Outcome
after_bytes options capture bytes = unless_refused (rules_of_bytes RulesRefused bytes) >>= after_rules options capture

-- an accepted rule file isn't all of it where more bytes may come: with enough of them it is too long
never_enough : (options : Options) (capture bytes long : List ℕ) (lists : RuleLists) (tables : Tables) →
    max_rule_file < length long → rules_of_bytes RulesRefused bytes ≡ Ok lists →
    tables_within options.max_words lists ≡ Give tables →
    after_bytes options capture (bytes ++ long) ≡ after_bytes options capture bytes → ⊥
never_enough options capture bytes long lists tables is_long accepted within same =
    let refused = rule_file_of-long (bytes ++ long) (omega (arith, length-append bytes long, is_long)) in
    let stops : asks (after_bytes options capture (bytes ++ long)) ≡ false =
    ap (λ (r : Result RuleLists LineFault). asks (unless_refused (refused_rules RulesRefused r)
    >>= after_rules options capture)) refused in
    let reads : asks (after_bytes options capture bytes) ≡ true =
    ap (λ (r : Result RuleLists Status). asks (unless_refused r >>= after_rules options capture)) accepted
    ∙ ap (λ (plan : Plan Tables). asks (plan >>= λ tables. reported (form_of (ByRules lists) tables options) capture))
    within in
    false≢true (sym stops ∙ ap asks same ∙ reads)

-- a rule file whose rules were accepted and fit was read to its end
pub whole_rules : (options : Options) (capture : List ℕ) (file : Heard) (lists : RuleLists) (tables : Tables) →
    rules_of_bytes RulesRefused file.bytes ≡ Ok lists → tables_within options.max_words lists ≡ Give tables →
    IsEnough (after_bytes options capture) file → file.ending ≡ Ended
whole_rules options capture file lists tables accepted within (inl ended) = ended
whole_rules options capture file lists tables accepted within (inr on) =
    let (long, is_long) = longer max_rule_file in
    absurd (never_enough options capture file.bytes long lists tables is_long accepted within ((on.1) long))

-- A `classify` that ended with a report heard both files, and reached the report.
pub classify_heard : (rules capture : List ℕ) (options : Options) (told : Option (List File)) (old new : List Heard)
    (reached : Reached Outcome) → Follows told (classify_plan rules capture options) old new reached →
    is_told (outcome_of reached).status ≡ true → Classified rules capture options old new reached
classify_heard rules capture options told old new reached follows is =
    let first = read_on is_told told_test told rules nothing (after_bytes options capture) old new reached follows is in
    let (lists, accepted, rest) =
    unless_on is_told told (rules_of_bytes RulesRefused first.file.bytes) (after_rules options capture)
    (first.file ∷ old) new reached first.rest is (λ status e. untold_rules (rule_file_of first.file.bytes) status e) in
    let both =
    both_on is_told told_small told options.max_words lists
    (λ tables. reported (form_of (ByRules lists) tables options) capture)
    (first.file ∷ old) new reached rest is in
    let form : ReportForm = form_of (ByRules lists) both.tables options in
    let second = read_on is_told told_test told capture (lines_so_far form) (λ bytes. Give (report form bytes))
    (first.file ∷ old) new reached both.rest is in
    record {
      rule_file = first.file;
      file = second.file;
      lists = lists;
      tables = both.tables;
      rules_named = first.named;
      named = second.named;
      newest = second.rest.0;
      whole = whole_rules options capture first.file lists both.tables accepted both.within first.enough;
      accepted = accepted_rules (rule_file_of first.file.bytes) lists accepted;
      within = both.within;
      ip4_is = both.ip4_is;
      ip6_is = both.ip6_is;
      ip4_fits = both.ip4_fits;
      ip6_fits = both.ip6_fits;
      enough = second.enough;
      is = second.rest.1;
    }
