-- What `classify` printed: the lines of the capture that was heard, by the rules that were heard.
use Rattle.std.proofs.Common.{◌≡◌, ◌≢◌, ℕ, ◌+◌, List, [], ◌∷◌, ◌++◌, map, Bool, false, Option, Some, None, Result, Ok}
use Rattle.std.proofs.Common.{Err, inl, inr, refl, sym, ap, subst, ◌∙◌, append-nil, arith}
use Rattle.std.specs.Prelude.{codes}
use Rattle.std.specs.List.{enumerate_from, flat_map, range_with_len}
use Rattle.acl_outside.specs.Heard.{Heard, Ended}
use Rattle.classbench_reader.specs.RuleFile.{RuleLists}
use Rattle.field_defs.specs.declared.field.FieldDef.{FieldDef}
use Rattle.field_defs.specs.declared.field.Family.TheVariants.{Ip4 as Ip4Rules, Ip6 as Ip6Rules}
use Rattle.field_defs.specs.Layout.{ip4_fields, ip6_fields}
use Rattle.rule_set.specs.Rule.{RuleView}
use Rattle.header_extract.specs.declared.class.Class.{Class}
use Rattle.header_extract.specs.declared.class.Class.TheVariants.{Ip4, Ip6, Other, Short}
use Rattle.pcap_reader.specs.declared.capture_fault.CaptureFault.{CaptureFault}
use Rattle.pcap_reader.specs.State.{CaptureRecord}
use Rattle.pcapng_reader.specs.Capture.{Recorded, capture_of, records_in, whole_records}
use Rattle.pcapng_reader.proofs.Offered.{whole-last}
use Rattle.acl_report.specs.Packet.{packet_text}
use Rattle.command_words.specs.Options.{Options}
use Rattle.command_words.specs.Command.{command}
use Rattle.command_ending.specs.declared.status.Status.{Status}
use Rattle.command_ending.specs.declared.status.Status.TheVariants.{Done}
use Rattle.command_ending.specs.Plan.{Outcome, Plan, Give, Stop, Read}
use Rattle.command_ending.specs.Follow.{IsEnough, Reached, outcome_of}
use Rattle.command_ending.specs.StepEffects.{EndsMaking, Outside, files_of, heard_of}
use Rattle.capture_report.specs.Classifier.{ByRules, Tables}
use Rattle.capture_report.specs.ReportForm.{ReportForm}
use Rattle.capture_report.specs.Shown.{answer_of_rules, fault_of_capture, packet_of, shown, status_of_fault}
use Rattle.capture_report.specs.Report.{answers_on, lines_of_packets, stats_of, transitions_of_records}
use Rattle.capture_report.specs.CaptureOutcome.{last_lines, report}
use Rattle.capture_report.proofs.Offered.{report_bound}
use Rattle.acl_context.specs.Context.{built_of}
use Rattle.acl_tool.specs.FamilySet.{set_of}
use Rattle.acl_tool.specs.ClassifyPlan.{classify_plan, form_of}
use Rattle.acl_tool.specs.ClassifyWalks.{ClassifyWalks, Walks}
use Rattle.acl_tool.specs.CommandEffects.{Answers}
use Rattle.acl_tool.specs.Headline.{ClassifyPrints, Hears, PrintsVerdicts, answers_by, answers_to, last_lines_to}
use Rattle.acl_tool.specs.Headline.{line_to, lines_to}
use Rattle.acl_tool.specs.GivenOptions.{categories_shown}
use Rattle.acl_tool.proofs.ClassifyAsked.{Asked, asked_words}
use Rattle.acl_tool.proofs.GivenOptions.{SaidBy}
use Rattle.acl_tool.proofs.ClassifyHeard.{Classified, classify_heard}
use Rattle.acl_tool.proofs.ReadOn.{is_told}
use Rattle.acl_tool.proofs.Reported.{lawful_fault, unwritten_fault, report_transitions, report_text, decided_fault}
use Rattle.acl_tool.proofs.Reported.{reported_status, unfull_fault, told_fault, report_status, same_fault}

-- the status of an outcome that a plan gives
abbrev given_status : Plan Outcome → Status
given_status (Give outcome) = outcome.status
given_status (Stop status) = status
given_status (Read name shown next) = Done

-- a capture without a fault is its records
whole_is : (capture : Result Recorded CaptureFault) → fault_of_capture capture ≡ None →
    capture ≡ Ok (record { records = records_in capture; fault = None })
whole_is (Ok capture) none =
    ap (λ (fault : Option CaptureFault). let r : Recorded = record { records = capture.records; fault = fault } in Ok r)
    none
whole_is (Err fault) none = absurd (cc)

-- one byte more after a whole capture is a fault
one_more : (bytes : List ℕ) → fault_of_capture (capture_of bytes) ≡ None →
    fault_of_capture (capture_of (bytes ++ 0 ∷ [])) ≢ None
one_more bytes whole none =
    whole-last bytes 0 (whole_records bytes) (whole_records (bytes ++ 0 ∷ [])) (whole_is (capture_of bytes) whole)
    (whole_is (capture_of (bytes ++ 0 ∷ [])) none)

-- so many categories of a key, with marks or not
abbrev shown_by : List FieldDef → List RuleView → List ℕ → ℕ → Bool → List (Option ℕ)
shown_by layout rules key count marks =
    map (λ category. shown marks (answer_of_rules layout rules key category)) (range_with_len 0 count)

-- what the options ask for is what their words ask for
same_shown : (layout : List FieldDef) (rules : List RuleView) (key : List ℕ) (options : Options)
    (words : List (List ℕ)) → SaidBy words options →
    shown_by layout rules key options.categories options.marks ≡ answers_by layout rules words key
same_shown layout rules key options words is =
    ap (λ (n : ℕ). shown_by layout rules key n options.marks) is.categories
    ∙ ap (λ (b : Bool). shown_by layout rules key (categories_shown words) b) is.marks

-- the answers of the report are those of the rules for the categories that the words ask for
answers_same : (lists : RuleLists) (tables : Tables) (options : Options) (words : List (List ℕ)) (class : Class)
    (key : List ℕ) → SaidBy words options →
    answers_on class (form_of (ByRules lists) tables options) key ≡ answers_to lists words class key
answers_same lists tables options words Ip4 key is = same_shown ip4_fields lists.ip4 key options words is
answers_same lists tables options words Ip6 key is = same_shown ip6_fields lists.ip6 key options words is
answers_same lists tables options words Other key is = refl
answers_same lists tables options words Short key is = refl

-- and its lines are those of the records with these answers
pub lines_same : (lists : RuleLists) (tables : Tables) (options : Options) (words : List (List ℕ)) (number : ℕ)
    (records : List CaptureRecord) → SaidBy words options →
    lines_of_packets (form_of (ByRules lists) tables options) number (map packet_of records)
    ≡ flat_map (λ numbered. line_to lists words numbered.0 numbered.1) (enumerate_from number records)
lines_same lists tables options words number [] is = refl
lines_same lists tables options words number (captured ∷ records) is =
    let packet = packet_of captured in
    ap (λ (answers : List (Option ℕ)). packet_text number packet.class answers
    ++ lines_of_packets (form_of (ByRules lists) tables options) (number + 1) (map packet_of records))
    (answers_same lists tables options words packet.class packet.key is)
    ∙ ap (λ (later : List ℕ). line_to lists words number captured ++ later)
    (lines_same lists tables options words (number + 1) records is)

-- the last lines, of which the line of the counts is the first
last_same : (form : ReportForm) (records : List CaptureRecord) (fault : Option CaptureFault) →
    last_lines form records fault
    ≡ last_lines_to fault records (stats_of form (transitions_of_records form.tables records))
last_same form records None = refl
last_same form records (Some fault) = refl

-- the text of a report, by the words
pub text_same : (lists : RuleLists) (tables : Tables) (options : Options) (words : List (List ℕ)) (bytes : List ℕ)
    (fault : Option CaptureFault) → SaidBy words options → fault_of_capture (capture_of bytes) ≡ fault →
    (report (form_of (ByRules lists) tables options) bytes).text
    ≡ lines_to lists words (whole_records bytes) ++ last_lines_to fault (whole_records bytes)
    (stats_of (form_of (ByRules lists) tables options) (transitions_of_records tables (whole_records bytes)))
text_same lists tables options words bytes fault is ended =
    let form : ReportForm = form_of (ByRules lists) tables options in
    let records = whole_records bytes in
    report_text form (capture_of bytes)
    ∙ ap (λ (l : List ℕ). l ++ last_lines form records (fault_of_capture (capture_of bytes)))
    (lines_same lists tables options words 1 records is)
    ∙ ap (λ (l : List ℕ). lines_to lists words records ++ l)
    (ap (last_lines form records) ended ∙ last_same form records fault)

-- where no more bytes come, or none of them changes the report, the capture ends as it was reported
pub ends_so : (form : ReportForm) (file : Heard) (fault : Option CaptureFault) →
    IsEnough (λ bytes. Give (report form bytes)) file → fault_of_capture (capture_of file.bytes) ≡ fault →
    (more : List ℕ) → (file.ending ≡ Ended → more ≡ []) →
    fault_of_capture (capture_of (file.bytes ++ more)) ≡ fault
ends_so form file fault (inl ended) is more none =
    ap (λ (l : List ℕ). fault_of_capture (capture_of (file.bytes ++ l))) (none ended)
    ∙ ap (λ (l : List ℕ). fault_of_capture (capture_of l)) (append-nil file.bytes)
    ∙ is
ends_so form file fault (inr on) is more none =
    same_fault (fault_of_capture (capture_of (file.bytes ++ more))) fault
    (sym (report_status form (capture_of (file.bytes ++ more)))
    ∙ ap given_status ((on.1) more)
    ∙ report_status form (capture_of file.bytes)
    ∙ ap status_of_fault is)

-- a whole capture was heard to its end, since one byte more is a fault
pub whole_capture : (form : ReportForm) (file : Heard) → IsEnough (λ bytes. Give (report form bytes)) file →
    fault_of_capture (capture_of file.bytes) ≡ None → file.ending ≡ Ended
whole_capture form file (inl ended) is = ended
whole_capture form file (inr on) is =
    absurd (one_more file.bytes is
    (same_fault (fault_of_capture (capture_of (file.bytes ++ 0 ∷ []))) None
    (sym (report_status form (capture_of (file.bytes ++ 0 ∷ [])))
    ∙ ap given_status ((on.1) (0 ∷ []))
    ∙ report_status form (capture_of file.bytes)
    ∙ ap status_of_fault is)))

-- what isn't asked for isn't told
unasked : (form : ReportForm) (transitions : ℕ) → form.stats ≡ false → stats_of form transitions ≡ []
unasked form transitions off = rw off refl

-- What a `classify` that ended with a report heard and reached, and what it took and counted.
pub record ReportedBy (rules capture : List ℕ) (options : Options) (old new : Outside) (fault : Option CaptureFault)
    : Type 0 where
  pub reached : Reached Outcome
  pub heard : Classified rules capture options (heard_of old.desk) (heard_of new.desk) reached
  pub ended : fault_of_capture (capture_of heard.file.bytes) ≡ fault
  pub taken : new.out.taken
      ≡ old.out.taken ++ (report (form_of (ByRules heard.lists) heard.tables options) heard.file.bytes).text
  pub steps : new.steps
      ≡ old.steps + (report (form_of (ByRules heard.lists) heard.tables options) heard.file.bytes).transitions

-- a `classify` that ended with a report heard, took and counted so
pub reported_by : (rules capture : List ℕ) (options : Options) (old new : Outside) (fault : Option CaptureFault) →
    EndsMaking None (classify_plan rules capture options) old new (status_of_fault fault) →
    ReportedBy rules capture options old new fault
reported_by rules capture options old new fault ends =
    let same = reported_status fault (outcome_of ends.reached).status ends.ended in
    let c = classify_heard rules capture options (files_of old.desk) (heard_of old.desk) (heard_of new.desk)
    ends.reached ends.follows (ap is_told (sym same) ∙ told_fault fault) in
    let form : ReportForm = form_of (ByRules c.lists) c.tables options in
    let outcome : outcome_of ends.reached ≡ report form c.file.bytes = ap outcome_of c.is in
    let gains = ends.text (unwritten_fault fault) (unfull_fault fault) in
    record {
      reached = ends.reached;
      heard = c;
      ended =
          same_fault (fault_of_capture (capture_of c.file.bytes)) fault
          (sym (report_status form (capture_of c.file.bytes))
          ∙ ap (λ (o : Outcome). o.status) (sym outcome)
          ∙ sym same);
      taken = gains.taken ∙ ap (λ (o : Outcome). old.out.taken ++ o.text) outcome;
      steps = ends.steps (decided_fault fault) ∙ ap (λ (o : Outcome). old.steps + o.transitions) outcome;
    }

-- what it heard, by its words
abbrev pub heard_by : (words : List (List ℕ)) (old new : Outside) (fault : Option CaptureFault)
    (asked : Asked words old new (status_of_fault fault)) →
    ReportedBy asked.rules asked.capture asked.read old new fault → Hears words (heard_of old.desk) (heard_of new.desk)
heard_by words old new fault asked by = record {
  rule_file = by.heard.rule_file;
  capture = by.heard.file;
  options = asked.options;
  rules = by.heard.lists;
  named =
      asked.is
      ∙ ap (λ (name : List ℕ). codes "classify" ∷ name ∷ asked.capture ∷ asked.options) (sym by.heard.rules_named)
      ∙ ap (λ (name : List ℕ). codes "classify" ∷ by.heard.rule_file.name ∷ name ∷ asked.options)
      (sym by.heard.named);
  once = by.heard.newest;
  whole = by.heard.whole;
  accepted = by.heard.accepted;
}

-- A `classify` that ended with a report printed so.
prints_so : (words : List (List ℕ)) (old new : Outside) (fault : Option CaptureFault)
    (asked : Asked words old new (status_of_fault fault)) →
    ReportedBy asked.rules asked.capture asked.read old new fault →
    PrintsVerdicts words fault (heard_of old.desk) (heard_of new.desk) old.out.taken new.out.taken
prints_so words old new fault asked by =
    let c = by.heard in
    let form : ReportForm = form_of (ByRules c.lists) c.tables asked.read in
    let transitions = transitions_of_records c.tables (whole_records c.file.bytes) in
    record {
      heard = heard_by words old new fault asked by;
      stats = stats_of form transitions;
      is_last = λ none. whole_capture form c.file c.enough (by.ended ∙ none);
      refused = ends_so form c.file fault c.enough by.ended;
      taken =
          by.taken
          ∙ ap (λ (l : List ℕ). old.out.taken ++ l)
          (text_same c.lists c.tables asked.read asked.options c.file.bytes fault asked.said by.ended);
      no_stats = λ off. unasked form transitions (asked.said.stats ∙ off);
    }

-- And it walked so.
walks_so : (words : List (List ℕ)) (old new : Outside) (fault : Option CaptureFault)
    (asked : Asked words old new (status_of_fault fault)) →
    ReportedBy asked.rules asked.capture asked.read old new fault →
    Walks words (heard_of old.desk) (heard_of new.desk) old.steps new.steps
walks_so words old new fault asked by =
    let c = by.heard in
    let form : ReportForm = form_of (ByRules c.lists) c.tables asked.read in
    record {
      heard = heard_by words old new fault asked by;
      tables = c.tables;
      ip4 = c.ip4_is ∙ ap (λ (budget : ℕ). built_of (set_of Ip4Rules c.lists) budget) asked.said.max_words;
      ip6 = c.ip6_is ∙ ap (λ (budget : ℕ). built_of (set_of Ip6Rules c.lists) budget) asked.said.max_words;
      steps = by.steps ∙ ap (λ (n : ℕ). old.steps + n) (report_transitions form (capture_of c.file.bytes));
      bound = omega (arith, by.steps, report_bound form c.file.bytes);
    }

-- what was asked for by a `classify` that ended with a report
pub asked_of : (words : List (List ℕ)) (old new : Outside) (status : Status) → Answers (command words) old new status →
    (after : List (List ℕ)) (fault : Option CaptureFault) → words ≡ codes "classify" ∷ after →
    status ≡ status_of_fault fault → Asked words old new (status_of_fault fault)
asked_of words old new status answers after fault is ends =
    asked_words words old new (status_of_fault fault)
    (subst (λ (s : Status). Answers (command words) old new s) ends answers) (lawful_fault fault) after is

-- Wherever `classify` ends with a report, it printed so.
pub classify_prints : (words : List (List ℕ)) (old new : Outside) (status : Status) →
    Answers (command words) old new status →
    ClassifyPrints words status (heard_of old.desk) (heard_of new.desk) old.out.taken new.out.taken
classify_prints words old new status answers after fault is ends =
    let asked = asked_of words old new status answers after fault is ends in
    prints_so words old new fault asked
    (reported_by asked.rules asked.capture asked.read old new fault asked.ends)

-- And it walked so.
pub classify_walks : (words : List (List ℕ)) (old new : Outside) (status : Status) →
    Answers (command words) old new status →
    ClassifyWalks words status (heard_of old.desk) (heard_of new.desk) old.steps new.steps
classify_walks words old new status answers after fault is ends =
    let asked = asked_of words old new status answers after fault is ends in
    walks_so words old new fault asked
    (reported_by asked.rules asked.capture asked.read old new fault asked.ends)
