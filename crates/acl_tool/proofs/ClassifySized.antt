-- How large the tables were of which `classify` tells, and when rules were too large.
use Rattle.std.proofs.Common.{◌≡◌, ℕ, ◌+◌, ◌<◌, List, ◌∷◌, ◌++◌, length, map, Bool, true, false, Option, Some, None}
use Rattle.std.proofs.Common.{Result, Ok, Err, refl, sym, ap, subst, ◌∙◌, append-nil}
use Rattle.std.proofs.lemmas.List.{length-map}
use Rattle.std.specs.Prelude.{codes, nat_le, if◌then◌else◌}
use Rattle.std.proofs.lemmas.Bool.{false≢true, leb-false}
use Rattle.field_defs.specs.declared.field.Family.{Family}
use Rattle.field_defs.specs.declared.field.Family.TheVariants.{Ip4, Ip6}
use Rattle.rule_set.specs.Rule.{RuleSetView}
use Rattle.group_states.specs.Levels.{levels_of}
use Rattle.rule_split.specs.Split.{groups_of, total_of}
use Rattle.flat_table.specs.Table.{TableView, words_of}
use Rattle.table_fill.specs.Filled.{filled, table_of_tries}
use Rattle.acl_context.specs.Context.{built_of}
use Rattle.acl_outside.specs.Desk.{File}
use Rattle.acl_outside.specs.Heard.{Heard, Ended}
use Rattle.classbench_reader.specs.RuleFile.{RuleLists, rule_file_of}
use Rattle.pcap_reader.specs.declared.capture_fault.CaptureFault.{CaptureFault}
use Rattle.pcapng_reader.specs.Capture.{capture_of, whole_records}
use Rattle.acl_report.specs.Tables.{table_text, transitions_text}
use Rattle.command_words.specs.Options.{Options}
use Rattle.command_words.specs.Command.{command}
use Rattle.command_ending.specs.declared.status.Status.{Status}
use Rattle.command_ending.specs.declared.status.Status.TheVariants.{RulesRefused, TooLarge}
use Rattle.command_ending.specs.Plan.{Outcome, Plan, Give, Stop, ◌>>=◌, nothing, unless_refused}
use Rattle.command_ending.specs.Follow.{Reached, Stopped, Follows, outcome_of}
use Rattle.command_ending.specs.StepEffects.{Outside, files_of, heard_of}
use Rattle.capture_report.specs.Classifier.{ByRules, Tables}
use Rattle.capture_report.specs.ReportForm.{ReportForm}
use Rattle.capture_report.specs.Shown.{fault_of_capture, status_of_fault}
use Rattle.capture_report.specs.Report.{line_of_table, stats_of, stats_text, transitions_of_records}
use Rattle.capture_report.specs.CaptureOutcome.{lines_so_far, report, reported}
use Rattle.acl_tool.specs.Built.{WordsAreTotals}
use Rattle.acl_tool.specs.FamilySet.{set_of}
use Rattle.acl_tool.specs.RuleTables.{rules_of_bytes, table_within}
use Rattle.acl_tool.specs.ClassifyPlan.{classify_plan, form_of}
use Rattle.acl_tool.specs.CommandEffects.{Answers}
use Rattle.acl_tool.specs.Headline.{last_lines_to, lines_to}
use Rattle.acl_tool.specs.ClassifySizes.{ClassifySizes, NeedsMore, TellsSizes, size_line}
use Rattle.acl_tool.specs.GivenBudget.{budget_given}
use Rattle.table_fill.proofs.Offered.{length-roots}
use Rattle.acl_tool.proofs.ClassifyAsked.{Asked, asked_words}
use Rattle.acl_tool.proofs.ReadOn.{accepted_rules, read_on, unless_on}
use Rattle.acl_tool.proofs.ClassifyHeard.{after_bytes, after_rules}
use Rattle.acl_tool.proofs.ClassifyTold.{ReportedBy, asked_of, heard_by, reported_by, text_same}
use Rattle.acl_tool.proofs.Reported.{report_status, report_transitions}
use Rattle.acl_tool.proofs.WholeRules.{whole_by}
use Rattle.acl_tool.proofs.TooLarge.{large_test, large_status, family_in, same_family, budget_in, is_large, words_in}
use Rattle.acl_tool.proofs.TooLarge.{small_rules}

-- a plan stops at rules that are too large
abbrev pub stops_large : Plan Outcome → Bool
stops_large (Stop status) = is_large status
stops_large plan = false

-- a command with a report doesn't say that rules are too large
small_report : (fault : Option CaptureFault) → is_large (status_of_fault fault) ≡ false
small_report None = refl
small_report (Some fault) = refl

-- a table has as many rules as its set
built_rules : (set : RuleSetView) (budget : ℕ) → (built_of set budget).rules ≡ length set.rules
unfolding filled table_of_tries
built_rules set budget = refl

-- and a trie for each group of the split
built_tries : (set : RuleSetView) (budget : ℕ) → length (built_of set budget).roots ≡ length (groups_of set budget)
unfolding filled table_of_tries
built_tries set budget =
    length-roots 0 (map (levels_of set) (groups_of set budget)) ∙ length-map (groups_of set budget) (levels_of set)

-- the line of a table is that of its sizes
size_line_is : (family : Family) (lists : RuleLists) (budget : ℕ) (table : TableView) →
    table ≡ built_of (set_of family lists) budget → WordsAreTotals lists budget →
    line_of_table family table ≡ size_line family lists budget
size_line_is family lists budget table is totals =
    let set = set_of family lists in
    ap (line_of_table family) is
    ∙ ap (λ (n : ℕ). table_text family n (length (built_of set budget).roots) (words_of (built_of set budget)))
    (built_rules set budget)
    ∙ ap (λ (n : ℕ). table_text family (length set.rules) n (words_of (built_of set budget))) (built_tries set budget)
    ∙ ap (λ (n : ℕ). table_text family (length set.rules) (length (groups_of set budget)) n) (totals family)

-- a total that is above the budget is told so
table_large : (budget : ℕ) (family : Family) (lists : RuleLists) (status : Status) →
    table_within budget family lists ≡ Err status →
    (status ≡ TooLarge family (total_of (set_of family lists) budget) budget)
    × (budget < total_of (set_of family lists) budget)
table_large budget family lists status is = go (nat_le (total_of (set_of family lists) budget) budget) refl is
  where
    go : (fits : Bool) → nat_le (total_of (set_of family lists) budget) budget ≡ fits →
        (if fits then Ok (built_of (set_of family lists) budget)
        else Err (TooLarge family (total_of (set_of family lists) budget) budget)) ≡ Err status →
        (status ≡ TooLarge family (total_of (set_of family lists) budget) budget)
        × (budget < total_of (set_of family lists) budget)
    go true at e = absurd (cc)
    go false at e = (cc, leb-false (total_of (set_of family lists) budget) budget at)

-- A `classify` that had its rules stopped since a table was too large, and heard nothing more.
record StopsLarge (options : Options) (capture : List ℕ) (lists : RuleLists) (old new : List Heard)
    (reached : Reached Outcome) : Type 0 where
  family : Family
  stops : stops_large (after_rules options capture lists) ≡ true
  no_more : new ≡ old
  is : reached ≡ Stopped (TooLarge family (total_of (set_of family lists) options.max_words) options.max_words)
  above : options.max_words < total_of (set_of family lists) options.max_words

-- only a table that is too large ends it with such a status
large_tables : (options : Options) (capture : List ℕ) (lists : RuleLists) (told : Option (List File))
    (old new : List Heard) (reached : Reached Outcome) → is_large (outcome_of reached).status ≡ true →
    Follows told (after_rules options capture lists) old new reached →
    StopsLarge options capture lists old new reached
large_tables options capture lists told old new reached large follows =
    go (table_within options.max_words Ip4 lists) (table_within options.max_words Ip6 lists) refl refl follows
  where
    stopped : (family : Family) (refusal : Status) → table_within options.max_words family lists ≡ Err refusal →
        stops_large (after_rules options capture lists) ≡ is_large refusal →
        (new ≡ old) × (reached ≡ Stopped refusal) → StopsLarge options capture lists old new reached
    stopped family refusal at stops rest =
        let all = table_large options.max_words family lists refusal at in
        record {
          family = family;
          stops = stops ∙ ap is_large (all.0);
          no_more = rest.0;
          is = rest.1 ∙ ap Stopped (all.0);
          above = all.1;
        }

    go : (one two : Result TableView Status) → table_within options.max_words Ip4 lists ≡ one →
        table_within options.max_words Ip6 lists ≡ two →
        Follows told
        ((unless_refused one >>= λ ip4. unless_refused two >>= λ ip6. Give (record { ip4 = ip4; ip6 = ip6 }))
        >>= λ tables. reported (form_of (ByRules lists) tables options) capture)
        old new reached → StopsLarge options capture lists old new reached
    go (Ok ip4) (Ok ip6) at_ip4 at_ip6 rest =
        let tables : Tables = record { ip4 = ip4; ip6 = ip6 } in
        let form : ReportForm = form_of (ByRules lists) tables options in
        let second = read_on is_large large_test told capture (lines_so_far form) (λ bytes. Give (report form bytes))
        old new reached rest large in
        let ended : (outcome_of reached).status ≡ status_of_fault (fault_of_capture (capture_of second.file.bytes)) =
        ap (λ (r : Reached Outcome). (outcome_of r).status) (second.rest.1)
        ∙ report_status form (capture_of second.file.bytes) in
        absurd (false≢true (sym (small_report (fault_of_capture (capture_of second.file.bytes)))
        ∙ ap is_large (sym ended) ∙ large))
    go (Ok ip4) (Err refusal) at_ip4 at_ip6 rest = stopped Ip6 refusal at_ip6 (rw (at_ip4, at_ip6) refl) rest
    go (Err refusal) two at_ip4 at_ip6 rest = stopped Ip4 refusal at_ip4 (rw at_ip4 refl) rest

-- What a `classify` heard whose rules are too large.
record Large (rules capture : List ℕ) (options : Options) (old new : List Heard) (reached : Reached Outcome)
    : Type 0 where
  rule_file : Heard
  lists : RuleLists
  named : rule_file.name ≡ rules
  whole : rule_file.ending ≡ Ended
  accepted : rule_file_of rule_file.bytes ≡ Ok lists
  tables : StopsLarge options capture lists (rule_file ∷ old) new reached

-- A `classify` whose rules are too large read the rule file alone.
large_heard : (rules capture : List ℕ) (options : Options) (told : Option (List File)) (old new : List Heard)
    (reached : Reached Outcome) → is_large (outcome_of reached).status ≡ true →
    Follows told (classify_plan rules capture options) old new reached → Large rules capture options old new reached
large_heard rules capture options told old new reached large follows =
    let first = read_on is_large large_test told rules nothing (after_bytes options capture) old new reached follows
    large in
    let (lists, accepted, rest) =
    unless_on is_large told (rules_of_bytes RulesRefused first.file.bytes) (after_rules options capture)
    (first.file ∷ old) new reached first.rest large
    (λ refusal e. small_rules (rule_file_of first.file.bytes) refusal e) in
    let tables = large_tables options capture lists told (first.file ∷ old) new reached large rest in
    record {
      rule_file = first.file;
      lists = lists;
      named = first.named;
      whole = whole_by stops_large RulesRefused (λ fault. refl) (after_rules options capture) first.file lists accepted
          tables.stops first.enough;
      accepted = accepted_rules (rule_file_of first.file.bytes) lists accepted;
      tables = tables;
    }

-- where sizes are asked for, the last lines are those of the tables and of the transitions
asked_stats : (form : ReportForm) (transitions : ℕ) → form.stats ≡ true →
    stats_of form transitions ≡ stats_text form.tables transitions
asked_stats form transitions on = rw on refl

-- The lines of the tables are the last that were taken, and that of the transitions tells what was counted.
tells_sizes : (words : List (List ℕ)) (old new : Outside) (asked : Asked words old new (status_of_fault None)) →
    ReportedBy asked.rules asked.capture asked.read old new None →
    TellsSizes words (heard_of old.desk) (heard_of new.desk) old.out.taken new.out.taken old.steps new.steps
tells_sizes words old new asked by =
    let c = by.heard in
    let form : ReportForm = form_of (ByRules c.lists) c.tables asked.read in
    let records = whole_records c.file.bytes in
    let transitions = transitions_of_records c.tables records in
    let budget = budget_given asked.options in
    let lines = lines_to c.lists asked.options records in
    let totals : WordsAreTotals c.lists budget =
    subst (λ (n : ℕ). WordsAreTotals c.lists n) asked.said.max_words
    (asked.totals refl c.rule_file c.file c.lists c.newest c.accepted) in
    let ip4 = size_line_is Ip4 c.lists budget c.tables.ip4
    (c.ip4_is ∙ ap (λ (n : ℕ). built_of (set_of Ip4 c.lists) n) asked.said.max_words) totals in
    let ip6 = size_line_is Ip6 c.lists budget c.tables.ip6
    (c.ip6_is ∙ ap (λ (n : ℕ). built_of (set_of Ip6 c.lists) n) asked.said.max_words) totals in
    record {
      heard = heard_by words old new None asked by;
      transitions = transitions;
      counted = by.steps ∙ ap (λ (n : ℕ). old.steps + n) (report_transitions form (capture_of c.file.bytes));
      taken = λ on.
          by.taken
          ∙ ap (λ (l : List ℕ). old.out.taken ++ l)
          (text_same c.lists c.tables asked.read asked.options c.file.bytes None asked.said by.ended
          ∙ ap (λ (l : List ℕ). lines ++ last_lines_to None records l)
          (asked_stats form transitions (asked.said.stats ∙ on)
          ∙ ap (λ (l : List ℕ). l ++ line_of_table Ip6 c.tables.ip6 ++ transitions_text transitions) ip4
          ∙ ap (λ (l : List ℕ). size_line Ip4 c.lists budget ++ l ++ transitions_text transitions) ip6));
    }

-- a `classify` whose rules are too large says how many words they need
needs_more : (words : List (List ℕ)) (old new : Outside) (family : Family) (size budget : ℕ) →
    Asked words old new (TooLarge family size budget) →
    NeedsMore words family size budget (heard_of old.desk) (heard_of new.desk) old.out.taken new.out.taken
needs_more words old new family size budget asked =
    let ends = asked.ends in
    let same = large_status family size budget (outcome_of ends.reached).status ends.ended in
    let l = large_heard asked.rules asked.capture asked.read (files_of old.desk) (heard_of old.desk)
    (heard_of new.desk) ends.reached (sym (ap is_large same)) ends.follows in
    let t = l.tables in
    let says = same ∙ ap (λ (r : Reached Outcome). (outcome_of r).status) t.is in
    let its : t.family ≡ family = same_family t.family family (sym (ap family_in says)) in
    let most : budget ≡ asked.read.max_words = ap budget_in says in
    let gains = ends.text (λ e. absurd (cc)) (λ e. absurd (cc)) in
    record {
      rule_file = l.rule_file;
      capture = asked.capture;
      options = asked.options;
      rules = l.lists;
      named =
          asked.is
          ∙ ap (λ (name : List ℕ). codes "classify" ∷ name ∷ asked.capture ∷ asked.options) (sym l.named);
      once = t.no_more;
      whole = l.whole;
      accepted = l.accepted;
      given = most ∙ asked.said.max_words;
      total =
          ap words_in says
          ∙ ap (λ (f : Family). total_of (set_of f l.lists) asked.read.max_words) its
          ∙ ap (λ (n : ℕ). total_of (set_of family l.lists) n) (sym most);
      above = subst (λ (n : ℕ). budget < n) (sym (ap words_in says))
          (subst (λ (n : ℕ). n < total_of (set_of t.family l.lists) asked.read.max_words) (sym most) t.above);
      taken =
          gains.taken
          ∙ ap (λ (r : Reached Outcome). old.out.taken ++ (outcome_of r).text) t.is
          ∙ append-nil old.out.taken;
    }

-- a `classify` tells how large its tables are, or that its rules are too large
pub classify_sizes : (words : List (List ℕ)) (old new : Outside) (status : Status) →
    Answers (command words) old new status →
    ClassifySizes words status (heard_of old.desk) (heard_of new.desk) old.out.taken new.out.taken old.steps new.steps
classify_sizes words old new status answers = record {
  tells = λ after is done.
      let asked = asked_of words old new status answers after None is done in
      tells_sizes words old new asked (reported_by asked.rules asked.capture asked.read old new None asked.ends);
  needs_more = λ after family size budget is large.
      needs_more words old new family size budget
      (asked_words words old new (TooLarge family size budget)
      (subst (λ (s : Status). Answers (command words) old new s) large answers) refl after is);
}
