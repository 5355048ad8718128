-- What `classify` and `replay` put before a fault of the outside, where the desk tells its files.
use Rattle.std.proofs.Common.{◌≡◌, ◌≢◌, ◌⊎◌, ℕ, List, [], ◌∷◌, ◌++◌, Bool, true, false, Option, Some, None, Result, Ok, Err}
use Rattle.std.proofs.Common.{inl, inr, refl, sym, ap, subst, ◌∙◌, append-nil}
use Rattle.std.specs.Prelude.{codes}
use Rattle.std.specs.Option.{option_map}
use Rattle.std.proofs.lemmas.Bool.{false≢true}
use Rattle.acl_outside.specs.Desk.{Content, DeskView, File, bytes_of}
use Rattle.acl_outside.specs.Heard.{Heard, Ending, NotOpened, GoesOn, Ended, BrokenOff}
use Rattle.acl_outside.specs.Sink.{SinkView, Gains}
use Rattle.acl_outside.specs.Together.{HoldsTogether, IsWhole, NewestIsWhole}
use Rattle.acl_outside.proofs.Offered.{whole_where_opened}
use Rattle.classbench_reader.specs.declared.rules_fault.LineFault.{LineFault}
use Rattle.classbench_reader.specs.RuleFile.{RuleLists, rule_file_of}
use Rattle.table_image.specs.declared.load_fault.ImageFault.{ImageFault}
use Rattle.table_image.specs.Spelling.{PairView}
use Rattle.table_image.specs.ImageReading.{image_of}
use Rattle.pcap_reader.specs.declared.capture_fault.CaptureFault.{CaptureFault}
use Rattle.pcapng_reader.specs.Capture.{capture_of, whole_records}
use Rattle.command_words.specs.declared.allowed.Allowed.{Allowed}
use Rattle.command_words.specs.declared.usage_fault.UsageFault.{UsageFault}
use Rattle.command_words.specs.Options.{Options, for_classify, for_replay, none_given}
use Rattle.command_words.specs.Command.{Named, Request, asked_by, classify_request, named_of, named_with, options_from}
use Rattle.command_words.specs.Command.{command, replay_request}
use Rattle.command_ending.specs.declared.status.Status.{Status}
use Rattle.command_ending.specs.declared.status.Status.TheVariants.{OutOfMemory, ReadFault, WriteFault}
use Rattle.command_ending.specs.declared.status.Status.TheVariants.{ImageRefused, RulesRefused}
use Rattle.command_ending.specs.Endings.{is_reported, is_usage}
use Rattle.command_ending.specs.Plan.{Outcome, Plan, Give, Read, ◌>>=◌, nothing, unless_refused}
use Rattle.command_ending.specs.Follow.{Reached, Within, Follows, IsOneOf, IsOpened, opened_by, outcome_of, said}
use Rattle.command_ending.specs.Follow.{said_in, status_within}
use Rattle.command_ending.specs.StepEffects.{EndsMaking, IsOpenIn, KeepsFiles, Outside, earlier_of, files_of, heard_of}
use Rattle.command_ending.specs.StepEffects.{opened_of}
use Rattle.capture_report.specs.Classifier.{ByRules, ByTables}
use Rattle.capture_report.specs.ReportForm.{ReportForm, form_by}
use Rattle.capture_report.specs.Report.{lines_of_records}
use Rattle.capture_report.specs.CaptureOutcome.{lines_so_far, report, reported}
use Rattle.capture_report.specs.PrintsCapture.{KeepsUp}
use Rattle.capture_report.specs.Shown.{fault_of_capture, status_of_fault}
use Rattle.acl_tool.specs.BeforeLeft.{PutsBefore, PutsByRules, PutsByImage, PutsToReadFault, PutsToWriteFault}
use Rattle.acl_tool.specs.BeforeLeft.{ClassifyPutsToFault, ReplayPutsToFault, PrintingPutsToFault}
use Rattle.acl_tool.specs.ClassifyPlan.{classify_plan, form_of}
use Rattle.acl_tool.specs.CommandEffects.{Answers}
use Rattle.acl_tool.specs.ReplayPlan.{refused_image, replay_plan, tables_of_bytes}
use Rattle.acl_tool.specs.RuleTables.{refused_rules, rules_of_bytes}
use Rattle.acl_tool.proofs.Answering.{no_usage}
use Rattle.acl_tool.proofs.ClassifyHeard.{after_bytes, after_rules, whole_rules}
use Rattle.acl_tool.proofs.ClassifyTold.{lines_same}
use Rattle.acl_tool.proofs.GivenOptions.{SaidBy, options_said}
use Rattle.acl_tool.proofs.ReadOn.{IsSmall, ReadsOn, accepted_rules, both_on, unless_on}
use Rattle.acl_tool.proofs.ReplayEnds.{report_by}
use Rattle.acl_tool.proofs.ReplayTold.{loaded_tables, whole_image}
use Rattle.acl_tool.proofs.Reported.{report_status}

-- a status is a read fault
abbrev is_fault : Status → Bool
is_fault ReadFault = true
is_fault status = false

-- where a command stood that ended with a read fault
fault_reached : (status : Status) → (ReadFault ≡ status) ⊎ ((ReadFault ≡ WriteFault) ⊎ (ReadFault ≡ OutOfMemory)) →
    is_fault status ≡ true
fault_reached status (inl is) = ap is_fault (sym is)
fault_reached status (inr (inl written)) = absurd (cc)
fault_reached status (inr (inr full)) = absurd (cc)

-- a report ends with no read fault
no_fault : (fault : Option CaptureFault) → is_fault (status_of_fault fault) ≡ false
no_fault None = refl
no_fault (Some fault) = refl

-- nor do rules that are refused
rules_no_fault : (result : Result RuleLists LineFault) (status : Status) →
    refused_rules RulesRefused result ≡ Err status → is_fault status ≡ false
rules_no_fault (Ok lists) status is = absurd (cc)
rules_no_fault (Err fault) status is = let same : RulesRefused fault ≡ status = cc in rw (← same) refl

-- nor an image that is refused
image_no_fault : (result : Result PairView ImageFault) (status : Status) → refused_image result ≡ Err status →
    is_fault status ≡ false
image_no_fault (Ok pair) status is = absurd (cc)
image_no_fault (Err fault) status is = let same : ImageRefused fault ≡ status = cc in rw (← same) refl

-- nor a total above the budget
small_fault : IsSmall is_fault
small_fault family total budget = refl

-- the opened file that a desk's content tells
opened_is : (desk : DeskView) (content : Content) (name : Option (List ℕ)) → desk.content ≡ Some content →
    opened_of desk ≡ Some name → content.opened ≡ name
opened_is desk content name told is =
    let same : Some content.opened ≡ Some name =
    sym (ap (option_map (λ (c : Content). c.opened)) told) ∙ is in cc

-- where a file is told to be opened, the newest that was heard of is whole
whole_newest : (desk : DeskView) (content : Content) (name : List ℕ) (file : Heard) (files : List Heard) →
    HoldsTogether desk → desk.content ≡ Some content → content.opened ≡ Some name → heard_of desk ≡ file ∷ files →
    IsWhole content file
whole_newest desk content name file files together told opened newest =
    subst (NewestIsWhole content) newest (whole_where_opened desk content name together told opened)

-- a told file that was heard to its end has the bytes that were heard
whole_there : (told : Option (List File)) (files : List File) (name : List ℕ) (file : Heard) → told ≡ Some files →
    file.name ≡ name → IsOneOf told file → file.ending ≡ Ended → bytes_of files name ≡ Some file.bytes
whole_there told files name file at_files named one ended =
    let part = one files at_files (subst IsOpened (sym ended) tt) in
    ap (bytes_of files) (sym named)
    ∙ part.there
    ∙ ap (λ (rest : List ℕ). Some (file.bytes ++ rest)) (part.whole ended)
    ∙ ap Some (append-nil file.bytes)

-- A command was followed into the named file, which is the newest that was heard of.
record IsWithin (shown : List ℕ → List ℕ) (name : List ℕ) (old new : List Heard) (reached : Reached Outcome)
    : Type 0 where
  file : Heard
  named : file.name ≡ name
  newest : new ≡ file ∷ old
  is : reached ≡ Within file (said shown file)

-- a command that ended with a read fault was within the file that it reads, or read it and went on
fault_in : (told : Option (List File)) (name : List ℕ) (shown : List ℕ → List ℕ) (next : List ℕ → Plan Outcome)
    (old new : List Heard) (reached : Reached Outcome) → Follows told (Read name shown next) old new reached →
    is_fault (outcome_of reached).status ≡ true →
    IsWithin shown name old new reached ⊎ ReadsOn told name next old new reached
fault_in told name shown next old new reached (inl before) fault = absurd (false≢true (rw (before.1) at fault))
fault_in told name shown next old new reached (inr (file, named, part, inl within)) fault =
    inl (record { file = file; named = named; newest = within.0; is = within.1 })
fault_in told name shown next old new reached (inr (file, named, part, inr (enough, rest))) fault =
    inr (record { file = file; named = named; part = part; enough = enough; rest = rest })

-- What is known of the outside after a read fault.
record Faulted (old new : Outside) (content : Content) (reached : Reached Outcome) : Type 0 where
  fault : is_fault (outcome_of reached).status ≡ true
  gains : Gains (outcome_of reached).text old.out new.out
  standing : IsOpenIn reached new.desk
  together : HoldsTogether new.desk
  told : new.desk.content ≡ Some content
  files : files_of old.desk ≡ Some content.files

-- a command that ended so
faulted : (plan : Plan Outcome) (old new : Outside) (content : Content)
    (ends : EndsMaking None plan old new ReadFault) →
    HoldsTogether old.desk → new.desk.content ≡ Some content → Faulted old new content ends.reached
faulted plan old new content ends together told =
    let kept : KeepsFiles old.desk new.desk = ends.kept in
    let files : files_of old.desk ≡ Some content.files =
    sym kept.files ∙ ap (option_map (λ (c : Content). c.files)) told in
    record {
      fault = fault_reached (outcome_of ends.reached).status ends.ended;
      gains = ends.text (λ write. absurd (cc)) (λ full. absurd (cc));
      standing = ends.opened content.files files;
      together = kept.together together;
      told = told;
      files = files;
    }

-- nothing is said within a file of which nothing is shown
silent_in : (ending : Ending) → said_in ending [] ≡ []
silent_in NotOpened = refl
silent_in GoesOn = refl
silent_in Ended = refl
silent_in BrokenOff = refl

-- within the first file nothing was put, and the capture isn't opened unless it has the same name
first_puts : (Lines : Type 0) (first capture : List ℕ) (old new : Outside) (content : Content)
    (reached : Reached Outcome) → Faulted old new content reached →
    IsWithin nothing first (heard_of old.desk) (heard_of new.desk) reached →
    PutsToReadFault Lines first capture content old.out new.out
first_puts Lines first capture old new content reached at within =
    let silent : Gains [] old.out new.out =
    subst (λ (text : List ℕ). Gains text old.out new.out)
    (ap (λ (r : Reached Outcome). (outcome_of r).text) within.is ∙ silent_in within.file.ending) at.gains in
    record {
      apart = λ opened other.
          let whole = whole_newest new.desk content capture within.file (heard_of old.desk) at.together at.told
          opened within.newest in
          let same : Some within.file.name ≡ Some capture = sym whole.opened ∙ opened in
          let is : within.file.name ≡ capture = cc in
          absurd (other (sym within.named ∙ is));
      either = λ opened. inr silent;
      unopened = λ isnt. silent;
    }

-- What a report put that ended with a read fault.
record PutsReport (form : ReportForm) (capture : List ℕ) (content : Content) (old new : SinkView) : Type 0 where
  lines : content.opened ≡ Some capture → PutsBefore (lines_of_records form) capture content old new
  unopened : content.opened ≢ Some capture → Gains [] old new

-- what it put within the capture, by how its reading stands
puts_within : (ending : Ending) (form : ReportForm) (capture : List ℕ) (file : Heard) (content : Content)
    (old new : SinkView) → is_fault (status_within ending) ≡ true →
    Gains (said_in ending (lines_so_far form file.bytes)) old new → content.opened ≡ opened_by ending capture →
    (content.opened ≡ Some capture → bytes_of content.files capture ≡ Some (file.bytes ++ content.left)) →
    PutsReport form capture content old new
puts_within NotOpened form capture file content old new fault gains opened bytes = record {
  lines = λ is. absurd (let both = sym opened ∙ is in cc);
  unopened = λ isnt. gains;
}
puts_within GoesOn form capture file content old new fault gains opened bytes = absurd (false≢true fault)
puts_within Ended form capture file content old new fault gains opened bytes = absurd (false≢true fault)
puts_within BrokenOff form capture file content old new fault gains opened bytes = record {
  lines = λ is. record { before = file.bytes; bytes = bytes is; gains = gains };
  unopened = λ isnt. absurd (isnt opened);
}

-- what it put, wherever it ended
report_puts : (form : ReportForm) (capture : List ℕ) (before : List Heard) (old new : Outside) (content : Content)
    (reached : Reached Outcome) → Faulted old new content reached →
    Follows (files_of old.desk) (reported form capture) before (heard_of new.desk) reached →
    PutsReport form capture content old.out new.out
report_puts form capture before old new content reached at follows =
    elim (fault_in (files_of old.desk) capture (lines_so_far form) (λ bytes. Give (report form bytes)) before
    (heard_of new.desk) reached follows at.fault) [
      | inl within ↦
          let told_open : opened_of new.desk ≡ Some (opened_by within.file.ending within.file.name) =
          subst (λ (r : Reached Outcome). IsOpenIn r new.desk) within.is at.standing in
          puts_within within.file.ending form capture within.file content old.out new.out
          (subst (λ (r : Reached Outcome). is_fault (outcome_of r).status ≡ true) within.is at.fault)
          (subst (λ (r : Reached Outcome). Gains (outcome_of r).text old.out new.out) within.is at.gains)
          (opened_is new.desk content (opened_by within.file.ending within.file.name) at.told told_open
          ∙ ap (opened_by within.file.ending) within.named)
          (λ opened. subst (λ (n : List ℕ). bytes_of content.files n ≡ Some (within.file.bytes ++ content.left))
          within.named
          (whole_newest new.desk content capture within.file before at.together at.told opened within.newest).bytes)
      | inr on ↦
          absurd (false≢true (sym (no_fault (fault_of_capture (capture_of on.file.bytes)))
          ∙ ap is_fault (sym (report_status form (capture_of on.file.bytes)))
          ∙ subst (λ (r : Reached Outcome). is_fault (outcome_of r).status ≡ true) (on.rest.1) at.fault))
    ]

-- the same of a command whose first file was read
later_puts : (Lines : Type 0) (form : ReportForm) (first capture : List ℕ) (content : Content) (old new : SinkView) →
    PutsReport form capture content old new → (PutsBefore (lines_of_records form) capture content old new → Lines) →
    PutsToReadFault Lines first capture content old new
later_puts Lines form first capture content old new puts so = record {
  apart = λ opened other. so (puts.lines opened);
  either = λ opened. inl (so (puts.lines opened));
  unopened = puts.unopened;
}

-- a `classify` that read its rules
rules_put : (rules capture : List ℕ) (words : List (List ℕ)) (options : Options) (old new : Outside)
    (content : Content) (reached : Reached Outcome) → SaidBy words options → Faulted old new content reached →
    ReadsOn (files_of old.desk) rules (after_bytes options capture) (heard_of old.desk) (heard_of new.desk) reached →
    PutsToReadFault (PutsByRules rules capture words content old.out new.out) rules capture content old.out new.out
rules_put rules capture words options old new content reached said_by at on =
    let (lists, accepted, rest) =
    unless_on is_fault (files_of old.desk) (rules_of_bytes RulesRefused on.file.bytes) (after_rules options capture)
    (on.file ∷ heard_of old.desk) (heard_of new.desk) reached on.rest at.fault
    (λ status e. rules_no_fault (rule_file_of on.file.bytes) status e) in
    let both =
    both_on is_fault small_fault (files_of old.desk) options.max_words lists
    (λ tables. reported (form_of (ByRules lists) tables options) capture)
    (on.file ∷ heard_of old.desk) (heard_of new.desk) reached rest at.fault in
    let form : ReportForm = form_of (ByRules lists) both.tables options in
    let whole = whole_rules options capture on.file lists both.tables accepted both.within on.enough in
    later_puts (PutsByRules rules capture words content old.out new.out) form rules capture content old.out new.out
    (report_puts form capture (on.file ∷ heard_of old.desk) old new content reached at both.rest)
    (λ puts. record {
      bytes = on.file.bytes;
      lists = lists;
      there = whole_there (files_of old.desk) content.files rules on.file at.files on.named on.part whole;
      accepted = accepted_rules (rule_file_of on.file.bytes) lists accepted;
      puts = record {
        before = puts.before;
        bytes = puts.bytes;
        gains =
            subst (λ (text : List ℕ). Gains text old.out new.out)
            (lines_same lists both.tables options words 1 (whole_records puts.before) said_by) puts.gains;
      };
    })

-- a `replay` that read its image
image_puts : (image capture : List ℕ) (words : List (List ℕ)) (options : Options) (old new : Outside)
    (content : Content) (reached : Reached Outcome) → options_from for_replay 4 none_given words ≡ Ok options →
    Faulted old new content reached →
    ReadsOn (files_of old.desk) image (λ bytes. unless_refused (tables_of_bytes bytes) >>= report_by options capture)
    (heard_of old.desk) (heard_of new.desk) reached →
    PutsToReadFault (PutsByImage image capture words content old.out new.out) image capture content old.out new.out
image_puts image capture words options old new content reached asked at on =
    let (tables, accepted, rest) =
    unless_on is_fault (files_of old.desk) (tables_of_bytes on.file.bytes) (report_by options capture)
    (on.file ∷ heard_of old.desk) (heard_of new.desk) reached on.rest at.fault
    (λ status e. image_no_fault (image_of on.file.bytes) status e) in
    let form : ReportForm = form_of (ByTables tables) tables options in
    let whole = whole_image options capture on.file tables accepted on.enough in
    later_puts (PutsByImage image capture words content old.out new.out) form image capture content old.out new.out
    (report_puts form capture (on.file ∷ heard_of old.desk) old new content reached at rest)
    (λ puts. record {
      bytes = on.file.bytes;
      tables = tables;
      read = options;
      asked = asked;
      there = whole_there (files_of old.desk) content.files image on.file at.files on.named on.part whole;
      loaded = loaded_tables (image_of on.file.bytes) tables accepted;
      puts = puts;
    })

-- after a write fault what keeps up does so with the bytes before what is left
puts_kept_up : (capture : List ℕ) (old new : Outside) (content : Content) → KeepsUp capture old new →
    opened_of new.desk ≡ Some (Some capture) → HoldsTogether new.desk → new.desk.content ≡ Some content →
    PutsToWriteFault capture content old.out new.out
puts_kept_up capture old new content keeps is_open together told =
    let opened = opened_is new.desk content (Some capture) told is_open in
    let whole = whole_newest new.desk content capture keeps.file (earlier_of (heard_of new.desk)) together told opened
    keeps.newest in
    record {
      opened = opened;
      before = keeps.file.bytes;
      bytes = subst (λ (n : List ℕ). bytes_of content.files n ≡ Some (keeps.file.bytes ++ content.left)) keeps.named
          whole.bytes;
      put = keeps.put;
      gains = keeps.gains;
      few = keeps.few;
    }

-- The words of a command of two names were read, and the command was answered.
record NamedBy (ask : Named → Request) (allowed : Allowed) (first second : List ℕ) (words : List (List ℕ))
    (old new : Outside) (status : Status) : Type 0 where
  options : Options
  asked : options_from allowed 4 none_given words ≡ Ok options
  answers : Answers (Ok (ask (record { first = first; second = second; options = options }))) old new status

-- words that end otherwise than with a usage fault were read so
named_by : (ask : Named → Request) (allowed : Allowed) (first second : List ℕ) (words : List (List ℕ))
    (old new : Outside) (status : Status) → is_usage status ≡ false →
    Answers (asked_by ask (named_of allowed (first ∷ second ∷ words))) old new status →
    NamedBy ask allowed first second words old new status
named_by ask allowed first second words old new status lawful answers =
    go (options_from allowed 4 none_given words) refl answers
  where
    go : (options : Result Options UsageFault) → options_from allowed 4 none_given words ≡ options →
        Answers (asked_by ask (named_with first second options)) old new status →
        NamedBy ask allowed first second words old new status
    go (Ok options) at all = record { options = options; asked = at; answers = all }
    go (Err usage) at all = no_usage status usage lawful all.usage

-- after a write fault a command that makes no file put so
written_puts : (plan : Plan Outcome) (capture : List ℕ) (old new : Outside) (content : Content) →
    EndsMaking None plan old new WriteFault → KeepsUp capture old new →
    ((files : List File) → files_of old.desk ≡ Some files → opened_of new.desk ≡ Some (Some capture)) →
    HoldsTogether old.desk → new.desk.content ≡ Some content → PutsToWriteFault capture content old.out new.out
written_puts plan capture old new content ends keeps is_open together told =
    let kept : KeepsFiles old.desk new.desk = ends.kept in
    let files : files_of old.desk ≡ Some content.files =
    sym kept.files ∙ ap (option_map (λ (c : Content). c.files)) told in
    puts_kept_up capture old new content keeps (is_open content.files files) (kept.together together) told

-- a `classify` that ended with a fault of the outside put so
pub classify_puts : ClassifyPutsToFault
classify_puts rules capture words old new err_old err_new status content runs together told =
    let asked : (s : Status) → is_usage s ≡ false → status ≡ s →
    NamedBy classify_request for_classify rules capture words old new s =
    λ s lawful is. named_by classify_request for_classify rules capture words old new s lawful
    (subst (λ (t : Status). Answers (command (codes "classify" ∷ rules ∷ capture ∷ words)) old new t) is
    runs.answers) in (
      λ fault.
          let named = asked ReadFault refl fault in
          let ends = named.answers.ends in
          let at = faulted (classify_plan rules capture named.options) old new content ends together told in
          elim (fault_in (files_of old.desk) rules nothing (after_bytes named.options capture) (heard_of old.desk)
          (heard_of new.desk) ends.reached ends.follows at.fault) [
            | inl within ↦ first_puts (PutsByRules rules capture words content old.out new.out) rules capture old new
                content ends.reached at within
            | inr on ↦ rules_put rules capture words named.options old new content ends.reached
                (options_said for_classify 4 words named.options named.asked) at on
          ],
      λ fault.
          let named = asked WriteFault refl fault in
          written_puts (classify_plan rules capture named.options) capture old new content named.answers.ends
          (named.answers.keeps_up refl) (λ files at. named.answers.opened files at refl) together told,
    )

-- a `replay` that ended with a fault of the outside put so
pub replay_puts : ReplayPutsToFault
replay_puts image capture words old new err_old err_new status content runs together told =
    let asked : (s : Status) → is_usage s ≡ false → status ≡ s →
    NamedBy replay_request for_replay image capture words old new s =
    λ s lawful is. named_by replay_request for_replay image capture words old new s lawful
    (subst (λ (t : Status). Answers (command (codes "replay" ∷ image ∷ capture ∷ words)) old new t) is
    runs.answers) in (
      λ fault.
          let named = asked ReadFault refl fault in
          let ends = named.answers.ends in
          let at = faulted (replay_plan image capture named.options) old new content ends together told in
          elim (fault_in (files_of old.desk) image nothing
          (λ bytes. unless_refused (tables_of_bytes bytes) >>= report_by named.options capture) (heard_of old.desk)
          (heard_of new.desk) ends.reached ends.follows at.fault) [
            | inl within ↦ first_puts (PutsByImage image capture words content old.out new.out) image capture old new
                content ends.reached at within
            | inr on ↦ image_puts image capture words named.options old new content ends.reached named.asked at on
          ],
      λ fault.
          let named = asked WriteFault refl fault in
          written_puts (replay_plan image capture named.options) capture old new content named.answers.ends
          (named.answers.keeps_up refl) (λ files at. named.answers.opened files at refl) together told,
    )

-- a printing that ended with a fault of the outside put so
pub printing_puts : PrintingPutsToFault
printing_puts tables options capture old new status content prints together told =
    let form : ReportForm = form_by (ByTables tables) tables options in
    let reports = prints.by_tables in
    let puts : status ≡ ReadFault → PutsReport form capture content old.out new.out =
    λ fault.
    let ends = subst (λ (s : Status). EndsMaking None (reported form capture) old new s) fault reports.ends in
    report_puts form capture (heard_of old.desk) old new content ends.reached
    (faulted (reported form capture) old new content ends together told) ends.follows in (
      λ fault opened. (puts fault).lines opened,
      λ fault isnt. (puts fault).unopened isnt,
      λ fault.
          written_puts (reported form capture) capture old new content
          (subst (λ (s : Status). EndsMaking None (reported form capture) old new s) fault reports.ends)
          (reports.keeps_up fault) (λ files at. reports.opened files at (ap is_reported fault)) together told,
    )
