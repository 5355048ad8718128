-- What `replay` printed, by what was heard.
use Rattle.std.proofs.Common.{◌≡◌, ℕ, ◌+◌, ◌<◌, List, [], ◌∷◌, ◌++◌, length, length-append, true, false, Option, None}
use Rattle.std.proofs.Common.{Result, Ok, Err, inl, inr, refl, sym, ap, subst, ◌∙◌, arith, Bool}
use Rattle.std.specs.Prelude.{codes}
use Rattle.std.proofs.lemmas.Bool.{false≢true}
use Rattle.table_image.specs.declared.load_fault.ImageFault.{ImageFault}
use Rattle.table_image.specs.Spelling.{PairView}
use Rattle.table_image.specs.ImageReading.{image_of}
use Rattle.table_image.specs.Laws.{longest_image}
use Rattle.table_image.proofs.Offered.{image_within}
use Rattle.acl_outside.specs.Desk.{File}
use Rattle.acl_outside.specs.Heard.{Heard, Ended}
use Rattle.command_words.specs.declared.usage_fault.UsageFault.{UsageFault}
use Rattle.command_words.specs.Options.{Options, for_replay, none_given}
use Rattle.command_words.specs.Command.{asked_by, command, named_of, named_with, options_from, replay_request}
use Rattle.command_ending.specs.declared.status.Status.{Status}
use Rattle.command_ending.specs.declared.status.Status.TheVariants.{ImageRefused}
use Rattle.command_ending.specs.Plan.{◌>>=◌, Outcome, Give, nothing, unless_refused}
use Rattle.command_ending.specs.Follow.{Reached, Given, Follows, IsEnough, outcome_of}
use Rattle.command_ending.specs.StepEffects.{EndsMaking, Outside, files_of, heard_of}
use Rattle.pcap_reader.specs.declared.capture_fault.CaptureFault.{CaptureFault}
use Rattle.pcapng_reader.specs.Capture.{capture_of, whole_records}
use Rattle.capture_report.specs.Classifier.{ByTables, Tables}
use Rattle.capture_report.specs.ReportForm.{ReportForm}
use Rattle.capture_report.specs.CaptureOutcome.{lines_so_far, report, text_of_records}
use Rattle.capture_report.specs.Shown.{fault_of_capture, status_of_fault}
use Rattle.capture_report.proofs.Offered.{report_bound}
use Rattle.acl_tool.specs.BuildPlan.{pair_of}
use Rattle.acl_tool.specs.CommandEffects.{Answers}
use Rattle.acl_tool.specs.ClassifyPlan.{form_of}
use Rattle.acl_tool.specs.ReplayPlan.{refused_image, replay_plan, tables_of_bytes}
use Rattle.acl_tool.specs.ReplayPrints.{PrintsByImage, ReplayPrints}
use Rattle.acl_tool.proofs.Answering.{no_usage}
use Rattle.acl_tool.proofs.ClassifyHeard.{asks}
use Rattle.acl_tool.proofs.ClassifyTold.{ends_so, whole_capture}
use Rattle.acl_tool.proofs.ReadOn.{is_told, longer, read_on, told_test, unless_on}
use Rattle.acl_tool.proofs.Reported.{decided_fault, lawful_fault, report_status, report_text, report_transitions}
use Rattle.acl_tool.proofs.Reported.{reported_status, same_fault, told_fault, unfull_fault, unwritten_fault}
use Rattle.acl_tool.proofs.ReplayEnds.{report_by}

-- What a `replay` that ended with a report heard, and what it reached.
record Replayed (image capture : List ℕ) (options : Options) (old new : List Heard) (reached : Reached Outcome)
    : Type 0 where
  image_file : Heard
  file : Heard
  tables : Tables
  image_named : image_file.name ≡ image
  named : file.name ≡ capture
  newest : new ≡ file ∷ image_file ∷ old
  whole : image_file.ending ≡ Ended
  loaded : image_of image_file.bytes ≡ Ok (pair_of tables)
  enough : IsEnough (λ bytes. Give (report (form_of (ByTables tables) tables options) bytes)) file
  is : reached ≡ Given (report (form_of (ByTables tables) tables options) file.bytes)

-- an image that isn't refused has these tables
pub loaded_tables : (result : Result PairView ImageFault) (tables : Tables) → refused_image result ≡ Ok tables →
    result ≡ Ok (pair_of tables)
loaded_tables (Ok pair) tables is =
    let same : (let made : Tables = record { ip4 = pair.ip4; ip6 = pair.ip6 } in made) ≡ tables = cc in
    ap (λ (t : Tables). let read : Result PairView ImageFault = Ok (pair_of t) in read) same
loaded_tables (Err fault) tables is = absurd (cc)

-- an image that is refused comes without a report
untold_image : (result : Result PairView ImageFault) (status : Status) → refused_image result ≡ Err status →
    is_told status ≡ false
untold_image (Ok pair) status is = absurd (cc)
untold_image (Err fault) status is = let same : ImageRefused fault ≡ status = cc in rw (← same) refl

-- an image that is read isn't all of it where more bytes may come: with enough of them it is refused
never_loaded : (options : Options) (capture bytes long : List ℕ) (tables : Tables) → longest_image < length long →
    tables_of_bytes bytes ≡ Ok tables →
    (unless_refused (tables_of_bytes (bytes ++ long)) >>= report_by options capture)
    ≡ (unless_refused (tables_of_bytes bytes) >>= report_by options capture) → ⊥
never_loaded options capture bytes long tables is_long accepted same = go (image_of (bytes ++ long)) refl
  where
    goes_on : Result Tables Status → Bool
    goes_on result = asks (unless_refused result >>= report_by options capture)

    go : (result : Result PairView ImageFault) → image_of (bytes ++ long) ≡ result → ⊥
    go (Ok pair) at = absurd (omega (arith, image_within (bytes ++ long) pair at, length-append bytes long, is_long))
    go (Err fault) at =
        false≢true (sym (ap (λ r. goes_on (refused_image r)) at) ∙ ap asks same ∙ ap goes_on accepted)

-- an image that was read was read to its end
pub whole_image : (options : Options) (capture : List ℕ) (file : Heard) (tables : Tables) →
    tables_of_bytes file.bytes ≡ Ok tables →
    IsEnough (λ bytes. unless_refused (tables_of_bytes bytes) >>= report_by options capture) file →
    file.ending ≡ Ended
whole_image options capture file tables accepted (inl ended) = ended
whole_image options capture file tables accepted (inr on) =
    let (long, is_long) = longer longest_image in
    absurd (never_loaded options capture file.bytes long tables is_long accepted ((on.1) long))

-- a `replay` that ended with a report heard both files and reached the report
replay_heard : (image capture : List ℕ) (options : Options) (told : Option (List File)) (old new : List Heard)
    (reached : Reached Outcome) → Follows told (replay_plan image capture options) old new reached →
    is_told (outcome_of reached).status ≡ true → Replayed image capture options old new reached
replay_heard image capture options told old new reached follows is =
    let first = read_on is_told told_test told image nothing
    (λ bytes. unless_refused (tables_of_bytes bytes) >>= report_by options capture) old new reached follows is in
    let (tables, accepted, rest) =
    unless_on is_told told (tables_of_bytes first.file.bytes) (report_by options capture)
    (first.file ∷ old) new reached first.rest is
    (λ status e. untold_image (image_of first.file.bytes) status e) in
    let form : ReportForm = form_of (ByTables tables) tables options in
    let second = read_on is_told told_test told capture (lines_so_far form) (λ bytes. Give (report form bytes))
    (first.file ∷ old) new reached rest is in
    record {
      image_file = first.file;
      file = second.file;
      tables = tables;
      image_named = first.named;
      named = second.named;
      newest = second.rest.0;
      whole = whole_image options capture first.file tables accepted first.enough;
      loaded = loaded_tables (image_of first.file.bytes) tables accepted;
      enough = second.enough;
      is = second.rest.1;
    }

-- a `replay` that ended with a report printed so
image_printed : (image capture : List ℕ) (options : List (List ℕ)) (read : Options) (fault : Option CaptureFault)
    (old new : Outside) → options_from for_replay 4 none_given options ≡ Ok read →
    EndsMaking None (replay_plan image capture read) old new (status_of_fault fault) →
    PrintsByImage (codes "replay" ∷ image ∷ capture ∷ options) fault old new
image_printed image capture options read fault old new asked ends =
    let same = reported_status fault (outcome_of ends.reached).status ends.ended in
    let h = replay_heard image capture read (files_of old.desk) (heard_of old.desk) (heard_of new.desk) ends.reached
    ends.follows (ap is_told (sym same) ∙ told_fault fault) in
    let form : ReportForm = form_of (ByTables h.tables) h.tables read in
    let outcome : outcome_of ends.reached ≡ report form h.file.bytes = ap outcome_of h.is in
    let gains = ends.text (unwritten_fault fault) (unfull_fault fault) in
    let steps : new.steps ≡ old.steps + (report form h.file.bytes).transitions =
    ends.steps (decided_fault fault) ∙ ap (λ (o : Outcome). old.steps + o.transitions) outcome in
    let ended : fault_of_capture (capture_of h.file.bytes) ≡ fault =
    same_fault (fault_of_capture (capture_of h.file.bytes)) fault
    (sym (report_status form (capture_of h.file.bytes)) ∙ ap (λ (o : Outcome). o.status) (sym outcome) ∙ sym same) in
    record {
      image = h.image_file;
      capture = h.file;
      options = options;
      read = read;
      tables = h.tables;
      named =
          ap (λ (name : List ℕ). codes "replay" ∷ name ∷ capture ∷ options) (sym h.image_named)
          ∙ ap (λ (name : List ℕ). codes "replay" ∷ h.image_file.name ∷ name ∷ options) (sym h.named);
      asked = asked;
      once = h.newest;
      whole = h.whole;
      loaded = h.loaded;
      is_last = λ none. whole_capture form h.file h.enough (ended ∙ none);
      refused = ends_so form h.file fault h.enough ended;
      taken =
          gains.taken
          ∙ ap (λ (o : Outcome). old.out.taken ++ o.text) outcome
          ∙ ap (λ (l : List ℕ). old.out.taken ++ l) (report_text form (capture_of h.file.bytes))
          ∙ ap (λ (f : Option CaptureFault).
          old.out.taken ++ text_of_records form (whole_records h.file.bytes) f) ended;
      steps = steps ∙ ap (λ (n : ℕ). old.steps + n) (report_transitions form (capture_of h.file.bytes));
      bound = omega (arith, steps, report_bound form h.file.bytes);
    }

-- a `replay` that ended with a report printed by the image of its words
printed_after : (after : List (List ℕ)) (fault : Option CaptureFault) (old new : Outside) →
    Answers (asked_by replay_request (named_of for_replay after)) old new (status_of_fault fault) →
    PrintsByImage (codes "replay" ∷ after) fault old new
printed_after [] fault old new answers = no_usage (status_of_fault fault) _ (lawful_fault fault) answers.usage
printed_after (image ∷ []) fault old new answers =
    no_usage (status_of_fault fault) _ (lawful_fault fault) answers.usage
printed_after (image ∷ capture ∷ words) fault old new answers =
    go (options_from for_replay 4 none_given words) refl answers
  where
    go : (options : Result Options UsageFault) → options_from for_replay 4 none_given words ≡ options →
        Answers (asked_by replay_request (named_with image capture options)) old new (status_of_fault fault) →
        PrintsByImage (codes "replay" ∷ image ∷ capture ∷ words) fault old new
    go (Ok options) at all = image_printed image capture words options fault old new at all.ends
    go (Err usage) at all = no_usage (status_of_fault fault) usage (lawful_fault fault) all.usage

-- Wherever `replay` ends with a report, it printed so.
pub replay_prints : (words : List (List ℕ)) (old new : Outside) (status : Status) →
    Answers (command words) old new status → ReplayPrints words status old new
replay_prints words old new status answers after fault is ended =
    subst (λ (w : List (List ℕ)). PrintsByImage w fault old new) (sym is)
    (printed_after after fault old new
    (subst (λ (s : Status). Answers (command (codes "replay" ∷ after)) old new s) ended
    (subst (λ (w : List (List ℕ)). Answers (command w) old new status) is answers)))
