-- How `replay` ends, link by link.
use Rattle.std.proofs.Common.{◌≡◌, ◌⊎◌, ℕ, List, ◌++◌, length, None, Ok, Err, inl, inr, sym, ap, ◌∙◌}
use Rattle.std.proofs.Common.{arith}
use Rattle.std.proofs.lemmas.Bool.{false≢true}
use Rattle.table_image.specs.declared.version.Version.TheVariants.{One, Two}
use Rattle.table_image.specs.Spelling.{IsImage, PairView}
use Rattle.table_image.proofs.Offered.{image_same}
use Rattle.acl_outside.specs.Desk.{File, DeskView}
use Rattle.command_words.specs.Options.{Options}
use Rattle.command_words.specs.Command.{Replay}
use Rattle.capture_report.specs.Classifier.{ByTables, Tables}
use Rattle.capture_report.specs.CaptureOutcome.{reported}
use Rattle.capture_report.specs.PrintsCapture.{Reports}
use Rattle.capture_report.proofs.Offered.{report-begins}
use Rattle.command_ending.specs.declared.status.Status.{Status}
use Rattle.command_ending.specs.Plan.{Outcome, Plan}
use Rattle.command_ending.specs.StepEffects.{Outside, Takes}
use Rattle.command_ending.proofs.Offered.{BeginsWith-nothing, IsFaithful, faithful_unless, unwritten}
use Rattle.command_ending.proofs.Offered.{Ends-cut, Ends-then}
use Rattle.acl_tool.specs.ClassifyPlan.{form_of}
use Rattle.acl_tool.specs.declared.replay.TheConstants.{IMAGE_CAP}
use Rattle.acl_tool.specs.ReplayPlan.{refused_image, replay_plan, tables_in, tables_of_bytes}
use Rattle.acl_tool.specs.CommandEffects.{Answers}
use Rattle.acl_tool.proofs.Answering.{Answers-request}
use Rattle.acl_tool.proofs.Answering.{keeps_up_later}

-- what comes after the tables
abbrev pub report_by : Options → List ℕ → Tables → Plan Outcome
report_by options capture tables = reported (form_of (ByTables tables) tables options) capture

-- what `replay` prints while it reads is the first part of what it prints in all
replay_faithful : (image capture : List ℕ) (options : Options) (files : List File) →
    IsFaithful files (replay_plan image capture options)
replay_faithful image capture options files = (
  λ bytes more. BeginsWith-nothing _,
  λ bytes. faithful_unless files (tables_of_bytes bytes) (report_by options capture)
      (λ tables. (λ front more. report-begins (form_of (ByTables tables) tables options) front more, λ front. tt)),
)

-- so many bytes tell all that is read of an image
pub tables_of_bytes-more : (front more : List ℕ) → length front ≡ IMAGE_CAP →
    tables_of_bytes (front ++ more) ≡ tables_of_bytes front
tables_of_bytes-more front more long = ap refused_image (image_same front more (omega (arith, long)))

-- the keys of the tables of an image
pub image_keys : (bytes : List ℕ) (pair : PairView) → IsImage One bytes pair ⊎ IsImage Two bytes pair →
    (pair.ip4.key_len ≡ 13) × (pair.ip6.key_len ≡ 37)
image_keys bytes pair (inl is) = (is.ip4.saved.keys, is.ip6.saved.keys)
image_keys bytes pair (inr is) = (is.ip4.saved.keys, is.ip6.saved.keys)

-- the image ends the command
pub Replay-no_image : {X : Type 0} (image capture : List ℕ) (options : Options) (seen : X → Tables) (old : Outside)
    (desk : DeskView) (status : Status) → Takes (tables_in image) seen old.desk desk (Err status) →
    Answers (Ok (Replay image capture options)) old (record old { desk = desk }) status
Replay-no_image image capture options seen old desk status step =
    Answers-request (Replay image capture options) old (record old { desk = desk }) status
    record {
      faithful = replay_faithful image capture options;
      ends = Ends-cut None (tables_in image) seen (report_by options capture) old desk status step;
      lawful = step.lawful;
      opened = λ files told reported. absurd (false≢true (sym step.unreported ∙ reported));
      totals = λ reported. tt;
      image = λ done. tt;
      keeps_up = λ w. absurd (unwritten status step.unreported w);
    }

-- the report is printed
pub Replay-reported : {X : Type 0} (image capture : List ℕ) (options : Options) (seen : X → Tables)
    (old new : Outside) (mid : DeskView) (x : X) (status : Status) → Takes (tables_in image) seen old.desk mid (Ok x) →
    Reports (form_of (ByTables (seen x)) (seen x) options) capture (record old { desk = mid }) new status →
    Answers (Ok (Replay image capture options)) old new status
Replay-reported image capture options seen old new mid x status step reports =
    Answers-request (Replay image capture options) old new status
    record {
      faithful = replay_faithful image capture options;
      ends = Ends-then None (tables_in image) seen (report_by options capture) old new mid x status step reports.ends;
      lawful = reports.lawful;
      totals = λ reported. tt;
      image = λ done. tt;
      opened = λ files told reported. reports.opened files (step.kept.files ∙ told) reported;
      keeps_up = λ w. keeps_up_later capture old new mid (reports.keeps_up w);
    }
