-- What stands after a fault of the outside where the desk tells its files: which lines were put of
-- the capture's bytes that stand before what is left to read of it.
use Rattle.std.specs.Prelude.{◌≡◌, ◌≢◌, ℕ, ◌+◌, ◌≤◌, ◌⊎◌, List, [], ◌∷◌, ◌++◌, length, codes, Some, Ok}
use Rattle.acl_outside.specs.Desk.{Content, bytes_of}
use Rattle.acl_outside.specs.Sink.{SinkView, Gains}
use Rattle.acl_outside.specs.Together.{HoldsTogether}
use Rattle.classbench_reader.specs.RuleFile.{RuleLists, rule_file_of}
use Rattle.pcap_reader.specs.State.{CaptureRecord}
use Rattle.pcapng_reader.specs.Capture.{whole_records}
use Rattle.table_image.specs.ImageReading.{image_of}
use Rattle.command_words.specs.Options.{Options, for_replay, none_given}
use Rattle.command_words.specs.Command.{options_from}
use Rattle.command_ending.specs.declared.status.Status.{Status}
use Rattle.command_ending.specs.declared.status.Status.TheVariants.{ReadFault, WriteFault}
use Rattle.command_ending.specs.StepEffects.{Outside}
use Rattle.capture_report.specs.declared.form.PrintOptions.{PrintOptions}
use Rattle.capture_report.specs.Classifier.{ByTables, Tables}
use Rattle.capture_report.specs.PrintsCapture.{PrintsCapture}
use Rattle.capture_report.specs.Report.{lines_in, lines_of_records}
use Rattle.capture_report.specs.ReportForm.{form_by}
use Rattle.capture_report.specs.Taken.{max_batch}
use Rattle.acl_tool.specs.BuildPlan.{pair_of}
use Rattle.acl_tool.specs.ClassifyPlan.{form_of}
use Rattle.acl_tool.specs.CommandEffects.{Runs}
use Rattle.acl_tool.specs.Headline.{lines_to}

-- The sink gained exactly the lines of the whole records in the capture's bytes before those that
-- are left.
pub record PutsBefore (lines : List CaptureRecord → List ℕ) (capture : List ℕ) (content : Content)
    (old new : SinkView) : Type 0 where
  pub before : List ℕ
  pub bytes : bytes_of content.files capture ≡ Some (before ++ content.left)
  pub gains : Gains (lines (whole_records before)) old new

-- These are the lines by the rules of a rule file and the words of options.
pub record PutsByRules (rules capture : List ℕ) (options : List (List ℕ)) (content : Content)
    (old new : SinkView) : Type 0 where
  pub bytes : List ℕ
  pub lists : RuleLists
  pub there : bytes_of content.files rules ≡ Some bytes
  pub accepted : rule_file_of bytes ≡ Ok lists
  pub puts : PutsBefore (lines_to lists options) capture content old new

-- These are the lines by the tables of an image and the words of options.
pub record PutsByImage (image capture : List ℕ) (options : List (List ℕ)) (content : Content)
    (old new : SinkView) : Type 0 where
  pub bytes : List ℕ
  pub tables : Tables
  pub read : Options
  pub asked : options_from for_replay 4 none_given options ≡ Ok read
  pub there : bytes_of content.files image ≡ Some bytes
  pub loaded : image_of bytes ≡ Ok (pair_of tables)
  pub puts : PutsBefore (lines_of_records (form_of (ByTables tables) tables read)) capture content
      old new

-- After a read fault the lines were put if the capture is opened, and else nothing. Where both
-- files have one name, that of the first may be the opened one, and then nothing was put.
pub record PutsToReadFault (Lines : Type 0) (first capture : List ℕ) (content : Content)
    (old new : SinkView) : Type 0 where
  pub apart : content.opened ≡ Some capture → first ≢ capture → Lines
  pub either : content.opened ≡ Some capture → Lines ⊎ Gains [] old new
  pub unopened : content.opened ≢ Some capture → Gains [] old new

-- After a write fault the capture is opened. Of the whole records in its bytes before those that
-- are left at most a batch has no line in what the sink gained.
pub record PutsToWriteFault (capture : List ℕ) (content : Content) (old new : SinkView)
    : Type 0 where
  pub opened : content.opened ≡ Some capture
  pub before : List ℕ
  pub bytes : bytes_of content.files capture ≡ Some (before ++ content.left)
  pub put : List ℕ
  pub gains : Gains put old new
  pub few : length (whole_records before) ≤ lines_in put + max_batch

-- What a command with these words put to its output before it ended with a fault of the outside,
-- by what the desk tells then.
abbrev pub PutsToFault : (List ℕ → List ℕ → List (List ℕ) → Content → SinkView → SinkView →
    Type 0) → List ℕ → Type 0
PutsToFault Lines verb =
    (first capture : List ℕ) (options : List (List ℕ)) (old new : Outside)
    (err_old err_new : SinkView) (status : Status) (content : Content) →
    Runs (verb ∷ first ∷ capture ∷ options) old new err_old err_new status →
    HoldsTogether old.desk → new.desk.content ≡ Some content →
    (status ≡ ReadFault → PutsToReadFault
    (Lines first capture options content old.out new.out) first capture content old.out new.out)
    × (status ≡ WriteFault → PutsToWriteFault capture content old.out new.out)

-- So it is of every `classify`.
abbrev pub ClassifyPutsToFault : Type 0
ClassifyPutsToFault = PutsToFault PutsByRules (codes "classify")

-- And of every `replay`.
abbrev pub ReplayPutsToFault : Type 0
ReplayPutsToFault = PutsToFault PutsByImage (codes "replay")

-- And of every printing of a capture by tables alone.
abbrev pub PrintingPutsToFault : Type 0
PrintingPutsToFault =
    (tables : Tables) (options : PrintOptions) (capture : List ℕ) (old new : Outside)
    (status : Status) (content : Content) → PrintsCapture tables options capture old new status →
    HoldsTogether old.desk → new.desk.content ≡ Some content →
    (status ≡ ReadFault → content.opened ≡ Some capture →
    PutsBefore (lines_of_records (form_by (ByTables tables) tables options)) capture content
    old.out new.out)
    × (status ≡ ReadFault → content.opened ≢ Some capture → Gains [] old.out new.out)
    × (status ≡ WriteFault → PutsToWriteFault capture content old.out new.out)
