-- What printing the report of a capture promises.
use Rattle.std.specs.Prelude.{◌≡◌, ℕ, ◌+◌, ◌≤◌, ◌⊎◌, List, ◌∷◌, length, false, true}
use Rattle.std.specs.Prelude.{Some}
use Rattle.acl_outside.specs.Desk.{File}
use Rattle.acl_outside.specs.Heard.{Heard}
use Rattle.acl_outside.specs.Sink.{Gains}
use Rattle.command_ending.specs.declared.status.Status.{Status}
use Rattle.command_ending.specs.declared.status.Status.TheVariants.{WriteFault, OutOfMemory}
use Rattle.pcapng_reader.specs.Capture.{whole_records}
use Rattle.capture_report.specs.Classifier.{Classifier, ByTables, Tables, AnswersAs}
use Rattle.capture_report.specs.declared.form.PrintOptions.{PrintOptions}
use Rattle.capture_report.specs.ReportForm.{ReportForm, form_by}
use Rattle.capture_report.specs.Report.{lines_in}
use Rattle.capture_report.specs.Taken.{max_batch}
use Rattle.command_ending.specs.Plan.{found, settled}
use Rattle.command_ending.specs.Endings.{is_decided, is_reported, is_usage}
use Rattle.capture_report.specs.Bound.{most_of_records}
use Rattle.capture_report.specs.CaptureOutcome.{reported}
use Rattle.command_ending.specs.StepEffects.{Outside, Ends, EndsAsTold, HasNoFault, heard_of, earlier_of}
use Rattle.command_ending.specs.StepEffects.{files_of, opened_of}

-- Of the records that were heard of the named capture at most a batch has no line in what the sink
-- gained.
pub record KeepsUp (name : List ℕ) (old new : Outside) : Type 0 where
  pub file : Heard
  pub named : file.name ≡ name
  pub newest : heard_of new.desk ≡ file ∷ earlier_of (heard_of new.desk)
  pub put : List ℕ
  pub gains : Gains put old.out new.out
  pub few : length (whole_records file.bytes) ≤ lines_in put + max_batch

-- The report of the named capture was printed as far as its plan was followed.
pub record Reports (form : ReportForm) (name : List ℕ) (old new : Outside)
    (status : Status) : Type 0 where
  pub ends : Ends (reported form name) old new status
  pub lawful : is_usage status ≡ false
  pub opened : (files : List File) → files_of old.desk ≡ Some files → is_reported status ≡ true →
      opened_of new.desk ≡ Some (Some name)
  pub keeps_up : status ≡ WriteFault → KeepsUp name old new

-- All that printing a capture from tables promises.
pub record PrintsCapture (tables : Tables) (options : PrintOptions) (name : List ℕ)
    (old new : Outside) (status : Status) : Type 0 where
  -- the report is that of the tables, for every desk and sink
  pub by_tables : Reports (form_by (ByTables tables) tables options) name old new status
  -- and so it is that of whatever answers as the tables do
  pub alike : (classifier : Classifier) → AnswersAs classifier tables →
      Reports (form_by classifier tables options) name old new status
  -- where the desk tells its files
  pub told : (files : List File) → files_of old.desk ≡ Some files →
      EndsAsTold (settled (found
      (reported (form_by (ByTables tables) tables options) name) files)) old new status
  -- where the outside has no fault, only memory keeps the printing from its outcome
  pub complete : HasNoFault old new → (files : List File) → files_of old.desk ≡ Some files →
      (status ≡ (settled (found
      (reported (form_by (ByTables tables) tables options) name) files)).status)
      ⊎ (status ≡ OutOfMemory)
  -- a decided report took at most a transition for each trie and byte of the key of each packet
  pub bound : is_decided status ≡ true → (file : Heard) →
      heard_of new.desk ≡ file ∷ heard_of old.desk →
      new.steps ≤ old.steps + most_of_records tables (whole_records file.bytes)
