-- What `replay` does.
use Rattle.std.specs.Prelude.{ℕ, List, Result, Ok, Err}
use Rattle.table_image.specs.declared.load_fault.ImageFault.{ImageFault}
use Rattle.table_image.specs.Spelling.{PairView}
use Rattle.table_image.specs.ImageReading.{image_of}
use Rattle.command_words.specs.Options.{Options}
use Rattle.capture_report.specs.Classifier.{ByTables, Tables}
use Rattle.capture_report.specs.CaptureOutcome.{reported}
use Rattle.command_ending.specs.declared.status.Status.{Status}
use Rattle.command_ending.specs.declared.status.Status.TheVariants.{ImageRefused}
use Rattle.command_ending.specs.Plan.{◌>>=◌, Outcome, Plan, reading, unless_refused}
use Rattle.acl_tool.specs.ClassifyPlan.{form_of}

-- the tables of an image, or the status that stands for its first failing check
abbrev pub refused_image : Result PairView ImageFault → Result Tables Status
refused_image (Ok pair) = Ok (record { ip4 = pair.ip4; ip6 = pair.ip6 })
refused_image (Err fault) = Err (ImageRefused fault)

-- the tables of the bytes of an image
abbrev pub tables_of_bytes : List ℕ → Result Tables Status
tables_of_bytes bytes = refused_image (image_of bytes)

-- the tables of the named image
abbrev pub tables_in : List ℕ → Plan Tables
tables_in name = do
  bytes ← reading name
  unless_refused (tables_of_bytes bytes)

-- the report of a capture by the tables of an image
abbrev pub replay_plan : List ℕ → List ℕ → Options → Plan Outcome
replay_plan image capture options = do
  tables ← tables_in image
  reported (form_of (ByTables tables) tables options) capture
