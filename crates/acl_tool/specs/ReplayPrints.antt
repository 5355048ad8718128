-- What `replay` prints, said by itself: of the image and the capture that the desk gave, and of
-- what the output took, whatever they are.
use Rattle.std.specs.Prelude.{◌≡◌, ℕ, ◌+◌, ◌≤◌, List, [], ◌∷◌, ◌++◌, codes, Option, None, Ok}
use Rattle.table_image.specs.ImageReading.{image_of}
use Rattle.acl_outside.specs.Heard.{Heard, Ended}
use Rattle.pcap_reader.specs.declared.capture_fault.CaptureFault.{CaptureFault}
use Rattle.pcapng_reader.specs.Capture.{capture_of, whole_records}
use Rattle.command_words.specs.Options.{Options, for_replay, none_given}
use Rattle.command_words.specs.Command.{options_from}
use Rattle.command_ending.specs.declared.status.Status.{Status}
use Rattle.command_ending.specs.StepEffects.{Outside, heard_of}
use Rattle.capture_report.specs.Bound.{most_of_records}
use Rattle.capture_report.specs.CaptureOutcome.{text_of_records}
use Rattle.capture_report.specs.Classifier.{ByTables, Tables}
use Rattle.capture_report.specs.Report.{transitions_of_records}
use Rattle.capture_report.specs.Shown.{fault_of_capture, status_of_fault}
use Rattle.acl_tool.specs.BuildPlan.{pair_of}
use Rattle.acl_tool.specs.ClassifyPlan.{form_of}

-- The words of a `replay` name two files, and options may follow. The image was read to its end,
-- and is that of a table for each family. Then the capture was read: to its end, or it is refused
-- with the fault, whatever more of it may come. The output took a line for each whole record, by
-- what the tables answer for its packet, and after a whole capture the last lines. No walk takes
-- more than one transition for each trie and byte of its key.
pub record PrintsByImage (words : List (List ℕ)) (fault : Option CaptureFault) (old new : Outside)
    : Type 0 where
  pub image : Heard
  pub capture : Heard
  pub options : List (List ℕ)
  pub read : Options
  pub tables : Tables
  pub named : words ≡ codes "replay" ∷ image.name ∷ capture.name ∷ options
  pub asked : options_from for_replay 4 none_given options ≡ Ok read
  pub once : heard_of new.desk ≡ capture ∷ image ∷ heard_of old.desk
  pub whole : image.ending ≡ Ended
  pub loaded : image_of image.bytes ≡ Ok (pair_of tables)
  pub is_last : fault ≡ None → capture.ending ≡ Ended
  pub refused : (more : List ℕ) → (capture.ending ≡ Ended → more ≡ []) →
      fault_of_capture (capture_of (capture.bytes ++ more)) ≡ fault
  pub taken : new.out.taken ≡ old.out.taken
      ++ text_of_records (form_of (ByTables tables) tables read) (whole_records capture.bytes) fault
  pub steps : new.steps
      ≡ old.steps + transitions_of_records tables (whole_records capture.bytes)
  pub bound : new.steps ≤ old.steps + most_of_records tables (whole_records capture.bytes)

-- Wherever `replay` ends with Done, or with a refused capture, it printed so.
abbrev pub ReplayPrints : List (List ℕ) → Status → Outside → Outside → Type 0
ReplayPrints words status old new =
    (after : List (List ℕ)) (fault : Option CaptureFault) → words ≡ codes "replay" ∷ after →
    status ≡ status_of_fault fault → PrintsByImage words fault old new
