-- What printing a capture changes of the outside, from the end of its first bytes on.
use Rattle.std.specs.Prelude.{◌≡◌, ℕ, ◌+◌, ◌≤◌, ◌⊎◌, List, ◌++◌, length, map, All, Option, ⊤}
use Rattle.acl_outside.specs.Fault.{Rose}
use Rattle.acl_outside.specs.Heard.{Ending, NotOpened, GoesOn, Ended, BrokenOff}
use Rattle.acl_outside.specs.DeskReading.{ReadsOn}
use Rattle.acl_outside.specs.Sink.{SinkView, Gains}
use Rattle.pcap_reader.specs.declared.capture_fault.CaptureFault.{CaptureFault}
use Rattle.pcap_reader.specs.State.{CaptureRecord}
use Rattle.pcap_reader.specs.Fill.{KeepsReading, IsAtEnd}
use Rattle.pcapng_reader.specs.Capture.{AnyState}
use Rattle.pcapng_reader.specs.BlockReading.{stands}
use Rattle.command_ending.specs.declared.status.Status.{Status}
use Rattle.command_ending.specs.declared.status.Status.TheVariants.{ReadFault, WriteFault}
use Rattle.capture_report.specs.Packet.{IsPacket}
use Rattle.capture_report.specs.Shown.{packet_of, status_of_fault}
use Rattle.capture_report.specs.ReportForm.{ReportForm}
use Rattle.capture_report.specs.Report.{lines_of_records, lines_in, transitions_of_records}
use Rattle.capture_report.specs.Taken.{max_batch, AreAll, AreWhole}
use Rattle.capture_report.specs.CaptureOutcome.{text_of_records}
use Rattle.command_ending.specs.Follow.{IsOpened}
use Rattle.command_ending.specs.StepEffects.{Outside}

-- How far the reading came: to the ending of the capture, after these records, or after these
-- whole records.
pub data Reading : Type 0 where
  Whole : (records : List CaptureRecord) → (fault : Option CaptureFault) → Reading
  Part : (records : List CaptureRecord) → Reading

-- the whole records that were read
abbrev pub records_read : Reading → List CaptureRecord
records_read (Whole records fault) = records
records_read (Part records) = records

-- what is printed of it
abbrev pub text_of : ReportForm → Reading → List ℕ
text_of form (Whole records fault) = text_of_records form records fault
text_of form (Part records) = lines_of_records form records

-- the end of the file was met, or more of it may come
abbrev pub IsUnbroken : Ending → Type 0
IsUnbroken NotOpened = ⊥
IsUnbroken GoesOn = ⊤
IsUnbroken Ended = ⊤
IsUnbroken BrokenOff = ⊥

-- the bytes that were given in this state of the reader say so
abbrev pub AreRead : AnyState → List ℕ → Ending → Reading → Type 0
AreRead state given ending (Whole records fault) =
    IsUnbroken ending × AreAll state given ending records fault
AreRead state given ending (Part records) = AreWhole state given records

-- the status that comes with it, unless the sink failed
abbrev pub IsStatus : Ending → Reading → Status → Type 0
IsStatus ending (Whole records fault) status = status ≡ status_of_fault fault
IsStatus ending (Part records) status = (status ≡ ReadFault) × (ending ≡ BrokenOff)

-- A text was put but for its end, and at most a batch of records has no line in what was put.
pub record BreaksOffSoon (text : List ℕ) (records : ℕ) (old new : SinkView) : Type 0 where
  pub put : List ℕ
  pub rest : List ℕ
  pub parts : text ≡ put ++ rest
  pub gains : Gains put old new
  pub few : records ≤ lines_in put + max_batch
  pub rose : Rose old.faults new.faults

-- The records that follow from a state of the reader were read and printed, as far as the status
-- says.
pub record Streams (form : ReportForm) (state : AnyState) (old new : Outside)
    (status : Status) : Type 0 where
  pub given : List ℕ
  pub ending : Ending
  pub opened : IsOpened ending
  pub read : Reading
  pub reads : ReadsOn (stands ending) given old.desk new.desk
  pub at_end : ending ≡ Ended → IsAtEnd new.desk
  pub keeps : KeepsReading old.desk new.desk
  pub bytes : AreRead state given ending read
  pub packets : All IsPacket (map packet_of (records_read read))
  pub answer : (IsStatus ending read status × Gains (text_of form read) old.out new.out)
      ⊎ ((status ≡ WriteFault)
      × BreaksOffSoon (text_of form read) (length (records_read read)) old.out new.out)
  pub read_fault : status ≡ ReadFault → Rose old.desk.read_faults new.desk.read_faults
  pub steps : new.steps ≡ old.steps + transitions_of_records form.tables (records_read read)
  pub count : old.out.faults ≤ new.out.faults
