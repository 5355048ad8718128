-- Records that are taken from a capture, some at a time.
use Rattle.std.specs.Prelude.{◌≡◌, ℕ, ◌+◌, ◌≤◌, List, [], ◌++◌, length, map, All, Option, Some, None}
use Rattle.std.specs.Prelude.{Ok, Err}
use Rattle.acl_outside.specs.Fault.{Rose}
use Rattle.acl_outside.specs.Desk.{DeskView}
use Rattle.acl_outside.specs.Heard.{Ending, GoesOn, Ended}
use Rattle.acl_outside.specs.DeskReading.{ReadsOn}
use Rattle.header_extract.specs.Class.{FrameClass}
use Rattle.pcap_reader.specs.declared.capture_fault.CaptureFault.{CaptureFault}
use Rattle.pcap_reader.specs.declared.capture_fault.CaptureFault.TheVariants.{ReadFault}
use Rattle.pcap_reader.specs.State.{Answer, CaptureRecord}
use Rattle.pcap_reader.specs.Fill.{KeepsReading, IsAtEnd}
use Rattle.pcapng_reader.specs.Capture.{AnyState, followed_by, max_records, records_from}
use Rattle.pcapng_reader.specs.Reader.{ReadsNext, count_of}
use Rattle.pcapng_reader.specs.BlockReading.{FaultStands, stands}
use Rattle.capture_report.specs.declared.batch.BatchEnd.{BatchEnd}
use Rattle.capture_report.specs.declared.batch.BatchEnd.TheVariants.{More, End, Fault}
use Rattle.capture_report.specs.NextRecord.{MayGoOn, record_in}
use Rattle.capture_report.specs.Packet.{IsPacket}
use Rattle.capture_report.specs.Shown.{packet_of}

-- how many records are taken at most before their lines are put
abbrev pub max_batch : ℕ
max_batch = 64

-- The reading of the file stands so after a batch: its end was met after the last record, and after
-- a fault as the fault says.
abbrev pub BatchStands : BatchEnd → Ending → Type 0
BatchStands More ending = ending ≡ GoesOn
BatchStands End ending = ending ≡ Ended
BatchStands (Fault fault) ending = FaultStands fault ending

-- The bytes are these records, whatever comes later, and lead from one state to another.
abbrev pub AreRecords : AnyState → AnyState → List ℕ → List CaptureRecord → Type 0
AreRecords before after given records =
    (later : List ℕ) →
    records_from before (given ++ later) ≡ followed_by records (records_from after later)

-- The bytes are all records that follow from the state and their ending, whatever else the file may
-- have.
abbrev pub AreAll : AnyState → List ℕ → Ending → List CaptureRecord → Option CaptureFault →
    Type 0
AreAll before given ending records fault =
    (more : List ℕ) → (ending ≡ Ended → more ≡ []) →
    records_from before (given ++ more) ≡ record { records = records; fault = fault }

-- These are the whole records of the bytes.
abbrev pub AreWhole : AnyState → List ℕ → List CaptureRecord → Type 0
AreWhole before given records = (records_from before given).records ≡ records

-- What the bytes of a batch are, by how it ended and how the reading stands.
abbrev pub AreOfBatch : AnyState → AnyState → List ℕ → Ending → List CaptureRecord →
    BatchEnd → Type 0
AreOfBatch before after given ending records More = AreRecords before after given records
AreOfBatch before after given ending records End = AreAll before given ending records None
AreOfBatch before after given ending records (Fault ReadFault) = AreWhole before given records
AreOfBatch before after given ending records (Fault fault) =
    AreAll before given ending records (Some fault)

-- These records were read, from one state of the reader to another, and nothing else.
pub record Took (before after : AnyState) (records : List CaptureRecord) (given : List ℕ)
    (old new : DeskView) (stop : BatchEnd) : Type 0 where
  pub ending : Ending
  pub stood : BatchStands stop ending
  pub bytes : AreOfBatch before after given ending records stop
  pub reads : ReadsOn (stands ending) given old new
  pub at_end : ending ≡ Ended → IsAtEnd new
  pub read_fault : stop ≡ Fault ReadFault → Rose old.read_faults new.read_faults
  pub keeps : KeepsReading old new
  pub goes_on : stop ≡ More → MayGoOn before → MayGoOn after
  pub count : count_of after ≡ count_of before + length records
  pub few : count_of before ≤ max_records → count_of after ≤ max_records

-- A batch of records was read, and these are their packets.
pub record TakesBatch (before after : AnyState) (packets : List FrameClass)
    (old new : DeskView) (stop : BatchEnd) : Type 0 where
  pub records : List CaptureRecord
  pub given : List ℕ
  pub packets_are : packets ≡ map packet_of records
  pub keys : All IsPacket packets
  pub took : Took before after records given old new stop
  pub few : length packets ≤ max_batch
  pub some : stop ≡ More → 1 ≤ length packets

-- the end of a batch that an answer is, if it isn't a record
abbrev pub end_of : Answer → Option BatchEnd
end_of (Ok None) = Some End
end_of (Ok (Some captured)) = None
end_of (Err fault) = Some (Fault fault)

-- The next record was asked for, and its packet was put after the others.
pub record TakesRecord (before after : AnyState) (packets_old packets_new : List FrameClass)
    (old new : DeskView) (result : Option BatchEnd) : Type 0 where
  pub answer : Answer
  pub takes : ReadsNext before after old new answer
  pub packets : packets_new ≡ packets_old ++ map packet_of (record_in answer)
  pub keys : All IsPacket (map packet_of (record_in answer))
  pub stop : result ≡ end_of answer
