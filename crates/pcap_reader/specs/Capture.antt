-- What a capture file means: its records, each with its link type, and its ending (libpcap savefile
-- format 2.4).
use Rattle.std.specs.Prelude.{ℕ, zero, suc, ◌+◌, ◌==◌, List, [], ◌∷◌, ◌++◌, length, take, drop, nat_lt, Option, Some, None, Result, Ok, Err, if◌then◌else◌}
use Rattle.pcap_reader.specs.declared.capture_fault.CaptureFault.{CaptureFault}
use Rattle.pcap_reader.specs.declared.capture_fault.CaptureFault.TheVariants.{RecordCut, RecordTooLong, TooManyRecords}
use Rattle.pcap_reader.specs.Headers.{record_header_of}
use Rattle.pcap_reader.specs.Start.{start_of, file_header_len, ◌>>=◌}
use Rattle.pcap_reader.specs.declared.state.CaptureState.{CaptureState}
use Rattle.pcap_reader.specs.State.{CaptureRecord, begun, record_of, state_after}

-- how many bytes a record header has
abbrev pub record_header_len : ℕ
record_header_len = 16

-- how many captured bytes a record may have
abbrev pub max_captured : ℕ
max_captured = 262144

-- how many records a capture may have
abbrev pub max_records : ℕ
max_records = 1000000000

-- what stands next in the bytes that are left: nothing, a record and the bytes after it, or a fault
pub data Next : Type 0 where
  End : Next
  Record : (captured : CaptureRecord) → (after : List ℕ) → Next
  Fault : CaptureFault → Next

-- the captured bytes after the header of the next record, where at least one byte is left
abbrev pub next_record : CaptureState → List ℕ → Next
next_record state left =
    let number = state.count + 1 in
    let len = (record_header_of state.start.order left).captured in
    if nat_lt max_records number then Fault TooManyRecords
    else (if nat_lt (length left) record_header_len then Fault (RecordCut number)
    else (if nat_lt max_captured len then Fault (RecordTooLong number)
    else (if nat_lt (length left) (record_header_len + len) then Fault (RecordCut number)
    else Record (record_of state (take len (drop record_header_len left)))
    (drop (record_header_len + len) left))))

-- what stands next in the bytes that are left in a state of the reader
abbrev pub next_of : CaptureState → List ℕ → Next
next_of state left = if length left == 0 then End else next_record state left

-- what a capture holds: its records, and the fault that ends it, or none where it ends whole
pub record Recorded : Type 0 where
  pub records : List CaptureRecord
  pub fault : Option CaptureFault

-- some records, and then what the bytes after them hold
abbrev pub followed_by : List CaptureRecord → Recorded → Recorded
followed_by records later = record { records = records ++ later.records; fault = later.fault }

-- what stands next, and then what `rest` makes of the record and the bytes after it
abbrev pub onward : Next → (CaptureRecord → List ℕ → Recorded) → Recorded
onward End rest = record { records = []; fault = None }
onward (Record captured after) rest = followed_by (captured ∷ []) (rest captured after)
onward (Fault fault) rest = record { records = []; fault = Some fault }

-- The records of the bytes that are left in a state of the reader. Each record takes bytes away, so
-- that as much fuel as there are bytes is enough.
abbrev pub records_within : ℕ → CaptureState → List ℕ → Recorded
records_within zero state left = record { records = []; fault = None }
records_within (suc fuel) state left =
    onward (next_of state left)
    (λ captured after. records_within fuel (state_after state (Ok (Some captured))) after)

-- the records of the bytes that are left in a state of the reader, and their ending
abbrev pub records_from : CaptureState → List ℕ → Recorded
records_from state left = records_within (length left) state left

-- the records of a capture and its ending, or the fault of its file header
abbrev pub capture_of : List ℕ → Result Recorded CaptureFault
capture_of bytes = do
  start ← start_of bytes
  Ok (records_from (begun start) (drop file_header_len bytes))

-- the records of a capture that has no fault in its file header
abbrev pub records_in : Result Recorded CaptureFault → List CaptureRecord
records_in (Ok capture) = capture.records
records_in (Err fault) = []

-- the records of a capture, which are none where the file header has a fault
abbrev pub whole_records : List ℕ → List CaptureRecord
whole_records bytes = records_in (capture_of bytes)
