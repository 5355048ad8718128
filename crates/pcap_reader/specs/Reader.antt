-- What the calls of a reader promise of the opened file.
use Rattle.std.specs.Prelude.{◌≡◌, ℕ, ◌<◌, ◌≤◌, List, [], ◌++◌, length, take, drop, Bool, true, false, Option, Some, None}
use Rattle.std.specs.Prelude.{Result, Ok, Err}
use Rattle.std.specs.Borrow.{Bor}
use Rattle.acl_outside.specs.Fault.{Rose}
use Rattle.acl_outside.specs.Told.{Changes}
use Rattle.acl_outside.specs.Desk.{DeskView}
use Rattle.acl_outside.specs.Heard.{Heard, BrokenOff, Ended, with_ending}
use Rattle.acl_outside.specs.DeskReading.{ReadsOn, and_goes_on}
use Rattle.pcap_reader.specs.declared.capture_fault.BeginFault.{BeginFault}
use Rattle.pcap_reader.specs.declared.capture_fault.BeginFault.TheVariants as begin_faults
use Rattle.pcap_reader.specs.declared.capture_fault.CaptureFault.{CaptureFault}
use Rattle.pcap_reader.specs.declared.capture_fault.CaptureFault.TheVariants.{HeaderCut, Magic, Version, LinkType, RecordCut, RecordTooLong, TooManyRecords, ReadFault}
use Rattle.pcap_reader.specs.declared.capture_fault.CaptureFault.TheVariants.{PngCut, PngLength, PngOrder, PngVersion, PngInterface, PngLink, PngTooMany}
use Rattle.pcap_reader.specs.declared.start.Start.{Start}
use Rattle.pcap_reader.specs.declared.state.CaptureState.{CaptureState}
use Rattle.pcap_reader.specs.State.{Answer, begun, record_of}
use Rattle.pcap_reader.specs.ReaderStates.{has_ended}
use Rattle.pcap_reader.specs.Headers.{record_header_of}
use Rattle.pcap_reader.specs.Capture.{Next, End, Record, Fault, max_captured, max_records, next_of}
use Rattle.pcap_reader.specs.Capture.{record_header_len}
use Rattle.pcap_reader.specs.Fill.{KeepsReading, IsAtEnd}
use Rattle.pcap_reader.specs.Start.{start_of, file_header_len}

-- how the reading of the file stands after a fault of the capture: its end was met where bytes are
-- missing, and a read broke off at a read fault
abbrev pub after_fault : CaptureFault → Heard → Heard
after_fault HeaderCut = with_ending Ended
after_fault (RecordCut number) = with_ending Ended
after_fault ReadFault = with_ending BrokenOff
after_fault Magic = and_goes_on
after_fault Version = and_goes_on
after_fault LinkType = and_goes_on
after_fault (RecordTooLong number) = and_goes_on
after_fault TooManyRecords = and_goes_on
after_fault (PngCut number) = with_ending Ended
after_fault (PngLength number) = and_goes_on
after_fault (PngOrder number) = and_goes_on
after_fault (PngVersion number) = and_goes_on
after_fault (PngInterface number) = and_goes_on
after_fault (PngLink number) = and_goes_on
after_fault (PngTooMany number) = and_goes_on

-- These bytes begin with no whole record.
abbrev pub HasNoRecord : Next → Type 0
HasNoRecord End = Unit {0}
HasNoRecord (Record captured after) = ⊥
HasNoRecord (Fault fault) = Unit {0}

-- `front` and then `after` are what was left, and `front` begins with no whole record.
pub record BreaksOffAt (Whole : List ℕ → Type 0) (left after : List ℕ) : Type 0 where
  pub front : List ℕ
  pub parts : left ≡ front ++ after
  pub no_whole : Whole front

-- An answer to what stands next in a state of the reader, where `left` was left before it and
-- `after` after it.
abbrev pub IsNext : CaptureState → List ℕ → List ℕ → Answer → Type 0
IsNext state left after (Ok None) = (next_of state left ≡ End) × (after ≡ left)
IsNext state left after (Ok (Some captured)) = next_of state left ≡ Record captured after
IsNext state left after (Err ReadFault) =
    BreaksOffAt (λ front. HasNoRecord (next_of state front)) left after
IsNext state left after (Err fault) = next_of state left ≡ Fault fault

-- how the reading of the file stands after an answer
abbrev pub after_next : Answer → Heard → Heard
after_next (Ok None) = with_ending Ended
after_next (Ok (Some captured)) = and_goes_on
after_next (Err fault) = after_fault fault

-- the answer is one that comes at the end of the file
abbrev pub is_cut : CaptureFault → Bool
is_cut HeaderCut = true
is_cut (RecordCut number) = true
is_cut (PngCut number) = true
is_cut fault = false

-- the answer is the end of the file, or a record that the end of the file cuts
abbrev pub meets_end : Answer → Bool
meets_end (Ok None) = true
meets_end (Ok (Some captured)) = false
meets_end (Err fault) = is_cut fault

-- All that a call of `next` promises of the opened file where records are still to come. The answer
-- is that of the bytes which the desk gave in this call, and of all that was left, where that is
-- told.
pub record ReadsNext (state : CaptureState) (old new : DeskView) (answer : Answer) : Type 0 where
  pub given : List ℕ
  pub reads : ReadsOn (after_next answer) given old new
  pub next : IsNext state given [] answer
  pub told : Changes (λ was now. IsNext state was.left now.left answer) old.content new.content
  pub end : meets_end answer ≡ true → IsAtEnd new
  pub read_fault : answer ≡ Err ReadFault → Rose old.read_faults new.read_faults
  pub keeps : KeepsReading old new

-- A call of `next`: at the end it asks for nothing.
abbrev pub TakesNext : CaptureState → DeskView → DeskView → Answer → Type 0
TakesNext state old new answer =
    (has_ended state.progress ≡ true → (answer ≡ Ok None) × (new ≡ old))
    × (has_ended state.progress ≡ false → ReadsNext state old new answer)

-- what `next` answers, with the record in place of a reference to its bytes
abbrev pub answer_of : CaptureState → Result (Option (Bor (List ℕ))) CaptureFault → Answer
answer_of state (Ok None) = Ok None
answer_of state (Ok (Some captured)) = Ok (Some (record_of state captured.now))
answer_of state (Err fault) = Err fault

-- the same of an answer that says how many bytes of a buffer were captured
abbrev pub answer_in : CaptureState → List ℕ → Result (Option ℕ) CaptureFault → Answer
answer_in state buffer (Ok None) = Ok None
answer_in state buffer (Ok (Some len)) = Ok (Some (record_of state (take len buffer)))
answer_in state buffer (Err fault) = Err fault

-- how many captured bytes the header of a record says
abbrev pub captured_in : CaptureState → List ℕ → ℕ
captured_in state header = (record_header_of state.start.order header).captured

-- The whole header of a record was read that a capture may have, and it says that so many bytes
-- were captured.
pub record HasHeader (state : CaptureState) (captured : ℕ) (old mid : DeskView) : Type 0 where
  pub header : List ℕ
  pub few : state.count < max_records
  pub whole : length header ≡ record_header_len
  pub says : captured ≡ captured_in state header
  pub lawful : captured ≤ max_captured
  pub reads : ReadsOn and_goes_on header old mid
  pub keeps : KeepsReading old mid

-- an answer to "what does the file header say"
abbrev pub IsStart : List ℕ → List ℕ → Result Start CaptureFault → Type 0
IsStart left after (Ok start) = (start_of left ≡ Ok start) × (after ≡ drop file_header_len left)
IsStart left after (Err ReadFault) = BreaksOffAt (λ front. start_of front ≡ Err HeaderCut) left
    after
IsStart left after (Err fault) = start_of left ≡ Err fault

-- how the reading of the file stands after an answer
abbrev pub after_start : Result Start CaptureFault → Heard → Heard
after_start (Ok start) = and_goes_on
after_start (Err fault) = after_fault fault

-- the answer is a file header that the end of the file cuts
abbrev pub is_cut_start : Result Start CaptureFault → Bool
is_cut_start (Ok start) = false
is_cut_start (Err fault) = is_cut fault

-- All that the reading of a file header promises of the opened file, in the same way, where its
-- first bytes were read before.
pub record ReadsStart (first : List ℕ) (old new : DeskView) (result : Result Start CaptureFault) :
    Type 0 where
  pub given : List ℕ
  pub reads : ReadsOn (after_start result) given old new
  pub answer : IsStart (first ++ given) [] result
  pub told : Changes (λ was now. IsStart (first ++ was.left) now.left result) old.content
      new.content
  pub end : is_cut_start result ≡ true → IsAtEnd new
  pub read_fault : result ≡ Err ReadFault → Rose old.read_faults new.read_faults
  pub keeps : KeepsReading old new

-- all that `begin_in` promises: it is the file header
abbrev pub BeginsIn : List ℕ → DeskView → DeskView → Result CaptureState CaptureFault → Type 0
BeginsIn first old new (Ok capture) = (capture ≡ begun capture.start) × ReadsStart first old new
    (Ok capture.start)
BeginsIn first old new (Err fault) = ReadsStart first old new (Err fault)

-- All that `begin_with` promises: it asks for nothing where there is no memory, and else it is the
-- file header.
abbrev pub BeginsWith : List ℕ → DeskView → DeskView → Result CaptureState BeginFault → Type 0
BeginsWith first old new (Ok capture) = (capture ≡ begun capture.start) × ReadsStart first old new
    (Ok capture.start)
BeginsWith first old new (Err (begin_faults.Capture fault)) = ReadsStart first old new (Err fault)
BeginsWith first old new (Err begin_faults.OutOfMemory) = new ≡ old

-- all that `begin` promises: no byte was read before
abbrev pub Begins : DeskView → DeskView → Result CaptureState BeginFault → Type 0
Begins = BeginsWith []
