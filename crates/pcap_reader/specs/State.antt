-- What a reader of a capture shows, what it answers, and what it shows after an answer.
use Rattle.std.specs.Prelude.{ℕ, ◌+◌, List, Option, Some, None, Result, Ok, Err}
use Rattle.pcap_reader.specs.declared.capture_fault.CaptureFault.{CaptureFault}
use Rattle.pcap_reader.specs.declared.link.Link.{Link}
use Rattle.pcap_reader.specs.declared.start.Start.{Start}
use Rattle.pcap_reader.specs.declared.state.CaptureState.{CaptureState}
use Rattle.pcap_reader.specs.declared.state.Progress.{Progress}
use Rattle.pcap_reader.specs.declared.state.Progress.TheVariants as progress

-- a record of a capture
pub record CaptureRecord : Type 0 where
  pub link : Link
  pub bytes : List ℕ

-- what a reader with these fields shows
abbrev pub state_of : Start → ℕ → Progress → CaptureState
state_of start count progress = record { start = start; count = count; progress = progress }

-- no record was given yet
abbrev pub begun : Start → CaptureState
begun start = state_of start 0 progress.Reading

-- the record with these bytes that a reader gives, by its link type
abbrev pub record_of : CaptureState → List ℕ → CaptureRecord
record_of state bytes = record { link = state.start.link; bytes = bytes }

-- an answer of `next`: a record, none at the end, or a fault
abbrev pub Answer : Type 0
Answer = Result (Option CaptureRecord) CaptureFault

-- what the reader shows after an answer
abbrev pub state_after : CaptureState → Answer → CaptureState
state_after state (Ok None) = record state { progress = progress.Ended }
state_after state (Ok (Some captured)) = record state { count = state.count + 1 }
state_after state (Err fault) = record state { progress = progress.Failed }
