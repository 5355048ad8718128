-- How a reader of a capture stands after some answers.
use Rattle.std.specs.Prelude.{List, [], ◌∷◌, Bool, true, false, Some, Ok}
use Rattle.pcap_reader.specs.declared.state.CaptureState.{CaptureState}
use Rattle.pcap_reader.specs.declared.state.Progress.{Progress}
use Rattle.pcap_reader.specs.declared.state.Progress.TheVariants as progress
use Rattle.pcap_reader.specs.State.{CaptureRecord, state_after}

-- an earlier call answered a fault
abbrev pub has_failed : Progress → Bool
has_failed progress.Reading = false
has_failed progress.Ended = false
has_failed progress.Failed = true

-- all records were given
abbrev pub has_ended : Progress → Bool
has_ended progress.Reading = false
has_ended progress.Ended = true
has_ended progress.Failed = false

-- what the reader shows after it gave these records
abbrev pub state_past : CaptureState → List CaptureRecord → CaptureState
state_past state [] = state
state_past state (captured ∷ later) = state_past (state_after state (Ok (Some captured))) later
