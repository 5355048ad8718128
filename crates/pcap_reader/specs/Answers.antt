-- All answers of a reader, from its first call of `next` on, and what they come to.
use Rattle.std.specs.Prelude.{◌≡◌, ℕ, List, [], ◌∷◌, Bool, true, false, Option, Some, None, Ok, Err}
use Rattle.pcap_reader.specs.declared.capture_fault.CaptureFault.{CaptureFault}
use Rattle.pcap_reader.specs.declared.capture_fault.CaptureFault.TheVariants.{ReadFault}
use Rattle.pcap_reader.specs.declared.state.CaptureState.{CaptureState}
use Rattle.pcap_reader.specs.State.{Answer, CaptureRecord, state_after}
use Rattle.pcap_reader.specs.Capture.{Recorded}
use Rattle.pcap_reader.specs.Reader.{IsNext}

-- after a record another answer may come, and after the end or a fault there is none
abbrev pub GoesBefore : Answer → List Answer → Type 0
GoesBefore (Ok (Some captured)) later = Unit {0}
GoesBefore (Ok None) later = later ≡ []
GoesBefore (Err fault) later = later ≡ []

-- Each answer is that of the bytes which were given in its call, from a state of the reader on.
abbrev pub AreAnswersTo : CaptureState → List (List ℕ) → List Answer → Type 0
AreAnswersTo state [] [] = Unit {0}
AreAnswersTo state (given ∷ pieces) (answer ∷ later) =
    IsNext state given [] answer × GoesBefore answer later × AreAnswersTo (state_after state answer)
    pieces later
AreAnswersTo state [] (answer ∷ later) = ⊥
AreAnswersTo state (given ∷ pieces) [] = ⊥

-- Each answer is that of the bytes which were left before its call, from a state of the reader on.
abbrev pub AreAnswersOn : CaptureState → List ℕ → List Answer → Type 0
AreAnswersOn state left [] = Unit {0}
AreAnswersOn state left (answer ∷ later) =
    (after : List ℕ) × IsNext state left after answer × GoesBefore answer later
    × AreAnswersOn (state_after state answer) after later

-- the record of an answer, in front of later ones
abbrev pub onto_given : Answer → List CaptureRecord → List CaptureRecord
onto_given (Ok (Some captured)) later = captured ∷ later
onto_given (Ok None) later = []
onto_given (Err fault) later = []

-- the records that were given
abbrev pub records_given : List Answer → List CaptureRecord
records_given [] = []
records_given (answer ∷ later) = onto_given answer (records_given later)

-- the fault that an answer tells
abbrev pub fault_in : Answer → Option CaptureFault
fault_in (Ok captured) = None
fault_in (Err fault) = Some fault

-- the fault of the last answer, or none
abbrev pub fault_given : List Answer → Option CaptureFault
fault_given [] = None
fault_given (answer ∷ []) = fault_in answer
fault_given (answer ∷ next ∷ later) = fault_given (next ∷ later)

-- the answer is the end of the capture, or a fault of it
abbrev pub is_ending : Answer → Bool
is_ending (Ok None) = true
is_ending (Ok (Some captured)) = false
is_ending (Err ReadFault) = false
is_ending (Err fault) = true

-- the last answer is the end of the capture, or a fault of it
abbrev pub have_ending : List Answer → Bool
have_ending [] = false
have_ending (answer ∷ []) = is_ending answer
have_ending (answer ∷ next ∷ later) = have_ending (next ∷ later)

-- the capture that the answers come to
abbrev pub recorded_by : List Answer → Recorded
recorded_by answers = record { records = records_given answers; fault = fault_given answers }
