-- What a reader shows once the record that it lent is given back.
use Rattle.std.specs.Prelude.{◌≡◌, ℕ, List, Option, Result}
use Rattle.std.specs.Borrow.{Fml, Bor, MutBor}
use Rattle.std.specs.Io.BufRead.{Rests}
use Rattle.pcap_reader.specs.contracts.capture.Capture.{the_row}
use Rattle.pcap_reader.specs.declared.capture_fault.CaptureFault.{CaptureFault}
use Rattle.pcap_reader.specs.declared.state.CaptureState.{CaptureState}
use Rattle.pcap_reader.specs.State.{state_after}
use Rattle.pcap_reader.specs.Reader.{answer_of}

-- The reader counts the record, has ended or has failed, as the answer says.
abbrev pub GoesOnAs : MutBor CaptureState → Result (Option (Bor (List ℕ))) CaptureFault → Fml
GoesOnAs capture result = Rests the_row capture
    (λ now. now ≡ state_after capture.now (answer_of capture.now result))
