-- What a reader of a savefile shows once the record that it lent is given back.
use Rattle.std.specs.Borrow.{Fml, MutBor}
use Rattle.std.specs.Io.BufRead.{Rests}
use Rattle.acl_outside.specs.Desk.{DeskView}
use Rattle.pcap_reader.specs.contracts.capture.Capture.{the_row}
use Rattle.pcap_reader.specs.declared.state.CaptureState.{CaptureState}
use Rattle.pcapng_reader.specs.Capture.{Savefile}
use Rattle.pcapng_reader.specs.Reader.{Lent, TakesNext, answer_of}

-- The reader goes on as the next record leads it.
abbrev pub GoesOnSavefile : MutBor CaptureState → DeskView → DeskView → Lent → Fml
GoesOnSavefile capture old new result =
    Rests the_row capture
    (λ now. TakesNext (Savefile capture.now) (Savefile now) old new (answer_of result))
