-- What a reader of captures shows once the record that it lent is given back.
use Rattle.std.specs.Borrow.{Fml, MutBor}
use Rattle.std.specs.Io.BufRead.{Rests}
use Rattle.acl_outside.specs.Desk.{DeskView}
use Rattle.pcapng_reader.specs.contracts.any.AnyCapture.{the_row}
use Rattle.pcapng_reader.specs.Capture.{AnyState}
use Rattle.pcapng_reader.specs.Reader.{Lent, TakesNext, answer_of}

-- The reader goes on as the next record leads it.
abbrev pub GoesOn : MutBor AnyState → DeskView → DeskView → Lent → Fml
GoesOn capture old new result =
    Rests the_row capture (λ now. TakesNext capture.now now old new (answer_of result))
