-- What a reader of blocks shows once the packet that it lent is given back.
use Rattle.std.specs.Borrow.{Fml, MutBor}
use Rattle.std.specs.Io.BufRead.{Rests}
use Rattle.acl_outside.specs.Desk.{DeskView}
use Rattle.pcapng_reader.specs.contracts.packets.BlockCapture.{the_row}
use Rattle.pcapng_reader.specs.Capture.{Blocks}
use Rattle.pcapng_reader.specs.Packets.{BlocksView}
use Rattle.pcapng_reader.specs.Reader.{Lent, TakesNext, answer_of}

-- The reader goes on as the next packet leads it.
abbrev pub GoesOnBlocks : MutBor BlocksView → DeskView → DeskView → Lent → Fml
GoesOnBlocks capture old new result =
    Rests the_row capture
    (λ now. TakesNext (Blocks capture.now.state) (Blocks now.state) old new (answer_of result))
