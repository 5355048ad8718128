-- What a reader of captures shows, by its format.
use Rattle.std.specs.Prelude.{Result, Ok, Err}
use Rattle.acl_outside.specs.Desk.{DeskView}
use Rattle.pcap_reader.specs.declared.capture_fault.CaptureFault.{CaptureFault}
use Rattle.pcapng_reader.specs.Reader.{ReadsStart}
use Rattle.pcapng_reader.specs.declared.any.Format.{Format}
use Rattle.pcapng_reader.specs.declared.any.Format.TheVariants as format
use Rattle.pcapng_reader.specs.Capture.{AnyState, Savefile, Blocks}

-- the state of the reader of the format
abbrev pub state_of : Format → AnyState
state_of (format.Savefile capture) = Savefile capture
state_of (format.Blocks capture) = Blocks capture.state

-- All that the reading of a file's first bytes promises, with the reader that follows.
abbrev pub BeginsFormat : DeskView → DeskView → Result Format CaptureFault → Type 0
BeginsFormat old new (Ok reader) = ReadsStart old new (Ok (state_of reader))
BeginsFormat old new (Err fault) = ReadsStart old new (Err fault)
