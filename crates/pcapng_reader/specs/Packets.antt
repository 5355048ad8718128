-- What finding the next packet among blocks promises of the opened file.
use Rattle.std.specs.Prelude.{◌≡◌, ℕ, ◌+◌, List, [], Option, Some, None, Result, Ok, Err}
use Rattle.acl_outside.specs.Fault.{Rose}
use Rattle.acl_outside.specs.Desk.{DeskView}
use Rattle.acl_outside.specs.Heard.{Ending, Ended}
use Rattle.acl_outside.specs.DeskReading.{ReadsOn}
use Rattle.pcap_reader.specs.declared.capture_fault.CaptureFault.{CaptureFault}
use Rattle.pcap_reader.specs.declared.capture_fault.CaptureFault.TheVariants.{ReadFault}
use Rattle.pcap_reader.specs.Fill.{KeepsReading, IsAtEnd}
use Rattle.pcap_reader.specs.State.{Answer}
use Rattle.pcapng_reader.specs.Block.{BlockState}
use Rattle.pcapng_reader.specs.Capture.{Blocks}
use Rattle.pcapng_reader.specs.Reader.{AnswerStands, IsNext}
use Rattle.pcapng_reader.specs.BlockReading.{packet_in, stands}
use Rattle.pcapng_reader.specs.declared.blocks.PacketPlace.{PacketPlace}

-- what a capture of blocks shows: what its reader knows, and the bytes in its buffer
pub record BlocksView : Type 0 where
  pub state : BlockState
  pub room : List ℕ

-- the answer with the packet in place of where it stands in a buffer
abbrev pub answer_in : List ℕ → Result (Option PacketPlace) CaptureFault → Answer
answer_in buffer (Ok None) = Ok None
answer_in buffer (Ok (Some place)) = Ok (Some (packet_in place buffer))
answer_in buffer (Err fault) = Err fault

-- The reader counts the packet, and goes on otherwise as before.
abbrev pub Counts : BlockState → BlockState → Answer → Type 0
Counts before now (Ok None) =
    (now.count ≡ before.count) × (now.progress ≡ before.progress)
Counts before now (Ok (Some captured)) =
    (now.count ≡ before.count + 1) × (now.progress ≡ before.progress)
Counts before now (Err fault) =
    (now.count ≡ before.count) × (now.progress ≡ before.progress)

-- All that finding the next packet promises.
pub record Finds (before now : BlockState) (old new : DeskView) (answer : Answer) : Type 0 where
  pub given : List ℕ
  pub ending : Ending
  pub stood : AnswerStands answer ending
  pub reads : ReadsOn (stands ending) given old new
  pub next : IsNext (Blocks before) (Blocks now) given [] answer
  pub counts : Counts before now answer
  pub end : ending ≡ Ended → IsAtEnd new
  pub read_fault : answer ≡ Err ReadFault → Rose old.read_faults new.read_faults
  pub keeps : KeepsReading old new
