-- What was read of a block, part by part.
use Rattle.std.specs.Prelude.{◌≡◌, ℕ, ◌+◌, ◌-◌, ◌<◌, ◌≤◌, List, [], ◌++◌, length, take, drop, ⊤}
use Rattle.std.specs.Prelude.{◌⊎◌, false}
use Rattle.std.specs.Prelude.{Result, Ok, Err}
use Rattle.acl_outside.specs.Fault.{Rose}
use Rattle.acl_outside.specs.declared.desk.Failed.{Failed}
use Rattle.acl_outside.specs.Desk.{DeskView}
use Rattle.acl_outside.specs.Heard.{Heard, Ending, NotOpened, GoesOn, Ended, BrokenOff, with_ending}
use Rattle.acl_outside.specs.DeskReading.{ReadsOn, and_goes_on}
use Rattle.pcap_reader.specs.declared.capture_fault.CaptureFault.{CaptureFault}
use Rattle.pcap_reader.specs.declared.capture_fault.CaptureFault.TheVariants.{HeaderCut, RecordCut}
use Rattle.pcap_reader.specs.declared.capture_fault.CaptureFault.TheVariants.{PngCut, ReadFault}
use Rattle.pcap_reader.specs.declared.start.Order.{Order}
use Rattle.pcap_reader.specs.Capture.{max_captured}
use Rattle.pcap_reader.specs.Fill.{Fills, KeepsReading, IsAtEnd}
use Rattle.pcap_reader.specs.Headers.{number_in}
use Rattle.pcap_reader.specs.State.{CaptureRecord}
use Rattle.pcapng_reader.specs.Block.{Block, End, Passed, Given, Fault}
use Rattle.pcapng_reader.specs.Block.{BlockState, block_of, front_of, least_len, max_interfaces}
use Rattle.pcapng_reader.specs.Block.{front_len, has_other_end, packet_said, said_by}
use Rattle.pcapng_reader.specs.declared.blocks.BlockRead.{BlockRead}
use Rattle.pcapng_reader.specs.declared.blocks.BlockRead.TheVariants as read
use Rattle.pcapng_reader.specs.declared.blocks.PacketPlace.{PacketPlace}
use Rattle.pcapng_reader.specs.declared.front.Front.{Front}
use Rattle.pcapng_reader.specs.declared.kind.Kind.TheVariants.{Packet}
use Rattle.pcapng_reader.specs.declared.said.Said.{Said}
use Rattle.pcapng_reader.specs.declared.said.Said.TheVariants as said

-- There is room for what a block said: for one interface more, or for the captured bytes.
abbrev pub HasRoom : BlockState → Front → Said → Type 0
HasRoom state front said.Section = ⊤
HasRoom state front (said.Interface link) = length state.interfaces < max_interfaces
HasRoom state front (said.Packet link captured) =
    (captured ≤ max_captured) × (captured + least_len Packet ≤ front.total)
HasRoom state front said.Other = ⊤

-- the change to an opened file whose reading stands so
abbrev pub stands : Ending → Heard → Heard
stands NotOpened = with_ending NotOpened
stands GoesOn = and_goes_on
stands Ended = with_ending Ended
stands BrokenOff = with_ending BrokenOff

-- These bytes of the next block were read, and nothing else, and the reading stands so.
pub record HasRead (state : BlockState) (part : List ℕ) (ending : Ending) (old new : DeskView) :
    Type 0 where
  pub given : List ℕ
  pub parts : state.first ++ given ≡ part
  pub reads : ReadsOn (stands ending) given old new
  pub end : ending ≡ Ended → IsAtEnd new
  pub keeps : KeepsReading old new

-- After these bytes of the next block a read failed, before there were so many.
pub record HasBroken (state : BlockState) (part : List ℕ) (room : ℕ) (old new : DeskView) :
    Type 0 where
  pub rest : List ℕ
  pub read : HasRead state (part ++ rest) BrokenOff old new
  pub few : length (part ++ rest) < room
  pub rose : Rose old.read_faults new.read_faults

-- So many bytes were read of the next block, up to a place in it: as many, or fewer where the file
-- ended or a read failed.
abbrev pub ReadsPart : {E : Type 0} → BlockState → List ℕ → DeskView → DeskView → Result ℕ E →
    Type 0
ReadsPart state part old new (Ok len) =
    (len ≤ length part) × (len ≡ length part → HasRead state part GoesOn old new)
    × (len < length part → HasRead state (take len part) Ended old new)
ReadsPart state part old new (Err fault) = HasBroken state state.first (length part) old new

-- The front of a block was read, and after it so many bytes of the rest: all that it has, or fewer
-- where the file ended. `before` stood in its place.
pub record HasRest (state : BlockState) (block : List ℕ) (count : ℕ) (old new : DeskView) :
    Type 0 where
  pub mid : DeskView
  pub before : List ℕ
  pub room : length before ≡ length block - front_len
  pub front : HasRead state (take front_len block) GoesOn old mid
  pub rest : Fills {E = Failed} before (drop front_len block) mid new (Ok count)

-- Bytes more were read of the next block, of which `Are` holds, or fewer than so many where the
-- block is cut, or a read failed.
abbrev pub ReadsMore : {T : Type 0} → (T → List ℕ → Type 0) → BlockState → List ℕ → ℕ → ℕ →
    DeskView → DeskView → Result T CaptureFault → Type 0
ReadsMore Are state part count number old new (Ok done) =
    (more : List ℕ) × Are done more × HasRead state (part ++ more) GoesOn old new
ReadsMore Are state part count number old new (Err ReadFault) =
    HasBroken state part (length part + count) old new
ReadsMore Are state part count number old new (Err fault) =
    (fault ≡ PngCut number) × ((more : List ℕ) × (length more < count)
    × HasRead state (part ++ more) Ended old new)

-- These are so many bytes, and the last four are a number in the order.
pub record EndIn (order : Order) (count end : ℕ) (bytes : List ℕ) : Type 0 where
  pub len : length bytes ≡ count
  pub number : number_in order (drop (count - 4) bytes) 0 4 ≡ end

-- These are so many bytes of a block that say what it is: its front isn't refused, and they say so.
-- Those of a packet end where its captured bytes begin.
pub record IsHead (state : BlockState) (front : Front) (said : Said) (len : ℕ) (bytes : List ℕ) :
    Type 0 where
  pub front_is : front_of state bytes ≡ Ok front
  pub says : said_by front.kind state front bytes ≡ Ok said
  pub enough : least_len front.kind - 4 ≤ length bytes
  pub len_is : length bytes ≡ len
  pub packet : front.kind ≡ Packet → len ≡ 28

-- The bytes begin with no whole block.
abbrev pub HasNoBlock : Block → Type 0
HasNoBlock End = ⊤
HasNoBlock (Passed state after) = ⊥
HasNoBlock (Given captured state after) = ⊥
HasNoBlock (Fault fault) = ⊤

-- The reading of the file stands so after a fault: its end was met where bytes are missing, and may
-- have been met where the bytes before say what is wrong.
abbrev pub FaultStands : CaptureFault → Ending → Type 0
FaultStands ReadFault ending = ending ≡ BrokenOff
FaultStands HeaderCut ending = ending ≡ Ended
FaultStands (RecordCut number) ending = ending ≡ Ended
FaultStands (PngCut number) ending = ending ≡ Ended
FaultStands fault ending = (ending ≡ GoesOn) ⊎ (ending ≡ Ended)

-- It stands so after a block.
abbrev pub BlockStands : Block → Ending → Type 0
BlockStands End ending = ending ≡ Ended
BlockStands (Passed state after) ending = ending ≡ GoesOn
BlockStands (Given captured state after) ending = ending ≡ GoesOn
BlockStands (Fault fault) ending = FaultStands fault ending

-- These bytes are the next block, or begin with none where a read failed.
abbrev pub IsBlock : BlockState → List ℕ → Block → Type 0
IsBlock state given (Fault ReadFault) = HasNoBlock (block_of state given)
IsBlock state given block = block_of state given ≡ block

-- The next block was read, and nothing else.
pub record ReadsBlock (state : BlockState) (old new : DeskView) (block : Block) : Type 0 where
  pub given : List ℕ
  pub ending : Ending
  pub stood : BlockStands block ending
  pub reads : ReadsOn (stands ending) given old new
  pub is : IsBlock state given block
  pub end : ending ≡ Ended → IsAtEnd new
  pub read_fault : block ≡ Fault ReadFault → Rose old.read_faults new.read_faults
  pub keeps : KeepsReading old new

-- the packet at a place of a buffer
abbrev pub packet_in : PacketPlace → List ℕ → CaptureRecord
packet_in place buffer = record { link = place.link; bytes = take place.len (drop place.at buffer) }

-- the block that the code answers, where the reader knows so much after it and the buffer has these
-- bytes
abbrev pub block_read : BlockState → List ℕ → Result BlockRead CaptureFault → Block
block_read now buffer (Ok read.End) = End
block_read now buffer (Ok read.Passed) = Passed now []
block_read now buffer (Ok (read.Given place)) = Given (packet_in place buffer) now []
block_read now buffer (Err fault) = Fault fault

-- The captured bytes stand within the buffer.
abbrev pub StandsWithin : ℕ → Result BlockRead CaptureFault → Type 0
StandsWithin len (Ok (read.Given place)) = place.at + place.len ≤ len
StandsWithin len (Ok read.End) = ⊤
StandsWithin len (Ok read.Passed) = ⊤
StandsWithin len (Err fault) = ⊤

-- what was read of a block that says so, whose captured bytes stand from this place on
abbrev pub read_of : Said → ℕ → BlockRead
read_of (said.Packet link captured) at =
    read.Given (record { link = link; at = at; len = captured })
read_of said.Section at = read.Passed
read_of (said.Interface link) at = read.Passed
read_of said.Other at = read.Passed

-- A packet stands at a place of a block, of which so many bytes were read: all of them. It isn't
-- refused, and ends in its length.
pub record IsPacketAt (state : BlockState) (front : Front) (block : List ℕ) (len : ℕ)
    (place : PacketPlace) : Type 0 where
  pub whole : len ≡ length block
  pub says : packet_said state front block ≡ Ok (said.Packet place.link place.len)
  pub ends : has_other_end front block ≡ false
  pub start : place.at ≡ 28
  pub within : place.at + place.len ≤ length block

-- how many captured bytes a block says that it has
abbrev pub captured_by : Said → ℕ
captured_by (said.Packet link captured) = captured
captured_by said.Section = 0
captured_by (said.Interface link) = 0
captured_by said.Other = 0

-- The reader knows what it knew, unless a block was read.
abbrev pub Stays : BlockState → BlockState → Result BlockRead CaptureFault → Type 0
Stays before now (Ok read.End) = now ≡ before
Stays before now (Ok read.Passed) = ⊤
Stays before now (Ok (read.Given place)) = ⊤
Stays before now (Err fault) = now ≡ before

-- All that a call promises that reads the next block into a buffer. `state` is what the reader knew
-- before, and `now` what it knows after the call. The answer is the block that was read, and
-- nothing else was read. The captured bytes stand within the buffer. Without a block the reader
-- knows what it knew.
pub record AnswersBlock (state now : BlockState) (buffer : List ℕ) (old new : DeskView)
    (answer : Result BlockRead CaptureFault) : Type 0 where
  pub block : ReadsBlock state old new (block_read now buffer answer)
  pub within : StandsWithin (length buffer) answer
  pub stays : Stays state now answer

-- All that a call promises that reads the rest of a block, of which the front stood in the buffer
-- with these bytes: the same as of the whole block, from any view from which the front was read.
abbrev pub AnswersRest : BlockState → BlockState → List ℕ → List ℕ → DeskView → DeskView →
    Result BlockRead CaptureFault → Type 0
AnswersRest state now had buffer old new answer =
    (before : DeskView) → HasRead state (take front_len had) GoesOn before old →
    AnswersBlock state now buffer before new answer
