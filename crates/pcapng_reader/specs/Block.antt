-- What a block of a pcapng file says (IETF draft-ietf-opsawg-pcapng, section 3.1 for blocks in
-- general, and sections 4.1, 4.2 and 4.3 for sections, interfaces and packets). Of the packet
-- blocks enhanced packet blocks alone are read.
use Rattle.std.specs.Prelude.{ℕ, ◌+◌, ◌-◌, ◌*◌, ◌/◌, ◌%◌, ◌==◌, List, [], ◌∷◌, ◌++◌, length, take}
use Rattle.std.specs.Prelude.{drop, nat_lt}
use Rattle.std.specs.Prelude.{Bool, ◌||◌, not, Option, Some, None, Result, Ok, Err, slice_get}
use Rattle.std.specs.Prelude.{if◌then◌else◌}
use Rattle.pcap_reader.specs.declared.capture_fault.CaptureFault.{CaptureFault}
use Rattle.pcap_reader.specs.declared.capture_fault.CaptureFault.TheVariants.{RecordTooLong, TooManyRecords}
use Rattle.pcap_reader.specs.declared.capture_fault.CaptureFault.TheVariants.{PngCut, PngLength, PngOrder}
use Rattle.pcap_reader.specs.declared.capture_fault.CaptureFault.TheVariants.{PngVersion, PngInterface}
use Rattle.pcap_reader.specs.declared.capture_fault.CaptureFault.TheVariants.{PngLink, PngTooMany}
use Rattle.pcap_reader.specs.declared.link.Link.{Link}
use Rattle.pcap_reader.specs.declared.start.Order.{Order}
use Rattle.pcap_reader.specs.declared.start.Order.TheVariants.{Big, Little}
use Rattle.pcap_reader.specs.declared.state.Progress.{Progress}
use Rattle.pcap_reader.specs.Capture.{max_captured, max_records}
use Rattle.pcap_reader.specs.Headers.{number_in}
use Rattle.pcap_reader.specs.Start.{◌>>=◌, or_fault, link_in, link_types}
use Rattle.pcap_reader.specs.State.{CaptureRecord}
use Rattle.pcapng_reader.specs.declared.front.Front.{Front}
use Rattle.pcapng_reader.specs.declared.kind.Kind.{Kind}
use Rattle.pcapng_reader.specs.declared.kind.Kind.TheVariants.{Section, Interface, Packet, Other}
use Rattle.pcapng_reader.specs.declared.said.Said.{Said}
use Rattle.pcapng_reader.specs.declared.said.Said.TheVariants as said

-- What a reader of blocks knows: the order of the section's numbers, the link type of each of its
-- interfaces, which is none where it isn't read, the bytes of the next block that were read before,
-- how many records were given and blocks read, and whether more are to come.
pub record BlockState : Type 0 where
  pub order : Order
  pub interfaces : List (Option Link)
  pub first : List ℕ
  pub count : ℕ
  pub blocks : ℕ
  pub progress : Progress

-- how many blocks a capture may have
abbrev pub max_blocks : ℕ
max_blocks = 2000000000

-- how many interfaces a section may have
abbrev pub max_interfaces : ℕ
max_interfaces = 1024

-- how many bytes a block has at least: its type, and its length twice
abbrev pub front_len : ℕ
front_len = 12

-- what a block of a type is for
abbrev pub kind_of : ℕ → Kind
kind_of type =
    if type == 0x0A0D0D0A then Section
    else (if type == 1 then Interface
    else (if type == 6 then Packet else Other))

-- how many bytes a block has at least, by what it is for
abbrev pub least_len : Kind → ℕ
least_len Section = 28
least_len Interface = 20
least_len Packet = 32
least_len Other = front_len

-- how many bytes of such a block say what it is
abbrev pub head_len : Kind → ℕ
head_len Section = 24
head_len Interface = 16
head_len Packet = 28
head_len Other = front_len

-- the order in which a section's byte-order magic is 0x1A2B3C4D
abbrev pub magic_order : List ℕ → Option Order
magic_order left =
    if number_in Big left 8 4 == 0x1A2B3C4D then Some Big
    else (if number_in Little left 8 4 == 0x1A2B3C4D then Some Little else None)

-- the order of a block's numbers: that of a section's own magic, else that of the section
abbrev pub order_in : BlockState → Kind → List ℕ → Option Order
order_in state Section left = magic_order left
order_in state Interface left = Some state.order
order_in state Packet left = Some state.order
order_in state Other left = Some state.order

-- this fault, where the test holds
abbrev pub refuse : Bool → CaptureFault → Result Bool CaptureFault
refuse test fault = if test then Err fault else Ok test

-- as many records were given or blocks read as a capture may have
abbrev pub is_last : BlockState → Bool
is_last state = nat_lt max_records (state.count + 1) || nat_lt max_blocks (state.blocks + 1)

-- no block of this kind has this length
abbrev pub is_no_len : Kind → ℕ → Bool
is_no_len kind total = not (total % 4 == 0) || nat_lt total (least_len kind)

-- the front of a block of this kind, order and length
abbrev pub front_with : BlockState → Kind → Order → ℕ → Result Front CaptureFault
front_with state kind order total = do
  long ← refuse (is_no_len kind total) (PngLength (state.count + 1))
  Ok (record { kind = kind; order = order; total = total })

-- the front of a block of this kind, whose length stands at 4
abbrev pub front_in : BlockState → Kind → List ℕ → Result Front CaptureFault
front_in state kind left = do
  few ← refuse (is_last state) TooManyRecords
  there ← refuse (nat_lt (length left) front_len) (PngCut (state.count + 1))
  order ← or_fault (PngOrder (state.count + 1)) (order_in state kind left)
  front_with state kind order (number_in order left 4 4)

-- the front of the next block, whose type stands at 0
abbrev pub front_of : BlockState → List ℕ → Result Front CaptureFault
front_of state left = front_in state (kind_of (number_in state.order left 0 4)) left

-- a length rounded up to a multiple of 4
abbrev pub padded : ℕ → ℕ
padded len = (len + 3) / 4 * 4

-- What a section says, of which the major version stands at 12.
abbrev pub section_said : BlockState → Front → List ℕ → Result Said CaptureFault
section_said state front left = do
  one ← refuse (not (number_in front.order left 12 2 == 1)) (PngVersion (state.count + 1))
  Ok said.Section

-- What an interface says, of which the link type stands at 8.
abbrev pub interface_said : BlockState → Front → List ℕ → Result Said CaptureFault
interface_said state front left = do
  room ← refuse (not (nat_lt (length state.interfaces) max_interfaces))
      (PngTooMany (state.count + 1))
  Ok (said.Interface (link_in link_types (number_in front.order left 8 2)))

-- the captured length of an enhanced packet, which stands at 20
abbrev pub captured_in : Front → List ℕ → ℕ
captured_in front left = number_in front.order left 20 4

-- What an enhanced packet says, of which the number of the interface stands at 8. The captured
-- bytes begin at 28.
abbrev pub packet_said : BlockState → Front → List ℕ → Result Said CaptureFault
packet_said state front left = do
  interface ← or_fault (PngInterface (state.count + 1))
      (slice_get state.interfaces (number_in front.order left 8 4))
  link ← or_fault (PngLink (state.count + 1)) interface
  short ← refuse (nat_lt max_captured (captured_in front left)) (RecordTooLong (state.count + 1))
  room ← refuse (nat_lt front.total (padded (captured_in front left) + least_len Packet))
      (PngLength (state.count + 1))
  Ok (said.Packet link (captured_in front left))

-- what the next block says, by its kind
abbrev pub said_by : Kind → BlockState → Front → List ℕ → Result Said CaptureFault
said_by Section = section_said
said_by Interface = interface_said
said_by Packet = packet_said
said_by Other = λ state front left. Ok said.Other

-- the last four bytes of the block aren't its length
abbrev pub has_other_end : Front → List ℕ → Bool
has_other_end front left = not (number_in front.order left (front.total - 4) 4 == front.total)

-- what the next block says whose front says so, where it is whole and ends in its length
abbrev pub said_in : BlockState → Front → List ℕ → Result Said CaptureFault
said_in state front left = do
  head ← refuse (nat_lt (length left) (least_len front.kind - 4)) (PngCut (state.count + 1))
  said ← said_by front.kind state front left
  whole ← refuse (nat_lt (length left) front.total) (PngCut (state.count + 1))
  same ← refuse (has_other_end front left) (PngLength (state.count + 1))
  Ok said

-- what the reader knows after such a block
abbrev pub state_said : BlockState → Front → Said → BlockState
state_said state front said.Section = record state {
  order = front.order;
  interfaces = [];
  first = [];
  blocks = state.blocks + 1;
}
state_said state front (said.Interface link) = record state {
  interfaces = state.interfaces ++ link ∷ [];
  first = [];
  blocks = state.blocks + 1;
}
state_said state front (said.Packet link captured) = record state {
  first = [];
  count = state.count + 1;
  blocks = state.blocks + 1;
}
state_said state front said.Other = record state { first = []; blocks = state.blocks + 1 }

-- What the bytes that are left begin with: nothing is left, a block without a record or with one
-- and the state and the bytes after it, or a fault.
pub data Block : Type 0 where
  End : Block
  Passed : (state : BlockState) → (after : List ℕ) → Block
  Given : (captured : CaptureRecord) → (state : BlockState) → (after : List ℕ) → Block
  Fault : CaptureFault → Block

-- the block that says so
abbrev pub block_said : BlockState → Front → Said → List ℕ → Block
block_said state front (said.Packet link captured) left =
    Given (record { link = link; bytes = take captured (drop 28 left) })
    (state_said state front (said.Packet link captured)) (drop front.total left)
block_said state front said.Section left =
    Passed (state_said state front said.Section) (drop front.total left)
block_said state front (said.Interface link) left =
    Passed (state_said state front (said.Interface link)) (drop front.total left)
block_said state front said.Other left =
    Passed (state_said state front said.Other) (drop front.total left)

-- the same, or the fault of the block
abbrev pub block_in : BlockState → Front → List ℕ → Result Said CaptureFault → Block
block_in state front left (Ok said) = block_said state front said left
block_in state front left (Err fault) = Fault fault

-- the same, or the fault of its front
abbrev pub block_by : BlockState → List ℕ → Result Front CaptureFault → Block
block_by state left (Ok front) = block_in state front left (said_in state front left)
block_by state left (Err fault) = Fault fault

-- the block that these bytes begin with
abbrev pub block_at : BlockState → List ℕ → Block
block_at state bytes =
    if length bytes == 0 then End else block_by state bytes (front_of state bytes)

-- the block that the bytes of the next block that were read before, and then what is left, begin
-- with
abbrev pub block_of : BlockState → List ℕ → Block
block_of state left = block_at state (state.first ++ left)
