-- What a capture file of either format means: its records, each with its link type, and its
-- ending. A file that begins with the type of a section block is a pcapng file
-- (draft-ietf-opsawg-pcapng, section 4.1), and any other is a savefile of libpcap.
use Rattle.std.specs.Prelude.{ℕ, zero, suc, List, [], ◌∷◌, ◌++◌, length, take, drop}
use Rattle.std.specs.Prelude.{Bool}
use Rattle.std.specs.Prelude.{Some, None, Result, Ok, if◌then◌else◌}
use Rattle.std.specs.Str.{bytes_eq}
use Rattle.pcap_reader.specs.declared.capture_fault.CaptureFault.{CaptureFault}
use Rattle.pcap_reader.specs.declared.start.Order.TheVariants.{Big}
use Rattle.pcap_reader.specs.declared.state.CaptureState.{CaptureState}
use Rattle.pcap_reader.specs.declared.state.Progress.TheVariants as progress
use Rattle.pcap_reader.specs.State.{CaptureRecord, state_after}
use Rattle.pcap_reader.specs.Capture as savefile
pub use Rattle.pcap_reader.specs.Capture.{Recorded, followed_by, records_in, max_records}
use Rattle.pcapng_reader.specs.Block as block
use Rattle.pcapng_reader.specs.Block.{BlockState, Block, block_of}

-- what a reader shows: that of a savefile, or that of blocks
pub data AnyState : Type 0 where
  Savefile : CaptureState → AnyState
  Blocks : BlockState → AnyState

-- what stands next in the bytes that are left: nothing, a record with the state and the bytes after
-- it, or a fault. The end has the state after the last block.
pub data Next : Type 0 where
  End : (state : AnyState) → Next
  Record : (captured : CaptureRecord) → (state : AnyState) → (after : List ℕ) → Next
  Fault : CaptureFault → Next

-- what stands next in a savefile, with the state after it
abbrev pub with_state : CaptureState → savefile.Next → Next
with_state state savefile.End = End (Savefile state)
with_state state (savefile.Record captured after) =
    Record captured (Savefile (state_after state (Ok (Some captured)))) after
with_state state (savefile.Fault fault) = Fault fault

-- what a block is, or what `rest` makes of the state and the bytes after it, if it has no record
abbrev pub past_block : BlockState → Block → (BlockState → List ℕ → Next) → Next
past_block state block.End rest = End (Blocks state)
past_block state (block.Passed now after) rest = rest now after
past_block state (block.Given captured now after) rest = Record captured (Blocks now) after
past_block state (block.Fault fault) rest = Fault fault

-- What stands next in the blocks that are left. Each block takes bytes away, so that as much fuel
-- as there are bytes is enough.
abbrev pub next_within : ℕ → BlockState → List ℕ → Next
next_within zero state left = End (Blocks state)
next_within (suc fuel) state left =
    past_block state (block_of state left) (λ now after. next_within fuel now after)

-- the bytes of the next block that were read before
abbrev pub first_of : AnyState → List ℕ
first_of (Savefile state) = []
first_of (Blocks state) = state.first

-- how many bytes are left with them
abbrev pub size_of : AnyState → List ℕ → ℕ
size_of state left = length (first_of state ++ left)

-- what stands next in the bytes that are left in a state of the reader
abbrev pub next_of : AnyState → List ℕ → Next
next_of (Savefile state) left = with_state state (savefile.next_of state left)
next_of (Blocks state) left = next_within (suc (length (state.first ++ left))) state left

-- what stands next, and then what `rest` makes of the record, and the state and the bytes after it
abbrev pub onward : Next → (AnyState → List ℕ → Recorded) → Recorded
onward (End state) rest = record { records = []; fault = None }
onward (Record captured state after) rest = followed_by (captured ∷ []) (rest state after)
onward (Fault fault) rest = record { records = []; fault = Some fault }

-- The records of the bytes that are left in a state of the reader. Each record takes bytes away, so
-- that as much fuel as there are bytes is enough.
abbrev pub records_within : ℕ → AnyState → List ℕ → Recorded
records_within zero state left = record { records = []; fault = None }
records_within (suc fuel) state left =
    onward (next_of state left) (λ now after. records_within fuel now after)

-- the records of the bytes that are left in a state of the reader, and their ending
abbrev pub records_from : AnyState → List ℕ → Recorded
records_from state left = records_within (size_of state left) state left

-- the type of a section block, with which a pcapng file begins
abbrev pub section_bytes : List ℕ
section_bytes = 0x0A ∷ 0x0D ∷ 0x0D ∷ 0x0A ∷ []

-- the file is a pcapng file
abbrev pub is_blocks : List ℕ → Bool
is_blocks bytes = bytes_eq (take 4 bytes) section_bytes

-- No block was read yet, but for these bytes. The first block is a section, which sets the order.
abbrev pub begun_blocks : List ℕ → BlockState
begun_blocks first = record {
  order = Big;
  interfaces = [];
  first = first;
  count = 0;
  blocks = 0;
  progress = progress.Reading;
}

-- The records of a capture and its ending, or the fault of its file header. The four bytes that
-- tell the format of a pcapng file are the first of its first block.
abbrev pub capture_of : List ℕ → Result Recorded CaptureFault
capture_of bytes =
    if is_blocks bytes then Ok (records_from (Blocks (begun_blocks section_bytes)) (drop 4 bytes))
    else savefile.capture_of bytes

-- the records of a capture, which are none where the file header has a fault
abbrev pub whole_records : List ℕ → List CaptureRecord
whole_records bytes = records_in (capture_of bytes)
