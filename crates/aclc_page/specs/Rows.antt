-- What a page is told of the records of a capture.
use Rattle.std.specs.Prelude.{◌≡◌, ℕ, ◌+◌, ◌*◌, ◌/◌, ◌⊎◌, List, [], ◌∷◌, ◌++◌, length, take, drop, min, replicate}
use Rattle.std.specs.List.{flat_map}
use Rattle.header_extract.specs.declared.class.Class.{Class}
use Rattle.header_extract.specs.declared.class.Class.TheVariants.{Ip4, Ip6, Other, Short}
use Rattle.header_extract.specs.Class.{FrameClass, settled}
use Rattle.header_extract.specs.Link.{frame_class}
use Rattle.pcap_reader.specs.State.{CaptureRecord}
use Rattle.pcapng_reader.specs.Capture.{whole_records}
use Rattle.aclc_page.specs.Given.{no_memory}

-- how many bytes a row has
abbrev pub row_len : ℕ
row_len = 38

-- how many bytes of it are room for a key
abbrev pub key_room : ℕ
key_room = 37

-- the number of a class
abbrev pub class_number : Class → ℕ
class_number Ip4 = 4
class_number Ip6 = 6
class_number Other = 0
class_number Short = 1

-- a key, and then zeros up to the end of its room
abbrev pub key_in_room : List ℕ → List ℕ
key_in_room key = key ++ drop (length key) (replicate key_room 0)

-- the class of a packet and its key
abbrev pub packet_row : FrameClass → List ℕ
packet_row packet = class_number packet.class ∷ key_in_room packet.key

-- the class of a record's frame by its link type, and the key of the packet in it
abbrev pub row_of : CaptureRecord → List ℕ
row_of captured = packet_row (settled (frame_class captured.link captured.bytes))

-- the rows of some records
abbrev pub rows_of : List CaptureRecord → List ℕ
rows_of records = flat_map row_of records

-- how many rows have room in so many bytes, of so many records
abbrev pub count_in : ℕ → ℕ → ℕ
count_in room records = min (room / row_len) records

-- The rows of the first of these records were written, as many as have room, and counted.
pub record WritesRows (records : List CaptureRecord) (old new : List ℕ) (count : ℕ) : Type 0 where
  pub counted : count ≡ count_in (length old) (length records)
  pub size : length new ≡ length old
  pub rows : take (row_len * count) new ≡ rows_of (take count records)

-- The rows of a capture's whole records were written. Only want of memory keeps a call from that.
abbrev pub ListsRecords : List ℕ → List ℕ → List ℕ → ℕ → ℕ → Type 0
ListsRecords capture old new count code =
    ((code ≡ no_memory) × (count ≡ 0) × (length new ≡ length old))
    ⊎ ((code ≡ 0) × WritesRows (whole_records capture) old new count)
