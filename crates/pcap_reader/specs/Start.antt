-- What the file header of a capture says of the records after it (libpcap savefile format 2.4,
-- file header).
use Rattle.std.specs.Prelude.{ℕ, ◌%◌, ◌==◌, List, [], ◌∷◌, length, take, Bool, ◌&&◌, ◌||◌, nat_le, Option, Some, None, Result, Ok, Err, if◌then◌else◌}
use Rattle.pcap_reader.specs.declared.capture_fault.CaptureFault.{CaptureFault}
use Rattle.pcap_reader.specs.declared.capture_fault.CaptureFault.TheVariants.{HeaderCut, Magic, Version, LinkType}
use Rattle.pcap_reader.specs.declared.header.FileHeader.{FileHeader}
use Rattle.pcap_reader.specs.declared.link.Link.{Link}
use Rattle.pcap_reader.specs.declared.link.Link.TheVariants.{Ethernet, Raw, Cooked, CookedV2, Ip4, Ip6}
use Rattle.pcap_reader.specs.declared.start.Order.{Order}
use Rattle.pcap_reader.specs.declared.start.Order.TheVariants.{Big, Little}
use Rattle.pcap_reader.specs.declared.start.Start.{Start}
use Rattle.pcap_reader.specs.Headers.{number_in, file_header_of}

-- how many bytes a file header has
abbrev pub file_header_len : ℕ
file_header_len = 24

infixl 10 ◌>>=◌
-- what a part gives goes into what comes after it, and the fault of a part is that of the whole
abbrev pub ◌>>=◌ : {A B : Type 0} → Result A CaptureFault → (A → Result B CaptureFault) →
    Result B CaptureFault
Ok value >>= f = f value
Err fault >>= f = Err fault

-- the value, or this fault where there is none
abbrev pub or_fault : {A : Type 0} → CaptureFault → Option A → Result A CaptureFault
or_fault fault None = Err fault
or_fault fault (Some value) = Ok value

-- the bytes of the file header, where it is whole
abbrev pub whole_header : List ℕ → Option (List ℕ)
whole_header bytes =
    if nat_le file_header_len (length bytes) then Some (take file_header_len bytes) else None

-- the magic of times in microseconds, and that of times in nanoseconds
abbrev pub is_magic : ℕ → Bool
is_magic number = number == 0xA1B2C3D4 || number == 0xA1B23C4D

-- the order in which the first four bytes spell a magic
abbrev pub order_of : List ℕ → Option Order
order_of bytes =
    if is_magic (number_in Big bytes 0 4) then Some Big
    else (if is_magic (number_in Little bytes 0 4) then Some Little else None)

-- the header, where its version is 2.4
abbrev pub of_version : FileHeader → Option FileHeader
of_version header = if header.major == 2 && header.minor == 4 then Some header else None

-- the link types that are read, with their numbers (tcpdump.org, link-layer header types)
abbrev pub link_types : List (ℕ × Link)
link_types = (1, Ethernet) ∷ (101, Raw) ∷ (113, Cooked) ∷ (228, Ip4) ∷ (229, Ip6) ∷ (
  276,
  CookedV2,
) ∷ []

-- the link type of a number, by such a table
abbrev pub link_in : List (ℕ × Link) → ℕ → Option Link
link_in [] number = None
link_in (entry ∷ entries) number =
    if number == entry.0 then Some entry.1 else link_in entries number

-- the link type in the low 16 bits of the network number
abbrev pub link_of : ℕ → Option Link
link_of network = link_in link_types (network % 65536)

-- what a whole file header says, or its first fault: it has no magic, another version, or another
-- link type
abbrev pub start_in : List ℕ → Result Start CaptureFault
start_in header = do
  order ← or_fault Magic (order_of header)
  numbers ← or_fault Version (of_version (file_header_of order header))
  link ← or_fault LinkType (link_of numbers.network)
  Ok (record { order = order; link = link })

-- what the file header of a capture says, or its fault, which comes first where the header isn't
-- whole
abbrev pub start_of : List ℕ → Result Start CaptureFault
start_of bytes = or_fault HeaderCut (whole_header bytes) >>= start_in
