-- Examples of pcapng captures, each checked by evaluation. The bytes are those that dumpcap writes
-- on a little-endian machine, and the same in big-endian order.
use Rattle.std.specs.Prelude.{◌≡◌, ℕ, List, [], ◌∷◌, ◌++◌, take, replicate, Some, None, Ok}
use Rattle.std.specs.Prelude.{Err, refl}
use Rattle.pcap_reader.specs.declared.capture_fault.CaptureFault.{CaptureFault}
use Rattle.pcap_reader.specs.declared.capture_fault.CaptureFault.TheVariants.{HeaderCut, Magic}
use Rattle.pcap_reader.specs.declared.capture_fault.CaptureFault.TheVariants.{RecordTooLong, TooManyRecords}
use Rattle.pcap_reader.specs.declared.capture_fault.CaptureFault.TheVariants.{PngCut, PngLength, PngOrder}
use Rattle.pcap_reader.specs.declared.capture_fault.CaptureFault.TheVariants.{PngVersion, PngInterface}
use Rattle.pcap_reader.specs.declared.capture_fault.CaptureFault.TheVariants.{PngLink, PngTooMany}
use Rattle.pcap_reader.specs.declared.link.Link.{Link}
use Rattle.pcap_reader.specs.declared.link.Link.TheVariants.{Ethernet, Raw, Ip6}
use Rattle.pcap_reader.specs.State.{CaptureRecord}
use Rattle.pcap_reader.specs.StartExamples.{ethernet_header}
use Rattle.pcap_reader.specs.CaptureExamples.{little_record}
use Rattle.pcap_reader.specs.declared.start.Order.TheVariants.{Little}
use Rattle.pcap_reader.specs.declared.state.Progress.TheVariants as progress
use Rattle.pcapng_reader.specs.Block.{BlockState}
use Rattle.pcapng_reader.specs.Capture.{Blocks, End, Fault, Record, Recorded, capture_of, next_of}
use Rattle.pcapng_reader.specs.Capture.{whole_records}

-- a number of four bytes below 256, in little-endian and in big-endian order
abbrev little : ℕ → List ℕ
little n = n ∷ 0 ∷ 0 ∷ 0 ∷ []

abbrev big : ℕ → List ℕ
big n = 0 ∷ 0 ∷ 0 ∷ n ∷ []

-- a section of version 1.0 whose length isn't told
abbrev section_type : List ℕ
section_type = 0x0A ∷ 0x0D ∷ 0x0D ∷ 0x0A ∷ []

abbrev little_section : List ℕ
little_section =
    section_type ++ little 28 ++ 0x4D ∷ 0x3C ∷ 0x2B ∷ 0x1A ∷ 1 ∷ 0 ∷ 0 ∷ 0
    ∷ replicate 8 255 ++ little 28

abbrev big_section : List ℕ
big_section =
    section_type ++ big 28 ++ 0x1A ∷ 0x2B ∷ 0x3C ∷ 0x4D ∷ 0 ∷ 1 ∷ 0 ∷ 0
    ∷ replicate 8 255 ++ big 28

-- an interface of a link type below 256, with a snap length
abbrev little_interface : ℕ → List ℕ
little_interface link = little 1 ++ little 20 ++ link ∷ 0 ∷ 0 ∷ 0 ∷ 0 ∷ 0 ∷ 4 ∷ 0 ∷ little 20

abbrev big_interface : ℕ → List ℕ
big_interface link = big 1 ++ big 20 ++ 0 ∷ link ∷ 0 ∷ 0 ∷ 0 ∷ 4 ∷ 0 ∷ 0 ∷ big 20

-- a packet of two captured bytes of an interface, whose original length lies
abbrev little_packet : ℕ → List ℕ
little_packet interface =
    little 6 ++ little 36 ++ little interface ++ replicate 8 0 ++ little 2 ++ little 1
    ++ 8 ∷ 9 ∷ 0 ∷ 0 ∷ little 36

abbrev big_packet : ℕ → List ℕ
big_packet interface =
    big 6 ++ big 36 ++ big interface ++ replicate 8 0 ++ big 2 ++ big 1
    ++ 8 ∷ 9 ∷ 0 ∷ 0 ∷ big 36

-- a block of another type without a body
abbrev empty_block : List ℕ
empty_block = little 4 ++ little 12 ++ little 12

-- the two captured bytes
abbrev captured_of : Link → CaptureRecord
captured_of link = record { link = link; bytes = 8 ∷ 9 ∷ [] }

-- a capture that holds these records, and ends whole or by a fault
abbrev whole : List CaptureRecord → Recorded
whole records = record { records = records; fault = None }

abbrev broken : List CaptureRecord → CaptureFault → Recorded
broken records fault = record { records = records; fault = Some fault }

section_alone : capture_of little_section ≡ Ok (whole [])
section_alone = refl

one_packet : capture_of (little_section ++ little_interface 1 ++ little_packet 0)
    ≡ Ok (whole (captured_of Ethernet ∷ []))
one_packet = refl

one_packet_in_big_endian : capture_of (big_section ++ big_interface 101 ++ big_packet 0)
    ≡ Ok (whole (captured_of Raw ∷ []))
one_packet_in_big_endian = refl

-- each packet has the link type of its own interface
two_interfaces : capture_of (
    little_section ++ little_interface 1 ++ little_interface 229 ++ little_packet 1
    ++ little_packet 0)
    ≡ Ok (whole (captured_of Ip6 ∷ captured_of Ethernet ∷ []))
two_interfaces = refl

-- a second section of the other order has interfaces of its own
two_sections : capture_of (
    little_section ++ little_interface 1 ++ little_packet 0 ++ big_section ++ big_interface 101
    ++ big_packet 0)
    ≡ Ok (whole (captured_of Ethernet ∷ captured_of Raw ∷ []))
two_sections = refl

interfaces_end_with_their_section : capture_of (
    little_section ++ little_interface 1 ++ little_packet 0 ++ big_section ++ big_packet 0)
    ≡ Ok (broken (captured_of Ethernet ∷ []) (PngInterface 2))
interfaces_end_with_their_section = refl

blocks_between : capture_of (
    little_section ++ empty_block ++ little_interface 1 ++ empty_block ++ little_packet 0
    ++ empty_block)
    ≡ Ok (whole (captured_of Ethernet ∷ []))
blocks_between = refl

no_interface : capture_of (little_section ++ little_packet 0) ≡ Ok (broken [] (PngInterface 1))
no_interface = refl

-- an interface of another link type is no fault before it has a packet
other_link : capture_of (little_section ++ little_interface 9) ≡ Ok (whole [])
other_link = refl

packet_of_another_link : capture_of (little_section ++ little_interface 9 ++ little_packet 0)
    ≡ Ok (broken [] (PngLink 1))
packet_of_another_link = refl

one_byte_less : capture_of (
    little_section ++ little_interface 1 ++ little_packet 0 ++ take 35 (little_packet 0))
    ≡ Ok (broken (captured_of Ethernet ∷ []) (PngCut 2))
one_byte_less = refl

type_alone : capture_of section_type ≡ Ok (broken [] (PngCut 1))
type_alone = refl

-- eleven bytes are no block, and so are twelve of a section
cut_front : capture_of (take 11 little_section) ≡ Ok (broken [] (PngCut 1))
cut_front = refl

cut_section : capture_of (take 24 little_section) ≡ Ok (broken [] (PngCut 1))
cut_section = refl

-- fewer bytes than the type has are the header of a savefile
three_bytes : capture_of (take 3 section_type) ≡ Err HeaderCut
three_bytes = refl

another_format : capture_of (replicate 24 7) ≡ Err Magic
another_format = refl

savefile : capture_of (ethernet_header ++ little_record (little 2) ++ 8 ∷ 9 ∷ [])
    ≡ Ok (whole (captured_of Ethernet ∷ []))
savefile = refl

no_order : capture_of (section_type ++ little 28 ++ replicate 4 7) ≡ Ok (broken [] (PngOrder 1))
no_order = refl

-- the order comes before the length, and the length before the end of the file
short_section : capture_of (section_type ++ little 24 ++ 0x4D ∷ 0x3C ∷ 0x2B ∷ 0x1A ∷ [])
    ≡ Ok (broken [] (PngLength 1))
short_section = refl

uneven_len : capture_of (little_section ++ little 4 ++ little 13 ++ little 13)
    ≡ Ok (broken [] (PngLength 1))
uneven_len = refl

no_len : capture_of (little_section ++ little 4 ++ replicate 8 0) ≡ Ok (broken [] (PngLength 1))
no_len = refl

greatest_len : capture_of (little_section ++ little 4 ++ 252 ∷ replicate 3 255 ++ little 0)
    ≡ Ok (broken [] (PngCut 1))
greatest_len = refl

lengths_differ : capture_of (little_section ++ little 4 ++ little 12 ++ little 16)
    ≡ Ok (broken [] (PngLength 1))
lengths_differ = refl

version_2 : capture_of (
    section_type ++ little 28 ++ 0x4D ∷ 0x3C ∷ 0x2B ∷ 0x1A ∷ 2 ∷ 0 ∷ 0 ∷ 0
    ∷ replicate 8 255 ++ little 28)
    ≡ Ok (broken [] (PngVersion 1))
version_2 = refl

-- the version comes before the end of the file
version_2_cut : capture_of (
    section_type ++ little 28 ++ 0x4D ∷ 0x3C ∷ 0x2B ∷ 0x1A ∷ 2 ∷ 0 ∷ 0 ∷ 0 ∷ replicate 8 255)
    ≡ Ok (broken [] (PngVersion 1))
version_2_cut = refl

-- a packet whose captured length is 262,145, where the end of the file cuts it too
too_long : capture_of (
    little_section ++ little_interface 1 ++ little 6 ++ little 36 ++ little 0 ++ replicate 8 0
    ++ 1 ∷ 0 ∷ 4 ∷ 0 ∷ little 0)
    ≡ Ok (broken [] (RecordTooLong 1))
too_long = refl

-- a block that has no room for its captured bytes
no_room : capture_of (
    little_section ++ little_interface 1 ++ little 6 ++ little 36 ++ little 0 ++ replicate 8 0
    ++ little 5 ++ little 0)
    ≡ Ok (broken [] (PngLength 1))
no_room = refl

-- a reader in a section with so many interfaces, after so many records and blocks
abbrev reader : List ℕ → ℕ → ℕ → BlockState
reader first count blocks = record {
  order = Little;
  interfaces = Some Ethernet ∷ [];
  first = first;
  count = count;
  blocks = blocks;
  progress = progress.Reading;
}

nothing_is_left : next_of (Blocks (reader [] 5 7)) [] ≡ End (Blocks (reader [] 5 7))
nothing_is_left = refl

a_packet_and_what_is_after :
    next_of (Blocks (reader [] 5 7)) (empty_block ++ little_packet 0 ++ 1 ∷ [])
    ≡ Record (captured_of Ethernet) (Blocks (reader [] 6 9)) (1 ∷ [])
a_packet_and_what_is_after = refl

type_read_before : next_of (Blocks (reader (take 4 empty_block) 5 7)) (little 12 ++ little 12)
    ≡ End (Blocks (reader [] 5 8))
type_read_before = refl

the_last_record : next_of (Blocks (reader [] 999999999 7)) (little_packet 0)
    ≡ Record (captured_of Ethernet) (Blocks (reader [] 1000000000 8)) []
the_last_record = refl

one_record_too_many : next_of (Blocks (reader [] 1000000000 7)) (0 ∷ []) ≡ Fault TooManyRecords
one_record_too_many = refl

no_byte_too_many : next_of (Blocks (reader [] 1000000000 7)) []
    ≡ End (Blocks (reader [] 1000000000 7))
no_byte_too_many = refl

one_block_too_many : next_of (Blocks (reader [] 7 2000000000)) (0 ∷ []) ≡ Fault TooManyRecords
one_block_too_many = refl

-- an interface after so many
abbrev interfaces_after : ℕ → BlockState
interfaces_after len = record {
  order = Little;
  interfaces = replicate len None;
  first = [];
  count = 0;
  blocks = 0;
  progress = progress.Reading;
}

one_interface_too_many : next_of (Blocks (interfaces_after 1024)) (little_interface 1)
    ≡ Fault (PngTooMany 1)
one_interface_too_many = refl

whole_records_before_a_cut : whole_records (
    little_section ++ little_interface 1 ++ little_packet 0 ++ take 35 (little_packet 0))
    ≡ captured_of Ethernet ∷ []
whole_records_before_a_cut = refl
