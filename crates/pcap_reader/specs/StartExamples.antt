-- Examples of what file headers say, each checked by evaluation. The bytes of the first are those
-- of a capture that tcpdump writes of Ethernet frames on a little-endian machine.
use Rattle.std.specs.Prelude.{◌≡◌, ℕ, List, [], ◌∷◌, ◌++◌, take, replicate, Ok, Err, refl}
use Rattle.pcap_reader.specs.declared.capture_fault.CaptureFault.TheVariants.{HeaderCut, Magic, Version, LinkType}
use Rattle.pcap_reader.specs.declared.link.Link.TheVariants.{Ethernet, Raw, Cooked, CookedV2, Ip4, Ip6}
use Rattle.pcap_reader.specs.declared.start.Order.TheVariants.{Big, Little}
use Rattle.pcap_reader.specs.Start.{start_of}

-- a little-endian header: magic, major and minor version, and the four bytes of the network number
abbrev pub little_header : List ℕ → ℕ → ℕ → List ℕ → List ℕ
little_header magic major minor network =
    magic ++ major ∷ 0 ∷ minor ∷ 0 ∷ replicate 8 0 ++ 0 ∷ 0 ∷ 4 ∷ 0 ∷ network

-- the same in the other order
abbrev pub big_header : List ℕ → ℕ → ℕ → List ℕ → List ℕ
big_header magic major minor network =
    magic ++ 0 ∷ major ∷ 0 ∷ minor ∷ replicate 8 0 ++ 0 ∷ 4 ∷ 0 ∷ 0 ∷ network

abbrev little_micro : List ℕ
little_micro = 0xD4 ∷ 0xC3 ∷ 0xB2 ∷ 0xA1 ∷ []

abbrev little_nano : List ℕ
little_nano = 0x4D ∷ 0x3C ∷ 0xB2 ∷ 0xA1 ∷ []

abbrev big_micro : List ℕ
big_micro = 0xA1 ∷ 0xB2 ∷ 0xC3 ∷ 0xD4 ∷ []

abbrev big_nano : List ℕ
big_nano = 0xA1 ∷ 0xB2 ∷ 0x3C ∷ 0x4D ∷ []

-- little-endian, in microseconds, of Ethernet frames
abbrev pub ethernet_header : List ℕ
ethernet_header = little_header little_micro 2 4 (1 ∷ 0 ∷ 0 ∷ 0 ∷ [])

-- big-endian, in nanoseconds, of IPv6 packets
abbrev pub ip6_header : List ℕ
ip6_header = big_header big_nano 2 4 (0 ∷ 0 ∷ 0 ∷ 229 ∷ [])

little_endian_microseconds : start_of ethernet_header
    ≡ Ok (record { order = Little; link = Ethernet })
little_endian_microseconds = refl

big_endian_nanoseconds : start_of ip6_header ≡ Ok (record { order = Big; link = Ip6 })
big_endian_nanoseconds = refl

little_endian_nanoseconds : start_of (little_header little_nano 2 4 (101 ∷ 0 ∷ 0 ∷ 0 ∷ []))
    ≡ Ok (record { order = Little; link = Raw })
little_endian_nanoseconds = refl

big_endian_microseconds : start_of (big_header big_micro 2 4 (0 ∷ 0 ∷ 0 ∷ 113 ∷ []))
    ≡ Ok (record { order = Big; link = Cooked })
big_endian_microseconds = refl

-- 276 is 1 * 256 + 20
cooked_version_2 : start_of (little_header little_micro 2 4 (20 ∷ 1 ∷ 0 ∷ 0 ∷ []))
    ≡ Ok (record { order = Little; link = CookedV2 })
cooked_version_2 = refl

ip4_packets : start_of (big_header big_micro 2 4 (0 ∷ 0 ∷ 0 ∷ 228 ∷ []))
    ≡ Ok (record { order = Big; link = Ip4 })
ip4_packets = refl

-- the high 16 bits of the network number are ignored
high_bits_of_the_network : start_of (little_header little_micro 2 4 (1 ∷ 0 ∷ 0xFF ∷ 0xFC ∷ []))
    ≡ Ok (record { order = Little; link = Ethernet })
high_bits_of_the_network = refl

bytes_after_the_header : start_of (ethernet_header ++ 1 ∷ 2 ∷ 3 ∷ [])
    ≡ Ok (record { order = Little; link = Ethernet })
bytes_after_the_header = refl

no_bytes : start_of [] ≡ Err HeaderCut
no_bytes = refl

one_byte_less : start_of (take 23 ethernet_header) ≡ Err HeaderCut
one_byte_less = refl

-- a cut comes before a wrong magic
cut_and_no_magic : start_of (replicate 23 7) ≡ Err HeaderCut
cut_and_no_magic = refl

no_magic : start_of (replicate 24 7) ≡ Err Magic
no_magic = refl

-- the magic 0xA1B2CD34 of a modified format
modified_magic : start_of (little_header (0x34 ∷ 0xCD ∷ 0xB2 ∷ 0xA1 ∷ []) 2 4 (1 ∷ 0 ∷ 0 ∷ 0 ∷ []))
    ≡ Err Magic
modified_magic = refl

-- the first bytes of a pcapng file
pcapng : start_of (little_header (0x0A ∷ 0x0D ∷ 0x0D ∷ 0x0A ∷ []) 2 4 (1 ∷ 0 ∷ 0 ∷ 0 ∷ []))
    ≡ Err Magic
pcapng = refl

-- a wrong magic comes before a wrong version
magic_and_version : start_of (little_header (replicate 4 0) 3 4 (1 ∷ 0 ∷ 0 ∷ 0 ∷ [])) ≡ Err Magic
magic_and_version = refl

another_major_version : start_of (little_header little_micro 3 4 (1 ∷ 0 ∷ 0 ∷ 0 ∷ [])) ≡ Err Version
another_major_version = refl

another_minor_version : start_of (little_header little_micro 2 3 (1 ∷ 0 ∷ 0 ∷ 0 ∷ [])) ≡ Err Version
another_minor_version = refl

-- the order of the magic is that of all numbers
version_in_the_other_order :
    start_of (big_micro ++ 2 ∷ 0 ∷ 4 ∷ 0 ∷ replicate 12 0 ++ 0 ∷ 0 ∷ 0 ∷ 1 ∷ [])
    ≡ Err Version
version_in_the_other_order = refl

-- a wrong version comes before another link type
version_and_link_type : start_of (little_header little_micro 2 3 (9 ∷ 0 ∷ 0 ∷ 0 ∷ [])) ≡ Err Version
version_and_link_type = refl

another_link_type : start_of (little_header little_micro 2 4 (2 ∷ 0 ∷ 0 ∷ 0 ∷ [])) ≡ Err LinkType
another_link_type = refl

link_type_in_the_other_order : start_of (little_header little_micro 2 4 (0 ∷ 0 ∷ 0 ∷ 1 ∷ []))
    ≡ Err LinkType
link_type_in_the_other_order = refl
