-- Examples of IPv4 packets, each checked by evaluation.
use Rattle.std.specs.Prelude.{◌≡◌, ℕ, List, [], ◌∷◌, ◌++◌, take, replicate, Result, Ok, Err, refl}
use Rattle.header_extract.specs.declared.class.Class.{Class}
use Rattle.header_extract.specs.declared.class.Class.TheVariants.{Ip4, Other, Short}
use Rattle.header_extract.specs.Class.{FrameClass}
use Rattle.header_extract.specs.Ports.{no_ports}
use Rattle.header_extract.specs.Ip4.{ip4_class}

-- a packet from 192.168.1.5 to 192.168.2.31: version and header length, the two bytes of flags and
-- fragment offset, the protocol, and what stands after the first 20 bytes
abbrev pub ip4_packet : ℕ → ℕ → ℕ → ℕ → List ℕ → List ℕ
ip4_packet first high low protocol after =
    first ∷ 0 ∷ 0 ∷ 24 ∷ 0 ∷ 0 ∷ high ∷ low ∷ 64 ∷ protocol ∷ 0 ∷ 0
    ∷ 192 ∷ 168 ∷ 1 ∷ 5 ∷ 192 ∷ 168 ∷ 2 ∷ 31 ∷ after

-- its class and key, with the bytes of its ports
abbrev pub ip4_frame : ℕ → List ℕ → Result FrameClass Class
ip4_frame protocol ports =
    Ok (record { class = Ip4; key = protocol ∷ 192 ∷ 168 ∷ 1 ∷ 5 ∷ 192 ∷ 168 ∷ 2 ∷ 31 ∷ ports })

-- from port 5000 to port 1234
abbrev pub ports : List ℕ
ports = 19 ∷ 136 ∷ 4 ∷ 210 ∷ []

udp : ip4_class (ip4_packet 0x45 0 0 17 ports) ≡ ip4_frame 17 ports
udp = refl

tcp : ip4_class (ip4_packet 0x45 0 0 6 ports) ≡ ip4_frame 6 ports
tcp = refl

sctp : ip4_class (ip4_packet 0x45 0 0 132 ports) ≡ ip4_frame 132 ports
sctp = refl

more_than_the_ports : ip4_class (ip4_packet 0x45 0 0 6 (ports ++ 9 ∷ 9 ∷ [])) ≡ ip4_frame 6 ports
more_than_the_ports = refl

-- ICMP has no ports
icmp : ip4_class (ip4_packet 0x45 0 0 1 ports) ≡ ip4_frame 1 no_ports
icmp = refl

exactly_the_header : ip4_class (ip4_packet 0x45 0 0 1 []) ≡ ip4_frame 1 no_ports
exactly_the_header = refl

one_byte_less_than_the_header : ip4_class (take 19 (ip4_packet 0x45 0 0 1 [])) ≡ Err Short
one_byte_less_than_the_header = refl

no_bytes : ip4_class [] ≡ Err Short
no_bytes = refl

one_byte_less_than_the_ports : ip4_class (ip4_packet 0x45 0 0 17 (take 3 ports)) ≡ Err Short
one_byte_less_than_the_ports = refl

version_6 : ip4_class (ip4_packet 0x65 0 0 17 ports) ≡ Err Other
version_6 = refl

-- a cut comes before another version
version_6_cut : ip4_class (take 19 (ip4_packet 0x65 0 0 17 ports)) ≡ Err Short
version_6_cut = refl

header_of_four_words : ip4_class (ip4_packet 0x44 0 0 17 ports) ≡ Err Other
header_of_four_words = refl

-- a header of six words
options : ip4_class (ip4_packet 0x46 0 0 17 (replicate 4 1 ++ ports)) ≡ ip4_frame 17 ports
options = refl

ports_cut_after_options : ip4_class (ip4_packet 0x46 0 0 17 (replicate 4 1 ++ take 3 ports))
    ≡ Err Short
ports_cut_after_options = refl

exactly_the_options : ip4_class (ip4_packet 0x46 0 0 1 (replicate 4 1)) ≡ ip4_frame 1 no_ports
exactly_the_options = refl

one_byte_less_than_the_options : ip4_class (ip4_packet 0x46 0 0 1 (replicate 3 1)) ≡ Err Short
one_byte_less_than_the_options = refl

most_options : ip4_class (ip4_packet 0x4F 0 0 132 (replicate 40 1 ++ ports)) ≡ ip4_frame 132 ports
most_options = refl

one_byte_less_than_most_options : ip4_class (ip4_packet 0x4F 0 0 1 (replicate 39 1)) ≡ Err Short
one_byte_less_than_most_options = refl

-- more fragments follow, and the offset is 0
first_fragment : ip4_class (ip4_packet 0x45 0x20 0 17 ports) ≡ ip4_frame 17 ports
first_fragment = refl

all_flags : ip4_class (ip4_packet 0x45 0xE0 0 17 ports) ≡ ip4_frame 17 ports
all_flags = refl

later_fragment : ip4_class (ip4_packet 0x45 0 1 17 ports) ≡ ip4_frame 17 no_ports
later_fragment = refl

later_fragment_by_the_high_bits : ip4_class (ip4_packet 0x45 0x10 0 17 ports)
    ≡ ip4_frame 17 no_ports
later_fragment_by_the_high_bits = refl

later_fragment_of_no_bytes : ip4_class (ip4_packet 0x45 0 1 17 []) ≡ ip4_frame 17 no_ports
later_fragment_of_no_bytes = refl

-- ESP and AH are taken as they stand
esp : ip4_class (ip4_packet 0x45 0 0 50 ports) ≡ ip4_frame 50 no_ports
esp = refl
