-- Examples of IPv6 packets and of chains of extension headers, each checked by evaluation.
use Rattle.std.specs.Prelude.{◌≡◌, ℕ, List, [], ◌∷◌, ◌++◌, take, replicate, Result, Ok, Err, refl}
use Rattle.header_extract.specs.declared.class.Class.{Class}
use Rattle.header_extract.specs.declared.class.Class.TheVariants.{Ip6, Other, Short}
use Rattle.header_extract.specs.Class.{FrameClass}
use Rattle.header_extract.specs.Ports.{no_ports}
use Rattle.header_extract.specs.Ip4Examples.{ports}
use Rattle.header_extract.specs.Ip6.{ip6_class}

-- 2001:db8::1 and 2001:db8::2
abbrev addresses : List ℕ
addresses =
    0x20 ∷ 1 ∷ 0x0D ∷ 0xB8 ∷ replicate 11 0 ++ 1 ∷ 0x20 ∷ 1 ∷ 0x0D ∷ 0xB8 ∷ replicate 11 0 ++ 2 ∷ []

-- a packet from the first to the second: its first byte, the number of the header after it, and
-- all that stands after
abbrev packet : ℕ → ℕ → List ℕ → List ℕ
packet first next after = first ∷ 0 ∷ 0 ∷ 0 ∷ 0 ∷ 4 ∷ next ∷ 64 ∷ addresses ++ after

abbrev pub ip6_packet : ℕ → List ℕ → List ℕ
ip6_packet next after = packet 0x60 next after

-- its class and key, with the bytes of its ports
abbrev pub ip6_frame : ℕ → List ℕ → Result FrameClass Class
ip6_frame protocol ports = Ok (record { class = Ip6; key = protocol ∷ addresses ++ ports })

-- a header of options: the number of the header after it, and its words of 8 bytes less one
abbrev options : ℕ → ℕ → List ℕ
options next words = next ∷ words ∷ replicate 6 0 ++ replicate 8 0

-- the same of 8 bytes
abbrev short_options : ℕ → List ℕ
short_options next = next ∷ replicate 7 0

-- a fragment header: the number of the header after it, and the two bytes of offset and flags
abbrev part : ℕ → ℕ → ℕ → List ℕ
part next high low = next ∷ 0 ∷ high ∷ low ∷ replicate 4 7

udp : ip6_class (ip6_packet 17 ports) ≡ ip6_frame 17 ports
udp = refl

tcp : ip6_class (ip6_packet 6 ports) ≡ ip6_frame 6 ports
tcp = refl

sctp : ip6_class (ip6_packet 132 ports) ≡ ip6_frame 132 ports
sctp = refl

-- the low four bits of the first byte are no part of the version
traffic_class : ip6_class (packet 0x6F 6 ports) ≡ ip6_frame 6 ports
traffic_class = refl

icmp : ip6_class (ip6_packet 58 ports) ≡ ip6_frame 58 no_ports
icmp = refl

-- exactly the header of 40 bytes
no_next_header : ip6_class (ip6_packet 59 []) ≡ ip6_frame 59 no_ports
no_next_header = refl

one_byte_less_than_the_header : ip6_class (take 39 (ip6_packet 59 [])) ≡ Err Short
one_byte_less_than_the_header = refl

no_bytes : ip6_class [] ≡ Err Short
no_bytes = refl

one_byte_less_than_the_ports : ip6_class (ip6_packet 6 (take 3 ports)) ≡ Err Short
one_byte_less_than_the_ports = refl

version_4 : ip6_class (packet 0x40 6 ports) ≡ Err Other
version_4 = refl

-- a cut comes before another version
version_4_cut : ip6_class (take 39 (packet 0x40 6 ports)) ≡ Err Short
version_4_cut = refl

hop_by_hop : ip6_class (ip6_packet 0 (short_options 17 ++ ports)) ≡ ip6_frame 17 ports
hop_by_hop = refl

routing : ip6_class (ip6_packet 43 (short_options 17 ++ ports)) ≡ ip6_frame 17 ports
routing = refl

destination_options : ip6_class (ip6_packet 60 (short_options 17 ++ ports)) ≡ ip6_frame 17 ports
destination_options = refl

-- a header of 16 bytes
two_words : ip6_class (ip6_packet 0 (options 17 1 ++ ports)) ≡ ip6_frame 17 ports
two_words = refl

exactly_two_words : ip6_class (ip6_packet 0 (options 58 1)) ≡ ip6_frame 58 no_ports
exactly_two_words = refl

one_byte_less_than_two_words : ip6_class (ip6_packet 0 (take 15 (options 58 1))) ≡ Err Short
one_byte_less_than_two_words = refl

one_byte_less_than_one_word : ip6_class (ip6_packet 0 (take 7 (short_options 58))) ≡ Err Short
one_byte_less_than_one_word = refl

ports_cut_after_options : ip6_class (ip6_packet 0 (short_options 17 ++ take 3 ports)) ≡ Err Short
ports_cut_after_options = refl

options_of_no_bytes : ip6_class (ip6_packet 60 []) ≡ Err Short
options_of_no_bytes = refl

-- AH and ESP are taken as the last header
ah : ip6_class (ip6_packet 51 (short_options 17 ++ ports)) ≡ ip6_frame 51 no_ports
ah = refl

esp : ip6_class (ip6_packet 50 ports) ≡ ip6_frame 50 no_ports
esp = refl

-- more fragments follow, and the offset is 0
first_fragment : ip6_class (ip6_packet 44 (part 17 0 1 ++ ports)) ≡ ip6_frame 17 ports
first_fragment = refl

reserved_bits : ip6_class (ip6_packet 44 (part 17 0 7 ++ ports)) ≡ ip6_frame 17 ports
reserved_bits = refl

later_fragment : ip6_class (ip6_packet 44 (part 17 0 8 ++ ports)) ≡ ip6_frame 17 no_ports
later_fragment = refl

later_fragment_by_the_high_byte : ip6_class (ip6_packet 44 (part 17 1 0 ++ ports))
    ≡ ip6_frame 17 no_ports
later_fragment_by_the_high_byte = refl

later_fragment_of_no_bytes : ip6_class (ip6_packet 44 (part 6 1 0)) ≡ ip6_frame 6 no_ports
later_fragment_of_no_bytes = refl

-- its protocol is the number that it names, also of an extension header
later_fragment_of_options : ip6_class (ip6_packet 44 (part 60 1 0 ++ short_options 6))
    ≡ ip6_frame 60 no_ports
later_fragment_of_options = refl

one_byte_less_than_a_fragment : ip6_class (ip6_packet 44 (take 7 (part 17 0 8))) ≡ Err Short
one_byte_less_than_a_fragment = refl

exactly_a_first_fragment : ip6_class (ip6_packet 44 (part 58 0 0)) ≡ ip6_frame 58 no_ports
exactly_a_first_fragment = refl

-- hop-by-hop options of two words, routing, destination options and a first fragment, of TCP
abbrev four_headers : List ℕ
four_headers = options 43 1 ++ short_options 60 ++ short_options 44 ++ part 6 0 0

chain_of_four :
    ip6_class (ip6_packet 0 (four_headers ++ ports))
    ≡ ip6_frame 6 ports
chain_of_four = refl

chain_of_four_cut :
    ip6_class (ip6_packet 0 (four_headers ++ take 3 ports))
    ≡ Err Short
chain_of_four_cut = refl

options_after_a_later_fragment :
    ip6_class (ip6_packet 0 (short_options 44 ++ part 0 0 8 ++ short_options 6 ++ ports))
    ≡ ip6_frame 0 no_ports
options_after_a_later_fragment = refl

same_header_twice : ip6_class (ip6_packet 60 (short_options 60 ++ short_options 6 ++ ports))
    ≡ ip6_frame 6 ports
same_header_twice = refl
