-- Examples of frames of each link type, each checked by evaluation.
use Rattle.std.specs.Prelude.{◌≡◌, ℕ, List, [], ◌∷◌, ◌++◌, take, replicate, Err, refl}
use Rattle.pcap_reader.specs.declared.link.Link.TheVariants as links
use Rattle.header_extract.specs.declared.class.Class.TheVariants.{Other, Short}
use Rattle.header_extract.specs.Ip4Examples.{ip4_packet, ip4_frame, ports}
use Rattle.header_extract.specs.Ip6Examples.{ip6_packet, ip6_frame}
use Rattle.header_extract.specs.Link.{frame_class}

-- UDP over IPv4, and TCP over IPv6
abbrev ip4 : List ℕ
ip4 = ip4_packet 0x45 0 0 17 ports

abbrev ip6 : List ℕ
ip6 = ip6_packet 6 ports

-- the addresses of an Ethernet frame, and its type as two bytes
abbrev ethernet : ℕ → ℕ → List ℕ → List ℕ
ethernet high low after = replicate 12 0 ++ high ∷ low ∷ after

-- a tag of a network, and the type after it as two bytes
abbrev tag : ℕ → ℕ → List ℕ → List ℕ
tag high low after = 0 ∷ 5 ∷ high ∷ low ∷ after

-- a Linux "cooked" header, of the first version and of the second
abbrev cooked : ℕ → ℕ → List ℕ → List ℕ
cooked high low after = replicate 14 1 ++ high ∷ low ∷ after

abbrev cooked_v2 : ℕ → ℕ → List ℕ → List ℕ
cooked_v2 high low after = high ∷ low ∷ replicate 18 1 ++ after

ethernet_ip4 : frame_class links.Ethernet (ethernet 8 0 ip4) ≡ ip4_frame 17 ports
ethernet_ip4 = refl

ethernet_ip6 : frame_class links.Ethernet (ethernet 0x86 0xDD ip6) ≡ ip6_frame 6 ports
ethernet_ip6 = refl

arp : frame_class links.Ethernet (ethernet 8 6 (replicate 28 0)) ≡ Err Other
arp = refl

-- an IEEE 802.3 frame with a length
length_in_place_of_a_type : frame_class links.Ethernet (ethernet 0 100 ip4) ≡ Err Other
length_in_place_of_a_type = refl

exactly_the_ethernet_header : frame_class links.Ethernet (ethernet 8 6 []) ≡ Err Other
exactly_the_ethernet_header = refl

one_byte_less_than_the_ethernet_header : frame_class links.Ethernet (take 13 (ethernet 8 6 []))
    ≡ Err Short
one_byte_less_than_the_ethernet_header = refl

no_bytes : frame_class links.Ethernet [] ≡ Err Short
no_bytes = refl

ip4_of_no_bytes : frame_class links.Ethernet (ethernet 8 0 []) ≡ Err Short
ip4_of_no_bytes = refl

type_and_version_differ : frame_class links.Ethernet (ethernet 8 0 ip6) ≡ Err Other
type_and_version_differ = refl

customer_tag : frame_class links.Ethernet (ethernet 0x81 0 (tag 8 0 ip4)) ≡ ip4_frame 17 ports
customer_tag = refl

service_tag : frame_class links.Ethernet (ethernet 0x88 0xA8 (tag 8 0 ip4)) ≡ ip4_frame 17 ports
service_tag = refl

two_tags : frame_class links.Ethernet (ethernet 0x88 0xA8 (tag 0x81 0 (tag 0x86 0xDD ip6)))
    ≡ ip6_frame 6 ports
two_tags = refl

two_customer_tags : frame_class links.Ethernet (ethernet 0x81 0 (tag 0x81 0 (tag 8 0 ip4)))
    ≡ ip4_frame 17 ports
two_customer_tags = refl

-- a third tag is another type
tag_in_a_tag_in_a_tag :
    frame_class links.Ethernet (ethernet 0x88 0xA8 (tag 0x81 0 (tag 0x81 0 (tag 8 0 ip4))))
    ≡ Err Other
tag_in_a_tag_in_a_tag = refl

exactly_a_tag : frame_class links.Ethernet (ethernet 0x81 0 (tag 8 6 [])) ≡ Err Other
exactly_a_tag = refl

one_byte_less_than_a_tag : frame_class links.Ethernet (ethernet 0x81 0 (take 3 (tag 8 6 [])))
    ≡ Err Short
one_byte_less_than_a_tag = refl

one_byte_less_than_two_tags :
    frame_class links.Ethernet (ethernet 0x81 0 (tag 0x81 0 (take 3 (tag 8 6 []))))
    ≡ Err Short
one_byte_less_than_two_tags = refl

tag_of_no_bytes : frame_class links.Ethernet (ethernet 0x81 0 []) ≡ Err Short
tag_of_no_bytes = refl

third_tag_of_no_bytes : frame_class links.Ethernet (ethernet 0x81 0 (tag 0x81 0 (tag 0x81 0 [])))
    ≡ Err Other
third_tag_of_no_bytes = refl

cooked_ip4 : frame_class links.Cooked (cooked 8 0 ip4) ≡ ip4_frame 17 ports
cooked_ip4 = refl

cooked_tag : frame_class links.Cooked (cooked 0x81 0 (tag 0x86 0xDD ip6)) ≡ ip6_frame 6 ports
cooked_tag = refl

exactly_the_cooked_header : frame_class links.Cooked (cooked 8 6 []) ≡ Err Other
exactly_the_cooked_header = refl

one_byte_less_than_the_cooked_header : frame_class links.Cooked (take 15 (cooked 8 6 []))
    ≡ Err Short
one_byte_less_than_the_cooked_header = refl

cooked_v2_ip6 : frame_class links.CookedV2 (cooked_v2 0x86 0xDD ip6) ≡ ip6_frame 6 ports
cooked_v2_ip6 = refl

cooked_v2_ip4 : frame_class links.CookedV2 (cooked_v2 8 0 ip4) ≡ ip4_frame 17 ports
cooked_v2_ip4 = refl

exactly_the_cooked_v2_header : frame_class links.CookedV2 (cooked_v2 8 6 []) ≡ Err Other
exactly_the_cooked_v2_header = refl

one_byte_less_than_the_cooked_v2_header : frame_class links.CookedV2 (take 19 (cooked_v2 8 6 []))
    ≡ Err Short
one_byte_less_than_the_cooked_v2_header = refl

raw_ip4 : frame_class links.Raw ip4 ≡ ip4_frame 17 ports
raw_ip4 = refl

raw_ip6 : frame_class links.Raw ip6 ≡ ip6_frame 6 ports
raw_ip6 = refl

raw_of_no_bytes : frame_class links.Raw [] ≡ Err Short
raw_of_no_bytes = refl

raw_of_one_byte : frame_class links.Raw (0x45 ∷ []) ≡ Err Short
raw_of_one_byte = refl

raw_of_another_version : frame_class links.Raw (0x55 ∷ []) ≡ Err Other
raw_of_another_version = refl

ip4_packets : frame_class links.Ip4 ip4 ≡ ip4_frame 17 ports
ip4_packets = refl

ip6_among_ip4_packets : frame_class links.Ip4 ip6 ≡ Err Other
ip6_among_ip4_packets = refl

ip6_packets : frame_class links.Ip6 ip6 ≡ ip6_frame 6 ports
ip6_packets = refl

-- 24 bytes of an IPv4 packet and 16 more are 40
ip4_among_ip6_packets : frame_class links.Ip6 (ip4 ++ replicate 16 0) ≡ Err Other
ip4_among_ip6_packets = refl

-- 24 bytes are no whole IPv6 header
ip4_too_short_for_ip6 : frame_class links.Ip6 ip4 ≡ Err Short
ip4_too_short_for_ip6 = refl
