-- The class of a frame by its link type: the header of the link, VLAN tags and the packet after
-- them (IEEE 802.3, 3.2.6, IEEE 802.1Q, 9, and the pages of tcpdump.org on the link types).
use Rattle.std.specs.Prelude.{ℕ, zero, suc, ◌==◌, List, drop, Bool, ◌||◌, Result, Ok, Err, if◌then◌else◌}
use Rattle.byte_numbers.specs.Number.{number_at}
use Rattle.pcap_reader.specs.declared.link.Link.{Link}
use Rattle.pcap_reader.specs.declared.link.Link.TheVariants as links
use Rattle.header_extract.specs.declared.class.Class.{Class}
use Rattle.header_extract.specs.declared.class.Class.TheVariants.{Other}
use Rattle.header_extract.specs.Class.{FrameClass, at_least, ◌>>=◌}
use Rattle.header_extract.specs.Ip4.{version_of, ip4_class}
use Rattle.header_extract.specs.Ip6.{ip6_class}

-- the types of a customer's tag and of a service provider's tag
abbrev pub is_tag : ℕ → Bool
is_tag ethertype = ethertype == 0x8100 || ethertype == 0x88A8

-- the type of what stands after at most so many tags, and the bytes after that type; a tag of two
-- bytes is followed by a type
abbrev pub after_tags : ℕ → ℕ → List ℕ → Result (ℕ × List ℕ) Class
after_tags zero ethertype payload = Ok (ethertype, payload)
after_tags (suc tags) ethertype payload =
    if is_tag ethertype then (do
      tag ← at_least 4 payload
      after_tags tags (number_at tag 2 2) (drop 4 payload))
    else Ok (ethertype, payload)

-- 0x0800 stands for IPv4 and 0x86DD for IPv6
abbrev pub class_by_type : ℕ × List ℕ → Result FrameClass Class
class_by_type typed =
    if typed.0 == 0x0800 then ip4_class typed.1
    else (if typed.0 == 0x86DD then ip6_class typed.1 else Err Other)

-- a type, then at most two tags, and then the packet
abbrev pub class_after_type : ℕ → List ℕ → Result FrameClass Class
class_after_type ethertype payload = do
  typed ← after_tags 2 ethertype payload
  class_by_type typed

-- a header of so many bytes, with the type at this place, and what stands after it
abbrev pub typed_class : ℕ → ℕ → List ℕ → Result FrameClass Class
typed_class header_len type_at frame = do
  header ← at_least header_len frame
  class_after_type (number_at header type_at 2) (drop header_len frame)

-- a packet of version 4 or 6
abbrev pub class_by_version : ℕ → List ℕ → Result FrameClass Class
class_by_version version packet =
    if version == 4 then ip4_class packet
    else (if version == 6 then ip6_class packet else Err Other)

-- a packet by its version
abbrev pub raw_class : List ℕ → Result FrameClass Class
raw_class frame = do
  front ← at_least 1 frame
  class_by_version (version_of front) frame

-- the class of a frame, by its link type
abbrev pub frame_class : Link → List ℕ → Result FrameClass Class
frame_class links.Ethernet frame = typed_class 14 12 frame
frame_class links.Cooked frame = typed_class 16 14 frame
frame_class links.CookedV2 frame = typed_class 20 0 frame
frame_class links.Raw frame = raw_class frame
frame_class links.Ip4 frame = ip4_class frame
frame_class links.Ip6 frame = ip6_class frame
