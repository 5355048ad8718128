-- The class and the key of an IPv4 packet (RFC 791, 3.1).
use Rattle.std.specs.Prelude.{◌≡◌, ℕ, ◌≤◌, ◌*◌, ◌/◌, ◌%◌, ◌==◌, List, ◌∷◌, ◌++◌, take, drop, slice_index, Bool, ◌&&◌, nat_le, Result, Ok, Err, if◌then◌else◌}
use Rattle.byte_numbers.specs.Number.{number_at}
use Rattle.header_extract.specs.declared.class.Class.{Class}
use Rattle.header_extract.specs.declared.class.Class.TheVariants.{Ip4, Other}
use Rattle.header_extract.specs.Class.{FrameClass, at_least, ◌>>=◌}
use Rattle.header_extract.specs.Ports.{no_ports, ports_of}

-- the high four bits of the first byte
abbrev pub version_of : List ℕ → ℕ
version_of packet = slice_index packet 0 / 16

-- the length of the header in words of four bytes: the low four bits of the first byte, of which
-- the least lawful is 5
abbrev pub header_words : List ℕ → Result ℕ Class
header_words header =
    if version_of header == 4 && nat_le 5 (slice_index header 0 % 16)
    then Ok (slice_index header 0 % 16) else Err Other

-- The header has so many bytes: four for each of its words, of which there are at least five.
pub record IsHeaderLen (header : List ℕ) (len : ℕ) : Type 0 where
  pub version : version_of header ≡ 4
  pub is_len : len ≡ slice_index header 0 % 16 * 4
  pub least : 20 ≤ len

-- the packet is whole, or the first of its fragments: the low 13 bits of bytes 6 and 7 are 0
abbrev pub is_first_part : List ℕ → Bool
is_first_part header = number_at header 6 2 % 8192 == 0

-- the protocol of the packet, which says what stands after the header
abbrev pub protocol_of : List ℕ → ℕ
protocol_of header = slice_index header 9

-- the ports stand after the header of a packet that is whole or the first of its fragments
abbrev pub ip4_ports : List ℕ → List ℕ → Result (List ℕ) Class
ip4_ports header payload =
    if is_first_part header then ports_of (protocol_of header) payload else Ok no_ports

-- protocol, source address, destination address and ports
abbrev pub ip4_key : List ℕ → List ℕ → List ℕ
ip4_key header ports =
    protocol_of header ∷ (take 4 (drop 12 header) ++ take 4 (drop 16 header) ++ ports)

-- an IPv4 packet: 20 bytes of header, the options, as its length says, and the ports
abbrev pub ip4_class : List ℕ → Result FrameClass Class
ip4_class packet = do
  header ← at_least 20 packet
  words ← header_words header
  whole ← at_least (4 * words) packet
  ports ← ip4_ports header (drop (4 * words) packet)
  Ok (record { class = Ip4; key = ip4_key header ports })
