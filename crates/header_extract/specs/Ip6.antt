-- The class and the key of an IPv6 packet (RFC 8200, 3 for its header, 4 for the extension
-- headers).
use Rattle.std.specs.Prelude.{ℕ, zero, suc, ◌+◌, ◌*◌, ◌/◌, ◌==◌, List, ◌∷◌, ◌++◌, length, take, drop, slice_index, Bool, ◌||◌, Result, Ok, Err, if◌then◌else◌}
use Rattle.byte_numbers.specs.Number.{number_at}
use Rattle.header_extract.specs.declared.class.Class.{Class}
use Rattle.header_extract.specs.declared.class.Class.TheVariants.{Ip6, Other, Short}
use Rattle.header_extract.specs.declared.ip6.Upper.{Upper}
use Rattle.header_extract.specs.Class.{FrameClass, at_least, ◌>>=◌}
use Rattle.header_extract.specs.Ip4.{version_of}
use Rattle.header_extract.specs.Ports.{no_ports, ports_of}

-- hop-by-hop options, routing and destination options, which have a length of their own (RFC 8200,
-- 4.3, 4.4 and 4.6)
abbrev pub is_options : ℕ → Bool
is_options next = next == 0 || next == 43 || next == 60

-- the number of a fragment header (RFC 8200, 4.5)
abbrev pub fragment : ℕ
fragment = 44

-- an extension header begins with the number of the header after it
abbrev pub next_of : List ℕ → ℕ
next_of header = slice_index header 0

-- the length of a header of options: its second byte counts words of 8 bytes, the first of them
-- left out
abbrev pub options_len : List ℕ → ℕ
options_len header = 8 * (slice_index header 1 + 1)

-- the packet is whole in front of this fragment header, or the first of its fragments: the high 13
-- bits of bytes 2 and 3 are 0
abbrev pub is_first_part : List ℕ → Bool
is_first_part header = number_at header 2 2 / 8 == 0

-- a header leads to the one after it, with its number and the bytes that are left, or it ends the
-- chain
pub data Step : Type 0 where
  Leads : (next : ℕ) (left : List ℕ) → Step
  Ends : (upper : Upper) → Step

-- a later fragment has the protocol that its header names, and its ports aren't in it
abbrev pub fragment_step : List ℕ → Step
fragment_step header =
    if is_first_part header then Leads (next_of header) (drop 8 header)
    else Ends (record { protocol = next_of header; ports = no_ports })

-- where the header leads whose number is `next`, and with which `left` begins
abbrev pub header_step : ℕ → List ℕ → Result Step Class
header_step next left =
    if is_options next then (do
      front ← at_least 8 left
      header ← at_least (options_len front) left
      Ok (Leads (next_of header) (drop (options_len header) left)))
    else (if next == fragment then (do
      header ← at_least 8 left
      Ok (fragment_step header))
    else (do
      ports ← ports_of next left
      Ok (Ends (record { protocol = next; ports = ports }))))

-- a step that leads on goes on with `rest`
abbrev pub followed : Step → (ℕ → List ℕ → Result Upper Class) → Result Upper Class
followed (Leads next left) rest = rest next left
followed (Ends upper) rest = Ok upper

-- The protocol that a chain of headers leads to, with its ports. Each header takes bytes away, so
-- that more fuel than there are bytes is enough.
abbrev pub upper_within : ℕ → ℕ → List ℕ → Result Upper Class
upper_within zero next left = Err Short
upper_within (suc fuel) next left = do
  step ← header_step next left
  followed step (λ after rest. upper_within fuel after rest)

-- the protocol that the header of this number leads to, with the ports after the chain
abbrev pub upper_of : ℕ → List ℕ → Result Upper Class
upper_of next left = upper_within (suc (length left)) next left

-- protocol, source address, destination address and ports
abbrev pub ip6_key : List ℕ → Upper → List ℕ
ip6_key header upper =
    upper.protocol ∷ (take 16 (drop 8 header) ++ take 16 (drop 24 header) ++ upper.ports)

-- the chain after a header of version 6, of which byte 6 is the number of the header after it
abbrev pub chain_of : List ℕ → List ℕ → Result Upper Class
chain_of header left =
    if version_of header == 6 then upper_of (slice_index header 6) left else Err Other

-- an IPv6 packet: 40 bytes of header, the chain of headers after it, and the ports
abbrev pub ip6_class : List ℕ → Result FrameClass Class
ip6_class packet = do
  header ← at_least 40 packet
  upper ← chain_of header (drop 40 packet)
  Ok (record { class = Ip6; key = ip6_key header upper })
