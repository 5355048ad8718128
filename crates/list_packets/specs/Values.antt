-- Values of options as iptables-save prints them (iptables(8), "PARAMETERS"): numbers in decimal,
-- protocols by name or number, ports, and networks in the notation of RFC 4632, section 3.1, and
-- RFC 4291, section 2.3. A number has no zero before others, since iptables would read it in octal.
use Rattle.std.specs.Prelude.{ℕ, ◌+◌, ◌-◌, ◌*◌, ◌/◌, ◌%◌, ◌^◌, ◌==◌, Bool, true, not, ◌&&◌, ◌||◌, nat_le}
use Rattle.std.specs.Prelude.{if◌then◌else◌, min, max, List, [], ◌∷◌, Option, Some, None}
use Rattle.std.specs.Prelude.{false, is_some, length, option_and_then}
use Rattle.std.specs.Option.{option_map}
use Rattle.std.specs.Str.{bytes_eq}
use Rattle.field_defs.specs.declared.field.Family.{Family}
use Rattle.field_defs.specs.declared.field.Family.TheVariants.{Ip4, Ip6}
use Rattle.text_scan.specs.Digits.{are_digits, place_value}
use Rattle.text_scan.specs.Ip4.{ip4_of}
use Rattle.text_scan.specs.Ip4Text.{ip4_spelling}
use Rattle.text_scan.specs.Ip6.{ip6_of}
use Rattle.text_scan.specs.Parts.{colon, slash, cut_at}
use Rattle.list_chains.specs.declared.span.Span.{Span}
use Rattle.list_packets.specs.declared.values.AddressRange.{AddressRange}
use Rattle.list_packets.specs.declared.values.AddressSpans.{AddressSpans}

-- `,`, which separates the parts of lists
abbrev pub comma : ℕ
comma = 44

-- the greatest port
abbrev pub max_port : ℕ
max_port = 65535

-- the greatest number of a protocol
abbrev pub max_protocol : ℕ
max_protocol = 255

-- the word has a byte, and no zero before others
abbrev pub is_plain : List ℕ → Bool
is_plain [] = false
is_plain (c ∷ []) = true
is_plain (c ∷ d ∷ cs) = not (c == 48)

-- the number that a word spells, at most so great
abbrev pub plain_number : ℕ → List ℕ → Option ℕ
plain_number greatest word =
    if is_plain word && are_digits 10 word && nat_le (place_value 10 word) greatest
    then Some (place_value 10 word) else None

-- the greatest number of 64 bits
abbrev pub max_count : ℕ
max_count = 18446744073709551615

-- the span from one number to another, if that isn't below the first
abbrev pub filled_span : ℕ → ℕ → Option Span
filled_span low high = if nat_le low high then Some (record { low = low; high = high }) else None

-- the span from one number to another that is above it
abbrev pub wide_span : ℕ → ℕ → Option Span
wide_span low high = if low == high then None else filled_span low high

-- one port is a span of its own, and two stand around `:`, the lower first
abbrev pub closed_span_of_cut : List ℕ → Option (List ℕ × List ℕ) → Option Span
closed_span_of_cut word None =
    option_and_then (λ port. filled_span port port) (plain_number max_port word)
closed_span_of_cut word (Some cut) =
    option_and_then (λ low. option_and_then (wide_span low) (plain_number max_port cut.1))
    (plain_number max_port cut.0)

-- the span of ports that a word spells
abbrev pub closed_span : List ℕ → Option Span
closed_span word = closed_span_of_cut word (cut_at colon word)

-- a port, or another one where it is left out
abbrev pub port_or : ℕ → List ℕ → Option ℕ
port_or other text = if length text == 0 then Some other else plain_number max_port text

-- before `:` the least port may be left out, and after it the greatest
abbrev pub port_span_of_cut : List ℕ → Option (List ℕ × List ℕ) → Option Span
port_span_of_cut word None = closed_span word
port_span_of_cut word (Some cut) =
    option_and_then (λ low. option_and_then (filled_span low) (port_or max_port cut.1))
    (port_or 0 cut.0)

-- the span of ports that a word spells, which may have an open end
abbrev pub port_span : List ℕ → Option Span
port_span word = port_span_of_cut word (cut_at colon word)

-- the first of two that is there
abbrev pub first_of : {A : Type 0} → Option A → Option A → Option A
first_of (Some one) other = Some one
first_of None other = other

-- how many bits an address of a family has
abbrev pub most_bits : Family → ℕ
most_bits Ip4 = 32
most_bits Ip6 = 128

-- the numbers that agree with a number in all but their last free bits
abbrev pub prefix_span : ℕ → ℕ → Span
prefix_span number free = record {
  low = number / 2 ^ free * 2 ^ free;
  high = number / 2 ^ free * 2 ^ free + (2 ^ free - 1);
}

-- An IPv4 address of which so many leading bits count. It has no high half, for which any number
-- stands.
abbrev pub ip4_spans : ℕ → ℕ → AddressSpans
ip4_spans address bits =
    record { high = prefix_span 0 64; low = prefix_span address (32 - bits) }

-- an IPv6 address of which so many leading bits count: the first 64 of them are of the high half
abbrev pub ip6_spans : ℕ → ℕ → AddressSpans
ip6_spans address bits = record {
  high = prefix_span (address / 2 ^ 64) (64 - min bits 64);
  low = prefix_span (address % 2 ^ 64) (128 - max bits 64);
}

-- an address, where its text is the one that is printed of it
abbrev pub if_printed : List ℕ → Option ℕ → Option ℕ
if_printed text None = None
if_printed text (Some address) =
    if bytes_eq text (ip4_spelling address) then Some address else None

-- the IPv4 address that a text spells without leading zeros
abbrev pub ip4_plain : List ℕ → Option ℕ
ip4_plain text = if_printed text (ip4_of text)

-- the halves of an address of a family, of which so many leading bits count
abbrev pub spans_of_address : Family → List ℕ → ℕ → Option AddressSpans
spans_of_address Ip4 text bits = option_map (λ address. ip4_spans address bits) (ip4_plain text)
spans_of_address Ip6 text bits = option_map (λ address. ip6_spans address bits) (ip6_of text)

-- a network by what stands around its `/`, if it has one; without it all bits count
abbrev pub network_of_cut : Family → List ℕ → Option (List ℕ × List ℕ) → Option AddressSpans
network_of_cut family word None = spans_of_address family word (most_bits family)
network_of_cut family word (Some cut) =
    option_and_then (spans_of_address family cut.0) (plain_number (most_bits family) cut.1)

-- the network that a word spells
abbrev pub network_of : Family → List ℕ → Option AddressSpans
network_of family word = network_of_cut family word (cut_at slash word)

-- an address alone
abbrev pub address_alone : Family → List ℕ → Option AddressSpans
address_alone family text = spans_of_address family text (most_bits family)

-- the number of an address
abbrev pub address_of : Family → List ℕ → Option ℕ
address_of Ip4 text = ip4_plain text
address_of Ip6 text = ip6_of text

-- the addresses from one to another, if that isn't below the first
abbrev pub filled_range : ℕ → ℕ → Option AddressRange
filled_range low high = if nat_le low high then Some (record { low = low; high = high }) else None

-- one address is a range of its own, and two stand around `-`
abbrev pub range_of_cut : Family → List ℕ → Option (List ℕ × List ℕ) → Option AddressRange
range_of_cut family word None =
    option_and_then (λ only. filled_range only only) (address_of family word)
range_of_cut family word (Some cut) =
    option_and_then (λ low. option_and_then (filled_range low) (address_of family cut.1))
    (address_of family cut.0)

-- the addresses that a word spells; 45 is `-`
abbrev pub range_of : Family → List ℕ → Option AddressRange
range_of family word = range_of_cut family word (cut_at 45 word)

-- the numbers that a protocol stands for: 0 is all
abbrev pub protocol_span : ℕ → Span
protocol_span number =
    if number == 0 then record { low = 0; high = max_protocol }
    else record { low = number; high = number }

-- the protocol of a number has ports that keys have: TCP, UDP and SCTP
abbrev pub has_ports : ℕ → Bool
has_ports number = number == 6 || number == 17 || number == 132
