-- What the right side of a comparison spells (libnftables-json(5), "EXPRESSIONS"), and the packets
-- of it: a number, a name or an address, a range or a prefix, or an anonymous set of these. Numbers
-- of ports are decimal.
use Rattle.std.specs.Prelude.{ℕ, ◌+◌, ◌==◌, nat_le, if◌then◌else◌, codes, map}
use Rattle.std.specs.Prelude.{List, [], ◌∷◌, ◌++◌, Option, Some, None, option_and_then, Result, Ok}
use Rattle.std.specs.Option.{option_map}
use Rattle.std.specs.Str.{bytes_eq}
use Rattle.json.specs.Json.{Json}
use Rattle.json.specs.Find.{as_str, get}
use Rattle.field_defs.specs.declared.field.Family.{Family}
use Rattle.list_chains.specs.declared.span.Span.{Span}
use Rattle.list_packets.specs.declared.packets.Field.{Field}
use Rattle.list_packets.specs.declared.packets.Field.TheVariants as field
use Rattle.list_packets.specs.declared.packets.Packets.{Packets}
use Rattle.list_packets.specs.declared.address_sets.AddressSet.{AddressSet}
use Rattle.list_packets.specs.declared.address_sets.AddressSet.TheVariants as set
use Rattle.list_packets.specs.AddressSets.{set_spans}
use Rattle.list_packets.specs.Packets.{with_end, with_span}
use Rattle.list_packets.specs.Values.{address_alone, address_of, filled_range, most_bits}
use Rattle.list_packets.specs.Values.{spans_of_address}
use Rattle.nft_reader.specs.declared.compared.Part.{Part}
use Rattle.nft_reader.specs.declared.compared.Part.TheVariants as part
use Rattle.nft_reader.specs.declared.fault.RuleKind.{RuleKind}
use Rattle.nft_reader.specs.Shapes.{items_of, len_of, number_in, number_of, only, pair_of, present}
use Rattle.nft_reader.specs.Shapes.{said_by, text_in}
use Rattle.nft_reader.specs.Stops.{◌>>=◌, folded, or_cant}

-- ---- numbers

-- the protocols whose ports keys have
abbrev pub ported_named : List ℕ → Option ℕ
ported_named name =
    if bytes_eq name (codes "tcp") then Some 6
    else (if bytes_eq name (codes "udp") then Some 17
    else (if bytes_eq name (codes "sctp") then Some 132 else None))

-- the first of two that is there
abbrev pub first_of : {A : Type 0} → Option A → Option A → Option A
first_of (Some one) other = Some one
first_of None other = other

-- the protocol of a name: one of these, or another that nft names
abbrev pub protocol_named : List ℕ → Option ℕ
protocol_named name =
    if bytes_eq name (codes "icmp") then Some 1
    else (if bytes_eq name (codes "ipv6-icmp") then Some 58
    else (if bytes_eq name (codes "gre") then Some 47
    else (if bytes_eq name (codes "esp") then Some 50 else ported_named name)))

-- the protocol of a value by its text, if it is one: a name, or else a number
abbrev pub protocol_by : Json → Option (List ℕ) → Option ℕ
protocol_by value (Some name) = protocol_named name
protocol_by value None = number_of 255 value

-- the number of a value that is compared with a field
abbrev pub value_of : Field → Json → Option ℕ
value_of field.Protocol value = protocol_by value (as_str value)
value_of field.SourcePorts value = number_of 65535 value
value_of field.DestinationPorts value = number_of 65535 value

-- the span from one number to another, if that isn't below the first
abbrev pub filled_span : ℕ → ℕ → Option Span
filled_span low high = if nat_le low high then Some (record { low = low; high = high }) else None

-- a range of numbers: its two ends, the lower first
abbrev pub range_of : Field → Json → Option Span
range_of which said =
    option_and_then (λ ends.
    option_and_then (λ low. option_and_then (filled_span low) (value_of which ends.1))
    (value_of which ends.0))
    (pair_of said)

-- the span of a value by its only member, if it has one
abbrev pub span_by : Field → Json → Option (List ℕ × Json) → Option Span
span_by which value None =
    option_map (λ number. record { low = number; high = number }) (value_of which value)
span_by which value (Some found) =
    if bytes_eq found.0 (codes "range") then range_of which found.1 else None

-- the span of a value
abbrev pub span_of : Field → Json → Option Span
span_of which value = span_by which value (only value)

-- ---- addresses

-- the number of the address of a value
abbrev pub address_of_value : Family → Json → Option ℕ
address_of_value family value = option_and_then (address_of family) (as_str value)

-- a prefix: the addresses that agree with one in so many leading bits
abbrev pub prefix_of : Family → Json → Option AddressSet
prefix_of family said =
    if len_of said == 2
    then option_and_then (λ text.
    option_and_then (λ bits. option_map set.Network (spans_of_address family text bits))
    (number_in (most_bits family) (codes "len") said))
    (text_in (codes "addr") said)
    else None

-- a range of addresses: its two ends, the lower first
abbrev pub address_range : Family → Json → Option AddressSet
address_range family said =
    option_and_then (λ ends.
    option_and_then (λ low.
    option_and_then (λ high. option_map set.Range (filled_range low high))
    (address_of_value family ends.1))
    (address_of_value family ends.0))
    (pair_of said)

-- the addresses of a value by its only member, if it has one
abbrev pub set_by : Family → Json → Option (List ℕ × Json) → Option AddressSet
set_by family value None =
    option_and_then (λ text. option_map set.Network (address_alone family text)) (as_str value)
set_by family value (Some found) =
    if bytes_eq found.0 (codes "prefix") then prefix_of family found.1
    else (if bytes_eq found.0 (codes "range") then address_range family found.1 else None)

-- the addresses of a value
abbrev pub address_set : Family → Json → Option AddressSet
address_set family value = set_by family value (only value)

-- ---- elements

-- how many members of an element say nothing of packets
abbrev pub quiet_members : Json → ℕ
quiet_members said = present (codes "counter") said + present (codes "comment") said

-- the value of an element, by what its only member says if that is `elem`
abbrev pub bare_by : Json → Option Json → Option Json
bare_by value None = Some value
bare_by value (Some said) =
    if len_of said == 1 + quiet_members said then get (codes "val") said else None

-- the value of an element, which may have a counter and a comment
abbrev pub bare_element : Json → Option Json
bare_element value = bare_by value (said_by (codes "elem") value)

-- the elements of a value, by what its only member says if that is `set`
abbrev pub elements_by : Json → Option Json → Option (List Json)
elements_by value None = Some (value ∷ [])
elements_by value (Some said) = items_of said

-- the elements of a value: those of a set, or else the value itself
abbrev pub elements_of : Json → Option (List Json)
elements_of value = elements_by value (said_by (codes "set") value)

-- ---- packets

-- those of some packets that have a value in a part of the header
abbrev pub value_boxes : Family → Packets → Part → Json → Option (List Packets)
value_boxes family all (part.Number which) value =
    option_map (λ span. with_span all which span ∷ []) (span_of which value)
value_boxes family all (part.Address which) value =
    option_map (λ addresses. map (with_end all which) (set_spans family [] addresses))
    (address_set family value)

-- those of an element too, if it is known
abbrev pub with_element : Family → Packets → Part → List Packets → Json →
    Result (List Packets) RuleKind
with_element family all which boxes element =
    or_cant (option_and_then (value_boxes family all which) (bare_element element)) >>= λ made.
    Ok (boxes ++ made)

-- those of some elements
abbrev pub part_boxes : Family → Packets → Part → List Json → Result (List Packets) RuleKind
part_boxes family all which elements = folded (with_element family all which) [] elements
