-- Which packets a rule catches, over the fields of its family's layout. Each option says of packets
-- that they lie in one of some boxes, or after `!` in none (iptables(8), "PARAMETERS").
use Rattle.std.specs.Prelude.{ℕ, ◌-◌, ◌^◌, Bool, if◌then◌else◌, List, [], ◌∷◌, ◌++◌, map, Option}
use Rattle.std.specs.Prelude.{Some, None}
use Rattle.std.specs.List.{flat_map}
use Rattle.field_defs.specs.declared.field.Family.{Family}
use Rattle.field_defs.specs.declared.field.Family.TheVariants.{Ip4, Ip6}
use Rattle.list_chains.specs.declared.span.Span.{Span}
use Rattle.list_chains.specs.declared.chain.Target.{Target}
use Rattle.list_chains.specs.Chains.{ListRule}
use Rattle.list_chains.specs.Spans.{common}
use Rattle.list_packets.specs.declared.values.AddressSpans.{AddressSpans}
use Rattle.list_packets.specs.declared.packets.Packets.{Packets}
use Rattle.list_packets.specs.declared.packets.Field.{Field}
use Rattle.list_packets.specs.declared.packets.Field.TheVariants as field
use Rattle.list_packets.specs.declared.packets.End.{End}
use Rattle.list_packets.specs.declared.packets.End.TheVariants as end

-- all numbers of so many bits
abbrev pub any : ℕ → Span
any bits = record { low = 0; high = 2 ^ bits - 1 }

-- all addresses of a family; IPv4 has no high half, for which any number stands
abbrev pub any_address : Family → AddressSpans
any_address Ip4 = record { high = any 64; low = any 32 }
any_address Ip6 = record { high = any 64; low = any 64 }

-- all packets of a family
abbrev pub all_packets : Family → Packets
all_packets family = record {
  protocol = any 8;
  source = any_address family;
  destination = any_address family;
  source_ports = any 16;
  destination_ports = any 16;
}

-- the boxes that are wanted, and those that are left out
pub record CaughtBoxes : Type 0 where
  pub kept : List Packets
  pub left : List Packets

-- all packets of a family
abbrev pub all_caught : Family → CaughtBoxes
all_caught family = record { kept = all_packets family ∷ []; left = [] }

-- the addresses of both spans
abbrev pub common_addresses : AddressSpans → AddressSpans → AddressSpans
common_addresses one other =
    record { high = common one.high other.high; low = common one.low other.low }

-- the packets of both boxes
abbrev pub meet : Packets → Packets → Packets
meet one other = record {
  protocol = common one.protocol other.protocol;
  source = common_addresses one.source other.source;
  destination = common_addresses one.destination other.destination;
  source_ports = common one.source_ports other.source_ports;
  destination_ports = common one.destination_ports other.destination_ports;
}

-- what the boxes of two lists have in common, each of the first with each of the second
abbrev pub meets : List Packets → List Packets → List Packets
meets ones others = flat_map (λ one. map (meet one) others) ones

-- the boxes of an option, which are wanted, or left out after `!`
abbrev pub with_boxes : Bool → List Packets → CaughtBoxes → CaughtBoxes
with_boxes negated boxes caught =
    if negated then record caught { left = caught.left ++ boxes }
    else record caught { kept = meets caught.kept boxes }

-- none of the packets
abbrev pub never : CaughtBoxes → CaughtBoxes
never caught = record caught { kept = [] }

-- packets that have the numbers of a span in a field
abbrev pub with_span : Packets → Field → Span → Packets
with_span all field.Protocol span = record all { protocol = span }
with_span all field.SourcePorts span = record all { source_ports = span }
with_span all field.DestinationPorts span = record all { destination_ports = span }

-- packets that come from some addresses, or go to them
abbrev pub with_end : Packets → End → AddressSpans → Packets
with_end all end.Source spans = record all { source = spans }
with_end all end.Destination spans = record all { destination = spans }

-- the spans of some packets, in the order of the layout of their family
abbrev pub spans_of : Family → Packets → List Span
spans_of Ip4 packets =
    packets.protocol ∷ packets.source.low ∷ packets.destination.low ∷ packets.source_ports
    ∷ packets.destination_ports ∷ []
spans_of Ip6 packets =
    packets.protocol ∷ packets.source.high ∷ packets.source.low ∷ packets.destination.high
    ∷ packets.destination.low ∷ packets.source_ports ∷ packets.destination_ports ∷ []

-- the rule of a box of packets
abbrev pub rule_of : Family → ℕ → Target → List Packets → Packets → ListRule (List Span)
rule_of family userdata target left packets = record {
  userdata = userdata;
  inside = spans_of family packets;
  but = map (spans_of family) left;
  target = target;
}

-- the rules of boxes: one for each that is wanted
abbrev pub rules_of_caught : Family → CaughtBoxes → ℕ → Target → List (ListRule (List Span))
rules_of_caught family caught userdata target =
    map (rule_of family userdata target caught.left) caught.kept
