-- The packet that four words give, and its key.
use Rattle.std.specs.Prelude.{ℕ, ◌/◌, ◌%◌, ◌^◌, ◌==◌, List, ◌∷◌, ◌++◌, length, map, slice_get}
use Rattle.std.specs.Prelude.{slice_index, Option, Some, None, if◌then◌else◌}
use Rattle.std.specs.Int.{w16, w32, to_be_bytes}
use Rattle.field_defs.specs.declared.field.FieldValue.{FieldValue}
use Rattle.field_defs.specs.declared.field.FieldValue.TheVariants.{Mask, Range, Bitmask}
use Rattle.rule_set.specs.Rule.{RuleView}
use Rattle.workload_gen.specs.declared.packet.Packet.{Packet}
use Rattle.workload_gen.specs.Rule.{address}

-- the number of a mask or bitmask as it was given, or the lowest number of a range
abbrev pub first_number : FieldValue → ℕ
first_number (Mask value bits) = value
first_number (Range low high) = low
first_number (Bitmask value mask) = value

-- the first number of a rule's value for a field
abbrev pub number_in : RuleView → ℕ → ℕ
number_in rule field = slice_index (map first_number rule.fields) field

-- the rule that a packet is aimed at, by its first word: none for one word in four, and none where
-- there is no rule
abbrev pub target_of : List RuleView → ℕ → Option RuleView
target_of rules word = if word % 4 == 0 then None else slice_get rules (word / 4 % length rules)

-- a packet that is drawn freely
abbrev pub drawn_packet : List ℕ → Packet
drawn_packet words = record {
  protocol = slice_index words 0 / 2 ^ 24;
  source = address (slice_index words 1);
  destination = address (slice_index words 2);
  source_port = slice_index words 3 / 2 ^ 16;
  destination_port = slice_index words 3 % 2 ^ 16;
}

-- a packet that is aimed at a rule: all but its source port is what the rule names first
abbrev pub aimed_packet : RuleView → List ℕ → Packet
aimed_packet rule words = record {
  protocol = number_in rule 0;
  source = number_in rule 1;
  destination = number_in rule 2;
  source_port = slice_index words 3 / 2 ^ 16;
  destination_port = number_in rule 4;
}

-- the packet of its words
abbrev pub packet_of : Option RuleView → List ℕ → Packet
packet_of None words = drawn_packet words
packet_of (Some rule) words = aimed_packet rule words

-- the key of a packet: protocol, source, destination and ports in network order (RFC 791, 3.1)
abbrev pub packet_key : Packet → List ℕ
packet_key packet =
    packet.protocol ∷ to_be_bytes w32 packet.source ++ to_be_bytes w32 packet.destination
    ++ to_be_bytes w16 packet.source_port ++ to_be_bytes w16 packet.destination_port

-- the key that four words give, over some rules
abbrev pub key_of_words : List RuleView → List ℕ → List ℕ
key_of_words rules words = packet_key (packet_of (target_of rules (slice_index words 0)) words)
