-- The rule that six words give. All its choices are ours.
use Rattle.std.specs.Prelude.{ℕ, pos, ◌+◌, ◌/◌, ◌%◌, ◌^◌, ◌==◌, List, [], ◌∷◌, min, slice_index}
use Rattle.std.specs.Prelude.{if◌then◌else◌}
use Rattle.field_defs.specs.declared.field.FieldValue.{FieldValue}
use Rattle.field_defs.specs.declared.field.FieldValue.TheVariants.{Mask, Range, Bitmask}
use Rattle.rule_set.specs.declared.rule.RuleTag.{RuleTag}
use Rattle.rule_set.specs.Rule.{RuleView}
use Rattle.workload_gen.specs.declared.rule.TheConstants.{LAST_PORT, FIRST_USER_PORT, PORTS_AFTER}
use Rattle.workload_gen.specs.declared.rule.TheConstants.{PRIORITIES, CATEGORY_MASKS}

-- the protocol number of TCP (IANA)
abbrev pub tcp : ℕ
tcp = 6

-- the protocol number of UDP (IANA)
abbrev pub udp : ℕ
udp = 17

-- the mask under which all eight bits of a protocol number count
abbrev pub whole_protocol : ℕ
whole_protocol = 0xFF

-- 10.0.0.0, the network of all addresses of a workload (RFC 1918, 3)
abbrev pub network : ℕ
network = 0x0A000000

-- the greatest port
abbrev pub last_port : ℕ
last_port = LAST_PORT

-- the first port that a program without special rights may use
abbrev pub first_user_port : ℕ
first_user_port = FIRST_USER_PORT

-- how many ports a range has after its first one, at most
abbrev pub ports_after : ℕ
ports_after = PORTS_AFTER

-- how many bits of a source decide
abbrev pub source_bits : List ℕ
source_bits = 16 ∷ 24 ∷ 32 ∷ []

-- how many bits of a destination decide
abbrev pub destination_bits : List ℕ
destination_bits = 0 ∷ 16 ∷ 24 ∷ 32 ∷ []

-- how many priorities a workload has
abbrev pub priorities : ℕ
priorities = PRIORITIES

-- how many masks name some of 16 categories
abbrev pub category_masks : ℕ
category_masks = CATEGORY_MASKS

-- an address of the network, by the low 24 bits of a word
abbrev pub address : ℕ → ℕ
address word = network + word % 2 ^ 24

-- the high eight bits of a word, which choose
abbrev pub choice : ℕ → ℕ
choice word = word / 2 ^ 24

-- UDP, any protocol, or TCP
abbrev pub protocol_value : ℕ → FieldValue
protocol_value word =
    if word % 4 == 1 then Bitmask udp whole_protocol
    else (if word % 4 == 3 then Bitmask 0 0 else Bitmask tcp whole_protocol)

-- a source of 16, 24 or 32 bits
abbrev pub source_value : ℕ → FieldValue
source_value word = Mask (address word) (slice_index source_bits (choice word % 3))

-- a destination of no, 16, 24 or 32 bits
abbrev pub destination_value : ℕ → FieldValue
destination_value word = Mask (address word) (slice_index destination_bits (choice word % 4))

-- all ports, those from 1024 on, one port, or a port and up to a hundred after it
abbrev pub destination_ports : ℕ → FieldValue
destination_ports word =
    let first = word / 2 ^ 16 in
    if word % 4 == 0 then Range 0 last_port
    else (if word % 4 == 1 then Range first_user_port last_port
    else (if word % 4 == 2 then Range first first
    else Range first (min (first + ports_after) last_port)))

-- the tag of a number: some of 16 categories, a priority from 0 on, and the number for its userdata
abbrev pub tag_of : ℕ → ℕ → ℕ → RuleTag
tag_of number priority categories = record {
  category_mask = 1 + categories % category_masks;
  priority = pos (priority % priorities);
  userdata = number;
}

-- the rule of a number, by its six words: protocol, source, destination, destination ports,
-- priority and categories
abbrev pub rule_of : ℕ → List ℕ → RuleView
rule_of number words = record {
  tag = tag_of number (slice_index words 4) (slice_index words 5);
  fields =
      protocol_value (slice_index words 0) ∷ source_value (slice_index words 1)
      ∷ destination_value (slice_index words 2) ∷ Range 0 last_port
      ∷ destination_ports (slice_index words 3) ∷ [];
}
