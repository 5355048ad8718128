-- How a rule is written as a line: one spelling of those that are read, with TAB between the
-- columns.
use Rattle.std.specs.Prelude.{◌≡◌, ℕ, ◌+◌, ◌*◌, ◌/◌, ◌%◌, ◌^◌, ◌==◌, Bool, true, false, ◌&&◌, ◌||◌}
use Rattle.std.specs.Prelude.{List, [], ◌∷◌}
use Rattle.std.specs.Prelude.{◌++◌, codes, None, IsTrue, ℤ, pos, negsuc}
use Rattle.std.specs.Fmt.{decimal, digit_glyph}
use Rattle.field_defs.specs.declared.field.FieldDef.{FieldDef}
use Rattle.field_defs.specs.declared.field.FieldValue.{FieldValue}
use Rattle.field_defs.specs.declared.field.FieldValue.TheVariants.{Mask, Range, Bitmask}
use Rattle.field_defs.specs.declared.field.Family.{Family}
use Rattle.field_defs.specs.declared.field.Family.TheVariants as family
use Rattle.field_defs.specs.Layout.{ip4_fields, ip6_fields}
use Rattle.rule_set.specs.declared.rule.RuleTag.{RuleTag}
use Rattle.rule_set.specs.Fault.{rule_fault}
use Rattle.rule_set.specs.Rule.{RuleView}
use Rattle.text_scan.specs.Parts.{slash, tab, line_feed}
use Rattle.text_scan.specs.Ip4Text.{ip4_spelling}
use Rattle.text_scan.specs.Ip6Text.{ip6_spelling}
use Rattle.classbench_reader.specs.declared.network.Address.{Address}
use Rattle.classbench_reader.specs.declared.network.Address.TheVariants.{Ip4, Ip6}
use Rattle.classbench_reader.specs.declared.network.Network.{Network}
use Rattle.classbench_reader.specs.declared.line.RuleLine.{RuleLine}
use Rattle.classbench_reader.specs.RuleFile.{RuleLists}

-- the layout of a family
abbrev pub fields_of : Family → List FieldDef
fields_of family.Ip4 = ip4_fields
fields_of family.Ip6 = ip6_fields

-- the prefix of an IPv6 address doesn't leave out bits of the high half and go on in the low one
abbrev pub is_one_prefix : FieldValue → FieldValue → Bool
is_one_prefix (Mask high high_bits) (Mask low low_bits) = low_bits == 0 || high_bits == 64
is_one_prefix _ _ = false

-- each address has one prefix
abbrev pub has_prefixes : Family → List FieldValue → Bool
has_prefixes family.Ip4 values = true
has_prefixes family.Ip6 (protocol ∷ source_high ∷ source_low ∷ high ∷ low ∷ ports) =
    is_one_prefix source_high source_low && is_one_prefix high low
has_prefixes family.Ip6 _ = false

-- a rule that a line can say: it is lawful for its family's layout, and its addresses have prefixes
pub record IsPrintable (its : Family) (rule : RuleView) : Type 0 where
  pub lawful : rule_fault (fields_of its) rule.tag rule.fields ≡ None
  pub prefixes : IsTrue (has_prefixes its rule.fields)

-- the network of an IPv4 address field, whose value is a prefix
abbrev pub ip4_network : FieldValue → Network
ip4_network (Mask value bits) = record { address = Ip4 value; bits = bits }
ip4_network _ = record { address = Ip4 0; bits = 0 }

-- the network of an IPv6 address, of which two fields hold one half each
abbrev pub ip6_network : FieldValue → FieldValue → Network
ip6_network (Mask high high_bits) (Mask low low_bits) =
    record { address = Ip6 (high * 2 ^ 64 + low); bits = high_bits + low_bits }
ip6_network _ _ = record { address = Ip6 0; bits = 0 }

-- what the line of a rule says, by its values in the order of the layout
abbrev pub line_of_values : Family → RuleTag → List FieldValue → RuleLine
line_of_values family.Ip4 its_tag (protocol ∷ source ∷ destination ∷ ports ∷ others ∷ []) = record {
  source = ip4_network source;
  destination = ip4_network destination;
  source_ports = ports;
  destination_ports = others;
  protocol = protocol;
  tag = its_tag;
}
line_of_values family.Ip6 its_tag (protocol ∷ source ∷ rest ∷ high ∷ low ∷ ports ∷ others ∷ []) =
    record {
      source = ip6_network source rest;
      destination = ip6_network high low;
      source_ports = ports;
      destination_ports = others;
      protocol = protocol;
      tag = its_tag;
    }
line_of_values _ its_tag _ = record {
  source = record { address = Ip4 0; bits = 0 };
  destination = record { address = Ip4 0; bits = 0 };
  source_ports = Range 0 0;
  destination_ports = Range 0 0;
  protocol = Bitmask 0 0;
  tag = its_tag;
}

-- what the line of a rule says, by its tag and its values
abbrev pub line_of_rule : Family → RuleView → RuleLine
line_of_rule its rule = line_of_values its rule.tag rule.fields

-- the spelling of an address of either family
abbrev pub address_text : Address → List ℕ
address_text (Ip4 address) = ip4_spelling address
address_text (Ip6 address) = ip6_spelling address

-- an address, `/` and its prefix length
abbrev pub network_text : Network → List ℕ
network_text network = address_text network.address ++ slash ∷ decimal network.bits

-- the two ports of a range
abbrev pub ports_text : FieldValue → List ℕ
ports_text (Range low high) = decimal low ++ (codes " : " ++ decimal high)
ports_text _ = []

-- a byte as `0x` and two digits
abbrev pub byte_text : ℕ → List ℕ
byte_text byte = codes "0x" ++ digit_glyph true (byte / 16) ∷ digit_glyph true (byte % 16) ∷ []

-- a protocol number, `/` and the mask of its bits that count
abbrev pub protocol_text : FieldValue → List ℕ
protocol_text (Bitmask value mask) = byte_text value ++ slash ∷ byte_text mask
protocol_text _ = []

-- a priority as a natural number, as a lawful one isn't below 0
abbrev pub magnitude : ℤ → ℕ
magnitude (pos n) = n
magnitude (negsuc n) = 0

-- all three attributes, each with its name
abbrev pub tag_text : RuleTag → List ℕ
tag_text its_tag =
    codes "pri=" ++ (decimal (magnitude its_tag.priority)
    ++ (codes " cat=" ++
    (decimal its_tag.category_mask ++ (codes " data=" ++ decimal its_tag.userdata))))

-- the networks of a line, and its columns after them
abbrev pub networks_text : RuleLine → List ℕ
networks_text line =
    codes "@" ++ (network_text line.source ++ tab ∷ network_text line.destination)

-- the columns after the networks of a line, each after a tab
abbrev pub columns_text : RuleLine → List ℕ
columns_text line =
    tab ∷ (ports_text line.source_ports ++ tab ∷ (ports_text line.destination_ports
    ++ tab ∷ (protocol_text line.protocol ++ tab ∷ tag_text line.tag)))

-- the columns of a line, without what ends it
abbrev pub line_text : RuleLine → List ℕ
line_text line =
    codes "@" ++ (network_text line.source ++ tab ∷ (network_text line.destination
    ++ tab ∷ (ports_text line.source_ports ++ tab ∷ (ports_text line.destination_ports
    ++ tab ∷ (protocol_text line.protocol ++ tab ∷ tag_text line.tag)))))

-- the line of a rule, ended by LF
abbrev pub rule_text : Family → RuleView → List ℕ
rule_text its rule = line_text (line_of_rule its rule) ++ line_feed ∷ []

-- this rule alone
abbrev pub rule_alone : Family → RuleView → RuleLists
rule_alone family.Ip4 rule = record { ip4 = rule ∷ []; ip6 = [] }
rule_alone family.Ip6 rule = record { ip4 = []; ip6 = rule ∷ [] }
