-- A line of a ClassBench filter file: `@`, source, destination, source ports, destination ports,
-- protocol, and then optional flags and attributes (D. E. Taylor and J. S. Turner, "ClassBench: A
-- Packet Classification Benchmark", 2007, and DPDK's `app/test-acl`). Between the parts stand
-- blanks. A line is read from left to right, and its fault is the first that is met.
use Rattle.std.specs.Prelude.{ℕ, ◌-◌, ◌/◌, ◌%◌, ◌^◌, ◌==◌, Bool, true, false, min, max}
use Rattle.std.specs.Prelude.{if◌then◌else◌, List, [], ◌∷◌, ◌++◌, Result, Ok, Err}
use Rattle.field_defs.specs.declared.field.FieldValue.{FieldValue}
use Rattle.field_defs.specs.declared.field.FieldValue.TheVariants.{Mask}
use Rattle.field_defs.specs.declared.field.Family.{Family}
use Rattle.field_defs.specs.declared.field.Family.TheVariants as family
use Rattle.rule_set.specs.Rule.{RuleView}
use Rattle.text_scan.specs.Parts.{after_blanks, first_word, after_word, words_of}
use Rattle.classbench_reader.specs.declared.network.Address.{Address}
use Rattle.classbench_reader.specs.declared.network.Address.TheVariants.{Ip4, Ip6}
use Rattle.classbench_reader.specs.declared.network.Network.{Network}
use Rattle.classbench_reader.specs.declared.line.RuleLine.{RuleLine}
use Rattle.classbench_reader.specs.declared.rules_fault.LineKind.{LineKind}
use Rattle.classbench_reader.specs.declared.rules_fault.LineKind.TheVariants.{BadStart, MixedFamilies}
use Rattle.classbench_reader.specs.Limits.{at_sign, number_sign}
use Rattle.classbench_reader.specs.LineReading.{◌>>=◌, Read}
use Rattle.classbench_reader.specs.Network.{family_of, network_of}
use Rattle.classbench_reader.specs.Columns.{ports_of, protocol_of, after_flags}
use Rattle.classbench_reader.specs.Attributes.{attributes_of, tag_of}

-- nothing, or a text that begins with `#`
abbrev pub is_comment : List ℕ → Bool
is_comment [] = true
is_comment (c ∷ cs) = c == number_sign

-- a line that is no rule: of blanks alone, or with `#` as its first byte that is no blank
abbrev pub is_skipped : List ℕ → Bool
is_skipped line = is_comment (after_blanks line)

-- what follows the `@`
abbrev pub after_at_sign : List ℕ → Result (List ℕ) LineKind
after_at_sign [] = Err BadStart
after_at_sign (c ∷ rest) = if c == at_sign then Ok rest else Err BadStart

-- the network that the next word spells, and the text after it
abbrev pub next_network : List ℕ → Result (Read Network) LineKind
next_network text = do
  network ← network_of (first_word (after_blanks text))
  Ok (record { value = network; rest = after_word (after_blanks text) })

-- two families are one
abbrev pub same_family : Family → Family → Bool
same_family family.Ip4 family.Ip4 = true
same_family family.Ip6 family.Ip6 = true
same_family _ _ = false

-- the destination beside a source, which is of its family
abbrev pub beside_source : Network → Read Network → Result (Read Network) LineKind
beside_source source destination =
    if same_family (family_of source)
    (family_of destination.value) then Ok destination else Err MixedFamilies

-- the protocol that the next word spells, and the text after it
abbrev pub next_protocol : List ℕ → Result (Read FieldValue) LineKind
next_protocol text = do
  protocol ← protocol_of (first_word (after_blanks text))
  Ok (record { value = protocol; rest = after_word (after_blanks text) })

-- what the columns after two addresses say, as the rule of an ordinal with these addresses
abbrev pub columns_of : ℕ → Network → Network → List ℕ → Result RuleLine LineKind
columns_of ordinal source destination text = do
  source_ports ← ports_of text
  destination_ports ← ports_of source_ports.rest
  protocol ← next_protocol destination_ports.rest
  words ← after_flags (words_of protocol.rest)
  attributes ← attributes_of words
  tag ← tag_of ordinal attributes
  Ok (record {
    source = source;
    destination = destination;
    source_ports = source_ports.value;
    destination_ports = destination_ports.value;
    protocol = protocol.value;
    tag = tag;
  })

-- what a line says as the rule of an ordinal: two addresses of one family, and then the columns
abbrev pub rule_line_of : ℕ → List ℕ → Result RuleLine LineKind
rule_line_of ordinal line = do
  text ← after_at_sign (after_blanks line)
  source ← next_network text
  another ← next_network source.rest
  destination ← beside_source source.value another
  columns_of ordinal source.value destination.value destination.rest

-- The values of an address's fields. Of an IPv6 prefix the first 64 bits stand in the high field,
-- and further ones in the low field.
abbrev pub address_values : Address → ℕ → List FieldValue
address_values (Ip4 address) bits = Mask address bits ∷ []
address_values (Ip6 address) bits =
    Mask (address / 2 ^ 64) (min bits 64) ∷ Mask (address % 2 ^ 64) (max bits 64 - 64) ∷ []

-- the values of a network's fields: one for IPv4, and two for IPv6
abbrev pub network_values : Network → List FieldValue
network_values network = address_values network.address network.bits

-- the values of a line in the order of the layout, in which the protocol is first
abbrev pub values_of : RuleLine → List FieldValue
values_of line =
    line.protocol ∷ network_values line.source ++ network_values line.destination
    ++ line.source_ports ∷ line.destination_ports ∷ []

-- the rule of a line: its tag, and a value for each field of the layout
abbrev pub rule_of : RuleLine → RuleView
rule_of line = record { tag = line.tag; fields = values_of line }

-- the family of a line, by its source: the destination is of the same
abbrev pub family_of_line : RuleLine → Family
family_of_line line = family_of line.source
