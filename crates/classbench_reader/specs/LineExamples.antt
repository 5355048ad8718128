-- Examples of lines, each checked by evaluation: what one says, and each fault at its edges.
use Rattle.std.specs.Prelude.{◌≡◌, ℕ, ◌∷◌, [], ◌++◌, codes, List, true, false, Result, Ok, Err, pos}
use Rattle.std.specs.Prelude.{refl}
use Rattle.field_defs.specs.declared.field.FieldValue.{FieldValue}
use Rattle.field_defs.specs.declared.field.FieldValue.TheVariants.{Mask, Range, Bitmask}
use Rattle.rule_set.specs.Rule.{RuleView}
use Rattle.classbench_reader.specs.declared.rules_fault.LineKind.{LineKind}
use Rattle.classbench_reader.specs.declared.rules_fault.LineKind.TheVariants.{BadStart, BadAddress}
use Rattle.classbench_reader.specs.declared.rules_fault.LineKind.TheVariants.{BadPrefix, MixedFamilies}
use Rattle.classbench_reader.specs.declared.rules_fault.LineKind.TheVariants.{BadPorts, EmptyRange}
use Rattle.classbench_reader.specs.declared.rules_fault.LineKind.TheVariants.{BadProtocol, BadFlags}
use Rattle.classbench_reader.specs.declared.rules_fault.LineKind.TheVariants.{BadAttribute, TailLeft}
use Rattle.classbench_reader.specs.declared.rules_fault.LineKind.TheVariants.{NoCategory, PriorityRange}
use Rattle.classbench_reader.specs.LineReading.{◌>>=◌}
use Rattle.classbench_reader.specs.Line.{is_skipped, rule_line_of, rule_of}

-- the rule of a line, as the seventh rule of its file
abbrev seventh : List ℕ → Result RuleView LineKind
seventh line = rule_line_of 7 line >>= λ said. Ok (rule_of said)

-- a line after its start, with all parts that are left
abbrev with_addresses : List ℕ → Result RuleView LineKind
with_addresses addresses = seventh (codes "@" ++ addresses ++ codes " 0:1 2:3 6/255")

abbrev with_ports : List ℕ → Result RuleView LineKind
with_ports ports = seventh (codes "@0.0.0.0/0 0.0.0.0/0 " ++ ports ++ codes " 2:3 6/255")

abbrev with_protocol : List ℕ → Result RuleView LineKind
with_protocol protocol = seventh (codes "@0.0.0.0/0 0.0.0.0/0 0:1 2:3 " ++ protocol)

abbrev with_tail : List ℕ → Result RuleView LineKind
with_tail tail = with_protocol (codes "6/255 " ++ tail)

-- the rules that such lines say
abbrev plain_values : List FieldValue
plain_values = Bitmask 6 255 ∷ Mask 0 0 ∷ Mask 0 0 ∷ Range 0 1 ∷ Range 2 3 ∷ []

abbrev plain : RuleView
plain = record {
  tag = record { category_mask = 0xFFFF; priority = pos 536870904; userdata = 7 };
  fields = plain_values;
}

-- the same with other values for the addresses
abbrev addressed : List FieldValue → RuleView
addressed values = record plain { fields = Bitmask 6 255 ∷ values ++ Range 0 1 ∷ Range 2 3 ∷ [] }

-- a line as ClassBench writes it
guide : seventh
    (codes "@192.168.1.0/24\t192.168.2.31/32\t0 : 65535\t1234 : 1234\t0x11/0xFF\t0x0000/0x0000\t")
    ≡ Ok (record plain {
      fields = Bitmask 17 255 ∷ Mask 0xC0A80100 24 ∷ Mask 0xC0A8021F 32 ∷ Range 0 65535
          ∷ Range 1234 1234 ∷ [];
    })
guide = refl

-- the same numbers in other spellings
spelled_otherwise :
    seventh (codes "  @ \t192.168.001.0/0x18 192.168.2.31/032 0:65535 0X4d2: \t0x4D2 17/0xff")
    ≡ seventh (codes "@192.168.1.0/24\t192.168.2.31/32\t0 : 65535\t1234 : 1234\t0x11/0xFF")
spelled_otherwise = refl

-- an IPv6 prefix of 48 bits, and one of 100: 64 in the high half and 36 in the low one
ip6 : seventh (codes "@2001:db8::/48 ::ffff:1.2.3.4/100 0:1 2:3 6/255")
    ≡ Ok (addressed
    (Mask 0x20010DB800000000 48 ∷ Mask 0 0 ∷ Mask 0 64 ∷ Mask 0xFFFF01020304 36 ∷ []))
ip6 = refl

ip6_half : with_addresses (codes "8000::1/64 8000::1/65") ≡ Ok
    (addressed (Mask 0x8000000000000000 64 ∷ Mask 1 0 ∷ Mask 0x8000000000000000 64 ∷ Mask 1 1 ∷ []))
ip6_half = refl

-- what is skipped
blanks_alone : is_skipped (codes " \t ") ≡ true
blanks_alone = refl

nothing : is_skipped [] ≡ true
nothing = refl

a_comment : is_skipped (codes " \t# @0.0.0.0/0") ≡ true
a_comment = refl

a_mark_further_on : is_skipped (codes "@#") ≡ false
a_mark_further_on = refl

-- the start
no_start : seventh (codes "0.0.0.0/0 0.0.0.0/0 0:1 2:3 6/255") ≡ Err BadStart
no_start = refl

a_route : seventh (codes "R0.0.0.0/0 0.0.0.0/0 0:1 2:3 6/255") ≡ Err BadStart
a_route = refl

-- addresses
an_address_alone : with_addresses (codes "0.0.0.0 0.0.0.0/0") ≡ Err BadPrefix
an_address_alone = refl

no_address : with_addresses (codes "0.0.0/0 0.0.0.0/0") ≡ Err BadAddress
no_address = refl

an_empty_address : with_addresses (codes "/0 0.0.0.0/0") ≡ Err BadAddress
an_empty_address = refl

a_zone : with_addresses (codes "fe80::1%eth0/64 ::/0") ≡ Err BadAddress
a_zone = refl

no_source : seventh (codes "@ ") ≡ Err BadAddress
no_source = refl

no_destination : seventh (codes "@0.0.0.0/0 ") ≡ Err BadAddress
no_destination = refl

both_parts_bad : with_addresses (codes "0.0.0/33 0.0.0.0/0") ≡ Err BadAddress
both_parts_bad = refl

-- prefixes
ip4_whole : with_addresses (codes "1.2.3.4/32 0.0.0.0/0")
    ≡ Ok (record plain
    { fields = Bitmask 6 255 ∷ Mask 0x01020304 32 ∷ Mask 0 0 ∷ Range 0 1 ∷ Range 2 3 ∷ [] })
ip4_whole = refl

ip4_too_long : with_addresses (codes "1.2.3.4/33 0.0.0.0/0") ≡ Err BadPrefix
ip4_too_long = refl

ip6_whole : with_addresses (codes "::1/128 ::/0") ≡ Ok
    (addressed (Mask 0 64 ∷ Mask 1 64 ∷ Mask 0 0 ∷ Mask 0 0 ∷ []))
ip6_whole = refl

ip6_too_long : with_addresses (codes "::1/129 ::/0") ≡ Err BadPrefix
ip6_too_long = refl

two_slashes : with_addresses (codes "1.2.3.4/3/2 0.0.0.0/0") ≡ Err BadPrefix
two_slashes = refl

an_empty_prefix : with_addresses (codes "1.2.3.4/ 0.0.0.0/0") ≡ Err BadPrefix
an_empty_prefix = refl

no_digit_after_the_mark : with_addresses (codes "1.2.3.4/0x 0.0.0.0/0") ≡ Err BadPrefix
no_digit_after_the_mark = refl

thirty_digits : with_addresses (codes "1.2.3.4/000000000000000000000000000008 0.0.0.0/0")
    ≡ with_addresses (codes "1.2.3.4/8 0.0.0.0/0")
thirty_digits = refl

-- families
mixed : with_addresses (codes "0.0.0.0/0 ::/0") ≡ Err MixedFamilies
mixed = refl

mixed_after_a_bad_prefix : with_addresses (codes "::/0 0.0.0.0/33") ≡ Err BadPrefix
mixed_after_a_bad_prefix = refl

-- ports
widest : with_ports (codes "0:65535")
    ≡ Ok (record plain
    { fields = Bitmask 6 255 ∷ Mask 0 0 ∷ Mask 0 0 ∷ Range 0 65535 ∷ Range 2 3 ∷ [] })
widest = refl

above_the_greatest : with_ports (codes "0:65536") ≡ Err BadPorts
above_the_greatest = refl

one_port : with_ports (codes "7:7")
    ≡ Ok (record plain
    { fields = Bitmask 6 255 ∷ Mask 0 0 ∷ Mask 0 0 ∷ Range 7 7 ∷ Range 2 3 ∷ [] })
one_port = refl

an_empty_range : with_ports (codes "7:6") ≡ Err EmptyRange
an_empty_range = refl

something_after : with_ports (codes "7:6x") ≡ Err BadPorts
something_after = refl

no_colon : with_ports (codes "7-6") ≡ Err BadPorts
no_colon = refl

no_ports : seventh (codes "@0.0.0.0/0 0.0.0.0/0") ≡ Err BadPorts
no_ports = refl

-- a range may end the line, and then the next part is missing
destination_ports_last : seventh (codes "@0.0.0.0/0 0.0.0.0/0 0:1 2:3") ≡ Err BadProtocol
destination_ports_last = refl

-- protocols
greatest_protocol : with_protocol (codes "255/255")
    ≡ Ok (record plain
    { fields = Bitmask 255 255 ∷ Mask 0 0 ∷ Mask 0 0 ∷ Range 0 1 ∷ Range 2 3 ∷ [] })
greatest_protocol = refl

protocol_too_great : with_protocol (codes "256/255") ≡ Err BadProtocol
protocol_too_great = refl

mask_too_great : with_protocol (codes "6/256") ≡ Err BadProtocol
mask_too_great = refl

no_mask : with_protocol (codes "6") ≡ Err BadProtocol
no_mask = refl

blanks_around_the_slash : with_protocol (codes "6 / 255") ≡ Err BadProtocol
blanks_around_the_slash = refl

-- flags change nothing
flags : with_tail (codes "0xffff/65535") ≡ Ok plain
flags = refl

flags_too_great : with_tail (codes "0x10000/0") ≡ Err BadFlags
flags_too_great = refl

no_flags : with_tail (codes "a/b") ≡ Err BadFlags
no_flags = refl

flags_twice : with_tail (codes "0/0 0/0") ≡ Err TailLeft
flags_twice = refl

equals_sign_in_the_flags : with_tail (codes "0/0=") ≡ Err BadAttribute
equals_sign_in_the_flags = refl

-- attributes in any order
attributes : with_tail (codes "0/0 data=0 cat=0x10001 pri=0")
    ≡ Ok (record plain { tag = record { category_mask = 0x10001; priority = pos 0; userdata = 0 } })
attributes = refl

greatest_numbers : with_tail (codes "pri=536870911 cat=4294967295 data=4294967295")
    ≡ Ok (record plain {
      tag = record
          { category_mask = 4294967295; priority = pos 536870911; userdata = 4294967295 };
    })
greatest_numbers = refl

a_word_alone : with_tail (codes "pri") ≡ Err TailLeft
a_word_alone = refl

a_bad_name : with_tail (codes "prio=1") ≡ Err BadAttribute
a_bad_name = refl

a_name_of_other_case : with_tail (codes "PRI=1") ≡ Err BadAttribute
a_name_of_other_case = refl

no_number : with_tail (codes "data=") ≡ Err BadAttribute
no_number = refl

data_too_great : with_tail (codes "data=4294967296") ≡ Err BadAttribute
data_too_great = refl

categories_too_great : with_tail (codes "cat=4294967296") ≡ Err BadAttribute
categories_too_great = refl

priority_twice : with_tail (codes "pri=1 pri=1") ≡ Err BadAttribute
priority_twice = refl

categories_twice : with_tail (codes "cat=1 cat=1") ≡ Err BadAttribute
categories_twice = refl

data_twice : with_tail (codes "data=1 data=1") ≡ Err BadAttribute
data_twice = refl

-- the first fault from left to right
a_word_before_a_bad_attribute : with_tail (codes "x pri=") ≡ Err TailLeft
a_word_before_a_bad_attribute = refl

-- categories and priority, which are asked last
no_category : with_tail (codes "cat=0x10000 pri=536870912") ≡ Err NoCategory
no_category = refl

priority_out_of_range : with_tail (codes "pri=536870912") ≡ Err PriorityRange
priority_out_of_range = refl

priority_that_cannot_be_written : with_tail (codes "pri=2147483648") ≡ Err BadAttribute
priority_that_cannot_be_written = refl
