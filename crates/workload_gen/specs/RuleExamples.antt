-- Examples of rules of words, each checked by evaluation.
use Rattle.std.specs.Prelude.{◌≡◌, pos, [], ◌∷◌, refl}
use Rattle.field_defs.specs.declared.field.FieldValue.TheVariants.{Mask, Range, Bitmask}
use Rattle.workload_gen.specs.Rule.{rule_of, protocol_value, source_value, destination_value}
use Rattle.workload_gen.specs.Rule.{destination_ports}

-- the first rule of seed 42: from 10.71.0.0/16 to 10.29.51.0/24, ports 33746 to 33846, any protocol
first_of_42 :
    rule_of 1 (0xa15c02b7 ∷ 0x7b47f409 ∷ 0xba1d3330 ∷ 0x83d2f293 ∷ 0xbfa4784b
    ∷ 0xcbed606e ∷ [])
    ≡ record {
      tag = record { category_mask = 11357; priority = pos 955; userdata = 1 };
      fields = Bitmask 0 0 ∷ Mask 0x0A47F409 16 ∷ Mask 0x0A1D3330 24
          ∷ Range 0 65535 ∷ Range 33746 33846 ∷ [];
    }
first_of_42 = refl

tcp : protocol_value 8 ≡ Bitmask 6 0xFF
tcp = refl

udp : protocol_value 5 ≡ Bitmask 17 0xFF
udp = refl

tcp_again : protocol_value 6 ≡ Bitmask 6 0xFF
tcp_again = refl

source_of_16_bits : source_value 0x00FFFFFF ≡ Mask 0x0AFFFFFF 16
source_of_16_bits = refl

source_of_32_bits : source_value 0x05000001 ≡ Mask 0x0A000001 32
source_of_32_bits = refl

any_destination : destination_value 0x04000001 ≡ Mask 0x0A000001 0
any_destination = refl

destination_of_32_bits : destination_value 0xFF000001 ≡ Mask 0x0A000001 32
destination_of_32_bits = refl

all_ports : destination_ports 0x00500000 ≡ Range 0 65535
all_ports = refl

user_ports : destination_ports 0x00500001 ≡ Range 1024 65535
user_ports = refl

one_port : destination_ports 0x00500002 ≡ Range 80 80
one_port = refl

last_ports : destination_ports 0xFFFE0003 ≡ Range 65534 65535
last_ports = refl
