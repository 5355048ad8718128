-- Examples of values, each checked by evaluation.
use Rattle.std.specs.Prelude.{◌≡◌, true, false, codes, [], ◌∷◌, Some, None, refl}
use Rattle.std.specs.Fmt.{digits}
use Rattle.field_defs.specs.declared.field.Family.TheVariants.{Ip4, Ip6}
use Rattle.list_packets.specs.AddressSets.{range_spans}
use Rattle.list_packets.specs.Assumed.{assumed_state_table, is_assumption}
use Rattle.list_packets.specs.Values.{closed_span, network_of, plain_number, port_span}
use Rattle.list_packets.specs.Values.{range_of}

-- a number is decimal, and no zero stands before others
a_port : port_span (codes "443") ≡ Some (record { low = 443; high = 443 })
a_port = refl

ports : port_span (codes "0:65535") ≡ Some (record { low = 0; high = 65535 })
ports = refl

a_zero_before : plain_number 65535 (codes "080") ≡ None
a_zero_before = refl

an_open_end : port_span (codes "1024:") ≡ Some (record { low = 1024; high = 65535 })
an_open_end = refl

an_open_beginning : port_span (codes ":79") ≡ Some (record { low = 0; high = 79 })
an_open_beginning = refl

no_open_end_in_a_list : closed_span (codes "1024:") ≡ None
no_open_end_in_a_list = refl

no_range_of_one_in_a_list : closed_span (codes "80:80") ≡ None
no_range_of_one_in_a_list = refl

turned : port_span (codes "80:79") ≡ None
turned = refl

one_too_great : port_span (codes "65536") ≡ None
one_too_great = refl

-- a prefix of an IPv4 address, and an address alone
a_network : network_of Ip4 (codes "10.9.0.0/16") ≡ Some (record {
  high = record { low = 0; high = 18446744073709551615 };
  low = record { low = 168361984; high = 168427519 };
})
unfolding digits
a_network = refl

-- bits after the prefix count as zeros
bits_after : network_of Ip4 (codes "10.9.1.2/16") ≡ network_of Ip4 (codes "10.9.0.0/16")
unfolding digits
bits_after = refl

alone : network_of Ip4 (codes "10.9.1.2") ≡ network_of Ip4 (codes "10.9.1.2/32")
unfolding digits
alone = refl

a_mask : network_of Ip4 (codes "10.0.0.0/255.0.0.0") ≡ None
unfolding digits
a_mask = refl

octal : network_of Ip4 (codes "010.0.0.0/8") ≡ None
unfolding digits
octal = refl

-- a prefix within each half of an IPv6 address
within_high : network_of Ip6 (codes "2001:db8::/32") ≡ Some (record {
  high = record { low = 2306139568115548160; high = 2306139572410515455 };
  low = record { low = 0; high = 18446744073709551615 };
})
within_high = refl

within_low : network_of Ip6 (codes "::1:0/112") ≡ Some (record {
  high = record { low = 0; high = 0 };
  low = record { low = 65536; high = 131071 };
})
within_low = refl

of_the_other_family : network_of Ip6 (codes "10.0.0.0/8") ≡ None
of_the_other_family = refl

-- addresses from one to another
a_range : range_of Ip4 (codes "10.1.0.5-10.1.0.20")
    ≡ Some (record { low = 167837701; high = 167837716 })
unfolding digits
a_range = refl

a_turned_range : range_of Ip4 (codes "10.1.0.5-10.1.0.4") ≡ None
unfolding digits
a_turned_range = refl

-- those of a range over several high halves are in three boxes
over_halves : range_spans (record {
  low = 18446744073709551615;
  high = 55340232221128654849;
})
    ≡ record {
      high = record { low = 0; high = 0 };
      low = record { low = 18446744073709551615; high = 18446744073709551615 };
    } ∷ record {
      high = record { low = 1; high = 2 };
      low = record { low = 0; high = 18446744073709551615 };
    } ∷ record {
      high = record { low = 3; high = 3 };
      low = record { low = 0; high = 1 };
    } ∷ []
over_halves = refl

-- what may be assumed: `local` alone several times
assumptions : is_assumption (codes "in=eth0,state=new,local=10.0.0.1,local=::1") ≡ true
unfolding digits assumed_state_table
assumptions = refl

no_assumption : is_assumption [] ≡ true
no_assumption = refl

assumed_twice : is_assumption (codes "in=eth0,in=eth1") ≡ false
unfolding digits assumed_state_table
assumed_twice = refl

no_name : is_assumption (codes "in=") ≡ false
unfolding digits assumed_state_table
no_name = refl
