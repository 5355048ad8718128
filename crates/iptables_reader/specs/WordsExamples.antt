-- Examples of words, each checked by evaluation.
use Rattle.std.specs.Prelude.{◌≡◌, true, false, codes, Some, None, Err, refl}
use Rattle.iptables_reader.specs.declared.fault.LineKind.TheVariants.{BadPorts}
use Rattle.iptables_reader.specs.Tables.{protocol_table}
use Rattle.iptables_reader.specs.Values.{is_counters, port_spans, protocol_of}

-- protocols have names or numbers
tcp : protocol_of (codes "tcp") ≡ Some 6
unfolding protocol_table
tcp = refl

the_last_name : protocol_of (codes "mh") ≡ Some 135
unfolding protocol_table
the_last_name = refl

by_number : protocol_of (codes "112") ≡ Some 112
unfolding protocol_table
by_number = refl

too_great : protocol_of (codes "256") ≡ None
unfolding protocol_table
too_great = refl

-- a list has at most 15 ports, where a range counts twice
one_port_too_many : port_spans (codes "1,2,3,4,5,6,7,8,9,10,11,12,13,14,15:16") ≡ Err BadPorts
one_port_too_many = refl

-- counters are two numbers
counters : is_counters (codes "[12:3456]") ≡ true
counters = refl

half_counters : is_counters (codes "[12:]") ≡ false
half_counters = refl
