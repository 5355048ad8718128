-- Examples at each limit of a list, each checked by evaluation.
use Rattle.std.specs.Prelude.{◌≡◌, ℕ, ◌++◌, List, [], codes, nat_lt, true, false, is_ok}
use Rattle.std.specs.Prelude.{Result, Err, refl}
use Rattle.std.specs.Fmt.{digits}
use Rattle.field_defs.specs.declared.field.Family.TheVariants.{Ip4}
use Rattle.list_packets.specs.Assumed.{assumed_state_table}
use Rattle.iptables_reader.specs.declared.fault.LineFault.{LineFault}
use Rattle.iptables_reader.specs.declared.fault.LineKind.TheVariants.{BadPorts, OptionTwice}
use Rattle.iptables_reader.specs.declared.answers.Answers.TheVariants as answers
use Rattle.iptables_reader.specs.Chains.{ListedChain}
use Rattle.iptables_reader.specs.Table.{chains_of, max_list, with_lines}
use Rattle.iptables_reader.specs.Tables.{answer_table, match_table, protocol_table, state_table, target_table}
use Rattle.iptables_reader.specs.Values.{port_spans}

-- ---- ports of a list: at most 15, where a range counts twice

fifteen_ports : is_ok (port_spans (codes "1,2,3,4,5,6,7,8,9,10,11,12,13,14,15")) ≡ true
unfolding digits
fifteen_ports = refl

sixteen_ports : port_spans (codes "1,2,3,4,5,6,7,8,9,10,11,12,13,14,15,16") ≡ Err BadPorts
unfolding digits
sixteen_ports = refl

seven_ranges_and_a_port : is_ok (port_spans (codes "1:2,3:4,5:6,7:8,9:10,11:12,13:14,15")) ≡ true
unfolding digits
seven_ranges_and_a_port = refl

eight_ranges : port_spans (codes "1:2,3:4,5:6,7:8,9:10,11:12,13:14,15:16") ≡ Err BadPorts
unfolding digits
eight_ranges = refl

-- ---- options that come once: those of any rule, and those of a match each time that it is named

-- what is told of a list whose third line is a rule
abbrev said_by : List ℕ → Result (List ListedChain) LineFault
said_by line =
    chains_of (record { family = Ip4; answers = answers.Line }) [] (codes "FORWARD")
    (codes "*filter\n:FORWARD DROP [0:0]\n-A FORWARD -p tcp " ++ line ++ codes "\nCOMMIT\n")

lists_of_both_ends : is_ok
    (said_by (codes "-m multiport --sports 1 -m multiport --dports 2 -j DROP")) ≡ true
unfolding with_lines digits match_table target_table protocol_table state_table
    assumed_state_table answer_table
lists_of_both_ends = refl

two_lists_of_a_match : said_by (codes "-m multiport --sports 1 --dports 2 -j DROP")
    ≡ Err (record { line = 3; kind = OptionTwice })
unfolding with_lines digits match_table target_table protocol_table state_table
    assumed_state_table answer_table
two_lists_of_a_match = refl

-- the option of the greatest bit, with a match between
two_answers : said_by (codes "-j REJECT --reject-with tcp-reset -m comment --comment a"
    ++ codes " --reject-with tcp-reset") ≡ Err (record { line = 3; kind = OptionTwice })
unfolding with_lines digits match_table target_table protocol_table state_table
    assumed_state_table answer_table
two_answers = refl

-- ---- bytes of a list: at most 16,777,216

so_many_bytes : nat_lt max_list 16777216 ≡ false
so_many_bytes = refl

one_byte_more : nat_lt max_list 16777217 ≡ true
one_byte_more = refl
