-- Examples of rulesets, each checked by evaluation: rules as nft -j prints them, what they say, and
-- the faults of others.
use Rattle.std.specs.Prelude.{◌≡◌, ℕ, ◌++◌, List, [], ◌∷◌, codes, false, Result, Ok, Err, Some, None, refl}
use Rattle.std.specs.Fmt.{digits}
use Rattle.std.specs.List.{flat_map}
use Rattle.std.specs.Str.{chars, is_utf8}
use Rattle.json.proofs.OnLiterals.{json_on_literals}
use Rattle.json.specs.Json.{document}
use Rattle.field_defs.specs.declared.field.Family.TheVariants as family
use Rattle.list_packets.specs.Assumed.{assumed_state_table}
use Rattle.list_chains.specs.declared.chain.Target.{Target}
use Rattle.list_chains.specs.declared.chain.Target.TheVariants.{Decide, Return, Jump}
use Rattle.list_chains.specs.declared.span.Span.{Span}
use Rattle.list_chains.specs.Chains.{ListRule}
use Rattle.nft_reader.specs.declared.known.Answers.TheVariants as answers
use Rattle.nft_reader.specs.declared.known.Asked.{Asked}
use Rattle.nft_reader.specs.declared.fault.ObjectFault.{ObjectFault}
use Rattle.nft_reader.specs.declared.fault.ObjectKind.TheVariants as object
use Rattle.nft_reader.specs.declared.fault.RuleFault.{RuleFault}
use Rattle.nft_reader.specs.declared.fault.RuleKind.{RuleKind}
use Rattle.nft_reader.specs.declared.fault.RuleKind.TheVariants as kind
use Rattle.nft_reader.specs.Chains.{Names}
use Rattle.nft_reader.specs.Known.{nowhere}
use Rattle.nft_reader.specs.Ruleset.{chains_of, chains_of_document}
use Rattle.nft_reader.specs.ShownChains.{ShownChain, shown}
use Rattle.nft_reader.specs.Stops.{folded}

-- the numbers from one to another
infixl 20 ◌to◌
abbrev ◌to◌ : ℕ → ℕ → Span
low to high = record { low = low; high = high }

-- all protocols, all addresses, all ports, and the protocol TCP
abbrev all : Span
all = 0 to 255

abbrev any : Span
any = 0 to 4294967295

abbrev ports : Span
ports = 0 to 65535

abbrev tcp : Span
tcp = 6 to 6

-- the box of all packets
abbrev everything : List Span
everything = all ∷ any ∷ any ∷ ports ∷ ports ∷ []

-- a rule that leaves nothing out
abbrev rule : ℕ → Target → List Span → ListRule (List Span)
rule userdata target box =
    record { userdata = userdata; inside = box; but = []; target = target }

-- the first objects of a ruleset: a table with the chain web, and the chain in, which drops
abbrev declarations : List ℕ
declarations =
    codes "{\"nftables\": [{\"metainfo\": {\"version\": \"1.0.6\", \"json_schema_version\": "
    ++ codes "1}}, {\"table\": {\"family\": \"inet\", \"name\": \"f\", \"handle\": 1}}, "
    ++ codes "{\"chain\": "
    ++ codes "{\"family\": \"inet\", \"table\": \"f\", \"name\": \"web\", \"handle\": 1}}, "
    ++ codes "{\"chain\": {\"family\": \"inet\", \"table\": \"f\", \"name\": \"in\", \"handle\": "
    ++ codes "2, \"type\": \"filter\", \"hook\": \"input\", \"prio\": 0, \"policy\": \"drop\"}}"

-- a rule of the chain in, of these statements
abbrev rule_of : List ℕ → List ℕ
rule_of statements =
    codes ", {\"rule\": {\"family\": \"inet\", \"table\": \"f\", \"chain\": \"in\", \"handle\": 7, "
    ++ codes "\"expr\": ["
    ++ statements ++ codes "]}}]}"

-- a rule that no rule file says
abbrev unsaid : ListRule (List Span)
unsaid = rule 7 nowhere everything

-- a rule that leaves one box out
abbrev all_but : List Span → ListRule (List Span)
all_but box = record (rule 7 Decide everything) { but = box ∷ [] }

-- the name of a chain of the table
abbrev named : List ℕ → Names
named name = record { family = codes "inet"; table = codes "f"; name = name }

-- the chains, of which the second has some rules
abbrev with_rules : List (ListRule (List Span)) → List RuleFault →
    Result (List ShownChain) ObjectFault
with_rules rules faults =
    Ok (record { owner = named (codes "web"); policy = None; rules = []; faults = [] }
    ∷ record { owner = named (codes "in"); policy = Some 2; rules = rules; faults = faults } ∷ [])

-- answers that are handles, for IPv4 packets and for those of IPv6
abbrev handles : Asked
handles = record { family = family.Ip4; answers = answers.Handle }

abbrev handles6 : Asked
handles6 = record { family = family.Ip6; answers = answers.Handle }

-- what a text says that is UTF-8, with such answers, under what is assumed
abbrev read_as : Asked → List ℕ → List ℕ → Result (List ShownChain) ObjectFault
read_as asked assumed bytes =
    shown (chains_of_document (codes "in")
    (record { asked = asked; assumed = assumed; begin = None; ported = false }) (document bytes))

-- the same for IPv4 packets, of which nothing is assumed
abbrev read : List ℕ → Result (List ShownChain) ObjectFault
read bytes = read_as handles [] bytes

-- what a rule of the chain in says, under what is assumed
abbrev said_under : List ℕ → List ℕ → Result (List ShownChain) ObjectFault
said_under assumed statements = read_as handles assumed (declarations ++ rule_of statements)

-- what it says for IPv6 packets
abbrev said6 : List ℕ → Result (List ShownChain) ObjectFault
said6 statements = read_as handles6 [] (declarations ++ rule_of statements)

-- and for IPv4 packets, of which nothing is assumed
abbrev said : List ℕ → Result (List ShownChain) ObjectFault
said statements = said_under [] statements

-- ip saddr 10.0.0.1 accept
an_address : said
    (codes "{\"match\": {\"op\": \"==\", \"left\": {\"payload\": {\"protocol\": \"ip\", \"field\": "
    ++ codes "\"saddr\"}}, \"right\": \"10.0.0.1\"}}, {\"accept\": null}")
    ≡ with_rules (rule 7 Decide (all ∷ (167772161 to 167772161) ∷ any ∷ ports ∷ ports ∷ []) ∷ []) []
unfolding json_on_literals folded digits
an_address = refl

-- ip daddr != 192.168.0.0/16 drop
a_prefix_of_other_addresses : said
    (codes "{\"match\": {\"op\": \"!=\", \"left\": {\"payload\": {\"protocol\": \"ip\", \"field\": "
    ++ codes "\"daddr\"}}, \"right\": {\"prefix\": {\"addr\": \"192.168.0.0\", \"len\": 16}}}}, "
    ++ codes "{\"drop\": null}")
    ≡ with_rules (all_but (all ∷ any ∷ (3232235520 to 3232301055) ∷ ports ∷ ports ∷ []) ∷ []) []
unfolding json_on_literals folded digits
a_prefix_of_other_addresses = refl

-- tcp dport { 22, 1000-2000 } counter jump web
ports_of_tcp : said
    (codes "{\"match\": {\"op\": \"==\", \"left\": {\"payload\": {\"protocol\": \"tcp\", "
    ++ codes "\"field\": \"dport\"}}, \"right\": {\"set\": [22, {\"range\": [1000, 2000]}]}}}, "
    ++ codes "{\"counter\": {\"packets\": 0, \"bytes\": 0}}, {\"jump\": {\"target\": \"web\"}}")
    ≡ with_rules (rule 7 (Jump 0) (tcp ∷ any ∷ any ∷ ports ∷ (22 to 22) ∷ [])
    ∷ rule 7 (Jump 0) (tcp ∷ any ∷ any ∷ ports ∷ (1000 to 2000) ∷ []) ∷ []) []
unfolding json_on_literals folded digits
ports_of_tcp = refl

-- meta l4proto { icmp, 99 } return
protocols : said
    (codes "{\"match\": {\"op\": \"==\", \"left\": {\"meta\": {\"key\": \"l4proto\"}}, \"right\": "
    ++ codes "{\"set\": [\"icmp\", 99]}}}, {\"return\": null}")
    ≡ with_rules (rule 7 Return ((1 to 1) ∷ any ∷ any ∷ ports ∷ ports ∷ [])
    ∷ rule 7 Return ((99 to 99) ∷ any ∷ any ∷ ports ∷ ports ∷ []) ∷ []) []
unfolding json_on_literals folded digits
protocols = refl

-- ip6 saddr fe80::/10 ct state new accept: no IPv4 packet is caught
packets_of_ip6 : said
    (codes "{\"match\": {\"op\": \"==\", \"left\": {\"payload\": {\"protocol\": \"ip6\", "
    ++ codes "\"field\": "
    ++ codes "\"saddr\"}}, \"right\": {\"prefix\": {\"addr\": \"fe80::\", \"len\": 10}}}}, "
    ++ codes "{\"accept\": null}")
    ≡ with_rules [] []
unfolding json_on_literals folded digits
packets_of_ip6 = refl

-- all halves of addresses, and the boxes of an address of IPv6 packets
abbrev half : Span
half = 0 to 18446744073709551615

abbrev from6 : Span → Span → List Span
from6 high low = all ∷ high ∷ low ∷ half ∷ half ∷ ports ∷ ports ∷ []

-- the same of IPv6 packets: the high halves from fe80:: to febf:ffff:ffff:ffff::
packets_from_ip6 : said6
    (codes "{\"match\": {\"op\": \"==\", \"left\": {\"payload\": {\"protocol\": \"ip6\", "
    ++ codes "\"field\": "
    ++ codes "\"saddr\"}}, \"right\": {\"prefix\": {\"addr\": \"fe80::\", \"len\": 10}}}}, "
    ++ codes "{\"accept\": null}")
    ≡ with_rules
    (rule 7 Decide (from6 (18338657682652659712 to 18356672081162141695) half) ∷ []) []
unfolding json_on_literals folded digits
packets_from_ip6 = refl

-- ip6 saddr { ::1, ::5-::9 } accept
addresses_of_ip6 : said6
    (codes "{\"match\": {\"op\": \"==\", \"left\": {\"payload\": {\"protocol\": \"ip6\", "
    ++ codes "\"field\": "
    ++ codes "\"saddr\"}}, \"right\": {\"set\": [\"::1\", {\"range\": [\"::5\", \"::9\"]}]}}}, "
    ++ codes "{\"accept\": null}")
    ≡ with_rules (rule 7 Decide (from6 (0 to 0) (1 to 1))
    ∷ rule 7 Decide (from6 (0 to 0) (5 to 9)) ∷ []) []
unfolding json_on_literals folded digits
addresses_of_ip6 = refl

-- ip saddr 10.0.0.1 accept: no IPv6 packet is caught
packets_of_ip4 : said6
    (codes "{\"match\": {\"op\": \"==\", \"left\": {\"payload\": {\"protocol\": \"ip\", \"field\": "
    ++ codes "\"saddr\"}}, \"right\": \"10.0.0.1\"}}, {\"accept\": null}")
    ≡ with_rules [] []
unfolding json_on_literals folded digits
packets_of_ip4 = refl

-- reject with tcp reset, which in a table of the family ip shows no comparison with TCP
a_reset : said
    (codes "{\"reject\": {\"type\": \"tcp reset\"}}")
    ≡ with_rules (rule 7 Decide (tcp ∷ any ∷ any ∷ ports ∷ ports ∷ []) ∷ []) []
unfolding json_on_literals folded digits
a_reset = refl

-- reject with icmpv6 type port-unreachable
a_message_of_ip6 : said
    (codes "{\"reject\": {\"type\": \"icmpv6\", \"expr\": \"port-unreachable\"}}")
    ≡ with_rules [] []
unfolding json_on_literals folded digits
a_message_of_ip6 = refl

-- tcp dport 25 log: the next rule decides
only_a_log : said
    (codes "{\"match\": {\"op\": \"==\", \"left\": {\"payload\": {\"protocol\": \"tcp\", "
    ++ codes "\"field\": \"dport\"}}, \"right\": 25}}, {\"log\": null}")
    ≡ with_rules [] []
unfolding json_on_literals folded digits
only_a_log = refl

-- a comparison of the state of a connection, and accept
abbrev of_state : List ℕ → List ℕ → List ℕ
of_state operator right =
    codes "{\"match\": {\"op\": " ++ operator ++ codes ", \"left\": {\"ct\": {\"key\": "
    ++ codes "\"state\"}}, \"right\": " ++ right ++ codes "}}, {\"accept\": null}"

-- one of the key of an interface
abbrev of_interface : List ℕ → List ℕ → List ℕ → List ℕ
of_interface operator key right =
    codes "{\"match\": {\"op\": " ++ operator ++ codes ", \"left\": {\"meta\": {\"key\": "
    ++ key ++ codes "}}, \"right\": " ++ right ++ codes "}}, {\"accept\": null}"

-- a rule that accepts all packets, and a cause why no rule file says it
abbrev accepts : Result (List ShownChain) ObjectFault
accepts = with_rules (rule 7 Decide everything ∷ []) []

abbrev unsaid_by : RuleKind → Result (List ShownChain) ObjectFault
unsaid_by why = with_rules (unsaid ∷ []) (record { handle = 7; kind = why } ∷ [])

-- meta l4proto { tcp, udp } reject with tcp reset, by which the kernel drops packets of UDP too
a_reset_of_several : said
    (codes "{\"match\": {\"op\": \"==\", \"left\": {\"meta\": {\"key\": \"l4proto\"}}, "
    ++ codes "\"right\": {\"set\": [6, 17]}}}, {\"reject\": {\"type\": \"tcp reset\"}}")
    ≡ with_rules (rule 7 nowhere (tcp ∷ any ∷ any ∷ ports ∷ ports ∷ [])
    ∷ rule 7 nowhere ((17 to 17) ∷ any ∷ any ∷ ports ∷ ports ∷ []) ∷ [])
    (record { handle = 7; kind = kind.CantSay } ∷ [])
unfolding json_on_literals folded digits
a_reset_of_several = refl

-- a comparison of the protocol with two, one of them UDP, and th dport 53 accept
abbrev to_port_of : List ℕ → List ℕ
to_port_of protocol =
    codes "{\"match\": {\"op\": \"==\", \"left\": {\"meta\": {\"key\": \"l4proto\"}}, "
    ++ codes "\"right\": {\"set\": [" ++ protocol ++ codes ", \"udp\"]}}}, {\"match\": {\"op\": "
    ++ codes "\"==\", \"left\": {\"payload\": {\"protocol\": \"th\", \"field\": \"dport\"}}, "
    ++ codes "\"right\": 53}}, {\"accept\": null}"

-- meta l4proto { tcp, udp } th dport 53 accept
ports_of_several : said (to_port_of (codes "\"tcp\""))
    ≡ with_rules (rule 7 Decide (tcp ∷ any ∷ any ∷ ports ∷ (53 to 53) ∷ [])
    ∷ rule 7 Decide ((17 to 17) ∷ any ∷ any ∷ ports ∷ (53 to 53) ∷ []) ∷ []) []
unfolding json_on_literals folded digits
ports_of_several = refl

-- meta l4proto { icmp, udp } th dport 53 accept: packets of ICMP have something else there
ports_of_others : said (to_port_of (codes "\"icmp\""))
    ≡ with_rules (rule 7 nowhere ((1 to 1) ∷ any ∷ any ∷ ports ∷ ports ∷ [])
    ∷ rule 7 nowhere ((17 to 17) ∷ any ∷ any ∷ ports ∷ ports ∷ []) ∷ [])
    (record { handle = 7; kind = kind.CantSay } ∷ [])
unfolding json_on_literals folded digits
ports_of_others = refl

-- ct state new accept: it leads to no chain, and its cause is told
a_state : said (of_state (codes "\"in\"") (codes "\"new\"")) ≡ unsaid_by kind.NeedsState
unfolding json_on_literals folded digits assumed_state_table
a_state = refl

-- ct state established,related accept
a_list_of_states : said_under (codes "state=related")
    (of_state (codes "\"in\"") (codes "[\"established\", \"related\"]")) ≡ accepts
unfolding json_on_literals folded digits assumed_state_table
a_list_of_states = refl

-- ct state { invalid, new } accept
other_states : said_under (codes "in=lo,state=related")
    (of_state (codes "\"==\"") (codes "{\"set\": [\"invalid\", \"new\"]}")) ≡ with_rules [] []
unfolding json_on_literals folded digits assumed_state_table
other_states = refl

-- ct state & (invalid | new) == 0 accept
none_of_the_states : said_under (codes "state=related")
    (of_state (codes "\"!\"") (codes "[\"invalid\", \"new\"]")) ≡ accepts
unfolding json_on_literals folded digits assumed_state_table
none_of_the_states = refl

-- ct state == invalid | new accept, which no connection has
both_states : said_under (codes "state=new")
    (of_state (codes "\"==\"") (codes "{\"|\": [\"invalid\", \"new\"]}")) ≡ unsaid_by kind.CantSay
unfolding json_on_literals folded digits assumed_state_table
both_states = refl

-- iif lo accept
no_interface : said (of_interface (codes "\"==\"") (codes "\"iif\"") (codes "\"lo\""))
    ≡ unsaid_by kind.NeedsInterface
unfolding json_on_literals folded
no_interface = refl

-- iifname @ours accept, which names a set
interfaces_of_a_set : said_under (codes "in=@ours")
    (of_interface (codes "\"==\"") (codes "\"iifname\"") (codes "\"@ours\""))
    ≡ unsaid_by kind.CantSay
unfolding json_on_literals folded
interfaces_of_a_set = refl

-- the same of packets of another one
other_interface : said_under (codes "in=eth0")
    (of_interface (codes "\"==\"") (codes "\"iif\"") (codes "\"lo\"")) ≡ with_rules [] []
unfolding json_on_literals folded
other_interface = refl

-- iifname { "lo", "eth*" } accept
an_interface : said_under (codes "in=eth0")
    (of_interface (codes "\"==\"") (codes "\"iifname\"") (codes "{\"set\": [\"lo\", \"eth*\"]}"))
    ≡ accepts
unfolding json_on_literals folded
an_interface = refl

-- iifname != "eth\*" accept: a name with a `*` in it isn't read
a_starred_name : said_under (codes "in=eth0")
    (of_interface (codes "\"!=\"") (codes "\"iifname\"") (codes "\"eth\\\\*\""))
    ≡ unsaid_by kind.CantSay
unfolding json_on_literals folded
a_starred_name = refl

-- oifname != "lo" accept, at a hook whose packets don't have it: it is refused whatever is assumed
an_interface_of_another_hook : said_under (codes "out=eth0")
    (of_interface (codes "\"!=\"") (codes "\"oifname\"") (codes "\"lo\""))
    ≡ unsaid_by kind.HookInterface
unfolding json_on_literals folded
an_interface_of_another_hook = refl

-- tcp sport != 25 tcp dport != A accept, where A is a port, a set or a range
abbrev other_ports : List ℕ → List ℕ
other_ports right =
    codes "{\"match\": {\"op\": \"!=\", \"left\": {\"payload\": {\"protocol\": \"tcp\", "
    ++ codes "\"field\": \"sport\"}}, \"right\": 25}}, {\"counter\": null}, "
    ++ codes "{\"match\": {\"op\": \"!=\", \"left\": {\"payload\": {\"protocol\": \"tcp\", "
    ++ codes "\"field\": \"dport\"}}, \"right\": " ++ right ++ codes "}}, {\"accept\": null}"

-- of two ports nft may make one comparison
two_other_ports : said (other_ports (codes "80")) ≡ unsaid_by kind.PortPair
unfolding json_on_literals folded digits
two_other_ports = refl

-- of a port and a range it makes two
a_port_and_a_range : said (other_ports (codes "{\"range\": [80, 90]}"))
    ≡ with_rules (record {
      userdata = 7;
      inside = tcp ∷ any ∷ any ∷ ports ∷ ports ∷ [];
      but = (all ∷ any ∷ any ∷ (25 to 25) ∷ ports ∷ [])
          ∷ (all ∷ any ∷ any ∷ ports ∷ (80 to 90) ∷ []) ∷ [];
      target = Decide;
    } ∷ []) []
unfolding json_on_literals folded digits
a_port_and_a_range = refl

-- queue to 0
a_queue : said
    (codes "{\"queue\": {\"num\": 0}}")
    ≡ unsaid_by kind.UnknownStatement
unfolding json_on_literals folded digits
a_queue = refl

-- limit name l accept
a_named_limit : said
    (codes "{\"limit\": \"l\"}, {\"accept\": null}")
    ≡ unsaid_by kind.Rate
unfolding json_on_literals folded digits
a_named_limit = refl

-- quota name q accept
a_named_quota : said
    (codes "{\"quota\": \"q\"}, {\"accept\": null}")
    ≡ unsaid_by kind.UnknownStatement
unfolding json_on_literals folded digits
a_named_quota = refl

-- flow add @t
a_flow : said
    (codes "{\"flow\": {\"op\": \"add\", \"flowtable\": \"@t\"}}")
    ≡ unsaid_by kind.UnknownStatement
unfolding json_on_literals folded digits
a_flow = refl

-- ip saddr @blocked drop, without the set
a_set_that_isnt_there : said
    (codes "{\"match\": {\"op\": \"==\", \"left\": {\"payload\": {\"protocol\": \"ip\", \"field\": "
    ++ codes "\"saddr\"}}, \"right\": \"@blocked\"}}, {\"drop\": null}")
    ≡ unsaid_by kind.NoSet
unfolding json_on_literals folded digits
a_set_that_isnt_there = refl

-- an object of a table, after another one
abbrev object_of : List ℕ → List ℕ
object_of name =
    codes ", {\"" ++ name
    ++ codes "\": {\"family\": \"inet\", \"name\": \"o\", \"table\": \"f\", \"handle\": 4}}"

-- objects that say nothing of packets by themselves
silent_objects : read
    (codes "{\"nftables\": [{\"metainfo\": {}}"
    ++ flat_map object_of
    (codes "quota" ∷ codes "limit" ∷ codes "ct helper" ∷ codes "ct timeout"
    ∷ codes "ct expectation" ∷ codes "secmark" ∷ codes "synproxy" ∷ codes "flowtable" ∷ [])
    ++ codes "]}")
    ≡ Ok []
unfolding json_on_literals folded
silent_objects = refl

-- a table with flags that tell of its process, and chains with comments, one of them of a device
comments_of_chains : read
    (codes "{\"nftables\": [{\"table\": {\"family\": \"inet\", \"name\": \"f\", \"handle\": 1, "
    ++ codes "\"comment\": \"x\", \"flags\": [\"owner\", \"persist\"]}}, {\"chain\": {\"family\": "
    ++ codes "\"inet\", \"table\": \"f\", \"name\": "
    ++ codes "\"web\", \"handle\": 1, \"comment\": \"x\"}}, {\"chain\": {\"family\": \"inet\", "
    ++ codes "\"table\": \"f\", \"name\": \"in\", \"handle\": 2, \"comment\": \"x\", \"type\": "
    ++ codes "\"filter\", \"hook\": \"ingress\", \"dev\": \"eth0\", \"prio\": 0, "
    ++ codes "\"policy\": \"drop\"}}]}")
    ≡ with_rules [] []
unfolding json_on_literals folded
comments_of_chains = refl

-- a table that may be dormant is refused: nft 1.0.6 writes its name in the place of each flag
a_table_that_may_sleep : read
    (codes "{\"nftables\": [{\"table\": {\"family\": \"ip\", \"name\": \"f\", \"flags\": "
    ++ codes "\"owner\"}}, {\"table\": {\"family\": \"ip\", \"name\": \"owner\", \"flags\": "
    ++ codes "\"owner\"}}]}")
    ≡ Err (record { object = 2; kind = object.BadTable })
unfolding json_on_literals folded
a_table_that_may_sleep = refl

-- a chain with another member is refused, by its number
a_chain_of_a_device : read
    (codes "{\"nftables\": [{\"chain\": {\"family\": \"inet\", \"table\": \"f\", \"name\": \"in\", "
    ++ codes "\"handle\": 2, \"dev\": \"eth0\"}}]}")
    ≡ Err (record { object = 1; kind = object.BadChain })
unfolding json_on_literals folded
a_chain_of_a_device = refl

-- an object that isn't known is refused, by its number
a_command : read (codes "{\"nftables\": [{\"metainfo\": {}}, {\"add\": {}}]}")
    ≡ Err (record { object = 2; kind = object.UnknownObject })
unfolding json_on_literals folded
a_command = refl

-- so is one of a family that nft doesn't have, of whatever kind
an_unknown_family : read (codes "{\"nftables\": [{\"table\": {\"family\": \"arp\", \"name\": "
    ++ codes "\"f\"}}, {\"set\": {\"family\": \"ipx\", \"name\": \"s\", \"table\": \"f\"}}]}")
    ≡ Err (record { object = 2; kind = object.NoFamily })
unfolding json_on_literals folded
an_unknown_family = refl

-- what nft lists without -j is no JSON
no_json : chains_of handles [] [] (codes "table inet f {")
    ≡ Err (record { object = 0; kind = object.NotJson })
unfolding json_on_literals is_utf8 chars
no_json = refl

-- so is what isn't UTF-8
no_text : chains_of handles [] [] (34 ∷ 255 ∷ 34 ∷ [])
    ≡ Err (record { object = 0; kind = object.NotJson })
unfolding json_on_literals is_utf8 chars
no_text = refl
