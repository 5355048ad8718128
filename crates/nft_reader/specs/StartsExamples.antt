-- Examples of the base chain that is asked for, each checked by evaluation: rulesets as nft -j
-- prints them, and others on the way of its packets.
use Rattle.std.specs.Prelude.{◌≡◌, ℕ, ◌++◌, List, [], ◌∷◌, codes, false, Result, Ok, Err, None, refl}
use Rattle.std.specs.Fmt.{digits}
use Rattle.json.proofs.OnLiterals.{json_on_literals}
use Rattle.json.specs.Json.{document}
use Rattle.field_defs.specs.declared.field.Family.TheVariants as family
use Rattle.list_packets.specs.Assumed.{assumed_state_table}
use Rattle.nft_reader.specs.declared.fault.ObjectFault.{ObjectFault}
use Rattle.nft_reader.specs.declared.fault.ObjectKind.TheVariants as object
use Rattle.nft_reader.specs.declared.fault.StartFault.{StartFault}
use Rattle.nft_reader.specs.declared.fault.StartFault.TheVariants as start
use Rattle.nft_reader.specs.declared.known.Answers.TheVariants as answers
use Rattle.nft_reader.specs.Chains.{ListedChain}
use Rattle.nft_reader.specs.Ruleset.{chains_of_document}
use Rattle.nft_reader.specs.Starts.{spread_on, start_of}
use Rattle.nft_reader.specs.Stops.{folded}

-- the place of the chain in, or why it can't be asked, of a ruleset without faults
abbrev place_in : List ℕ → Result (List ListedChain) ObjectFault → Result ℕ StartFault
place_in assumed (Err fault) = Ok 1000
place_in assumed (Ok chains) = start_of assumed (codes "in") chains

-- the chains of IPv4 packets that come to the chain in
abbrev read : List ℕ → List ℕ → Result (List ListedChain) ObjectFault
read assumed objects = chains_of_document (codes "in") (record {
  asked = record { family = family.Ip4; answers = answers.Handle };
  assumed = assumed;
  begin = None;
  ported = false;
}) (document (codes "{\"nftables\": [" ++ objects ++ codes "]}"))

-- a base chain: its family and its name, its handle, its type, its hook, its priority and its
-- policy
abbrev base : List ℕ → List ℕ → List ℕ → List ℕ → List ℕ
base owner handle hook policy =
    codes "{\"chain\": {" ++ owner ++ codes ", \"handle\": " ++ handle ++ codes ", " ++ hook
    ++ codes ", \"policy\": \"" ++ policy ++ codes "\"}}"

-- a type, a hook and a priority
abbrev at : List ℕ → List ℕ → List ℕ → List ℕ
at kind hook priority =
    codes "\"type\": \"" ++ kind ++ codes "\", \"hook\": \"" ++ hook ++ codes "\", \"prio\": "
    ++ priority

-- a chain of a family, a table and a name
abbrev of : List ℕ → List ℕ → List ℕ → List ℕ
of its table name =
    codes "\"family\": \"" ++ its ++ codes "\", \"table\": \"" ++ table ++ codes "\", \"name\": \""
    ++ name ++ codes "\""

-- the chain in, which drops at input
abbrev asked : List ℕ
asked =
    base (of (codes "ip") (codes "t") (codes "in")) (codes "1")
    (at (codes "filter") (codes "input") (codes "0")) (codes "drop")

-- a rule with the handle 9 of a chain of the table u, of some statements
abbrev rule : List ℕ → List ℕ → List ℕ
rule chain statements =
    codes "{\"rule\": {\"family\": \"inet\", \"table\": \"u\", \"chain\": \"" ++ chain
    ++ codes "\", \"handle\": 9, \"expr\": [" ++ statements ++ codes "]}}"

-- a chain of the table u, to which packets come by themselves at a hook
abbrev other : List ℕ → List ℕ → List ℕ
other hook policy =
    codes ", " ++ base (of (codes "inet") (codes "u") (codes "other")) (codes "7") hook policy

-- the same before the packets are routed, which accepts
abbrev early : List ℕ
early = other (at (codes "filter") (codes "prerouting") (codes "-300")) (codes "accept")

-- alone
alone : place_in [] (read [] asked) ≡ Ok 0
unfolding json_on_literals folded digits spread_on
alone = refl

-- another one whose policy drops, before, and where no packet of the first comes
a_policy_before : place_in [] (read [] (asked
    ++ other (at (codes "filter") (codes "prerouting") (codes "-300")) (codes "drop")))
    ≡ Err (start.Beside 7)
unfolding json_on_literals folded digits spread_on
a_policy_before = refl

a_policy_elsewhere : place_in [] (read [] (asked
    ++ other (at (codes "filter") (codes "forward") (codes "0")) (codes "drop")))
    ≡ Ok 0
unfolding json_on_literals folded digits spread_on
a_policy_elsewhere = refl

-- one of a device
a_policy_of_a_device : place_in [] (read [] (asked
    ++ codes ", " ++ base (of (codes "netdev") (codes "u") (codes "in")) (codes "7")
    (at (codes "filter") (codes "ingress") (codes "0")) (codes "drop")))
    ≡ Err (start.Beside 7)
unfolding json_on_literals folded digits spread_on
a_policy_of_a_device = refl

-- ip saddr 10.0.0.1 drop
abbrev a_drop : List ℕ
a_drop =
    codes "{\"match\": {\"op\": \"==\", \"left\": {\"payload\": {\"protocol\": \"ip\", \"field\": "
    ++ codes "\"saddr\"}}, \"right\": \"10.0.0.1\"}}, {\"drop\": null}"

a_rule_that_drops : place_in [] (read [] (asked ++ early ++ codes ", "
    ++ rule (codes "other") a_drop)) ≡ Err (start.Beside 9)
unfolding json_on_literals folded digits spread_on
a_rule_that_drops = refl

-- the same of packets of IPv6
a_rule_of_ip6 : place_in [] (read [] (asked ++ early ++ codes ", "
    ++ rule (codes "other")
    (codes "{\"match\": {\"op\": \"==\", \"left\": {\"meta\": {\"key\": \"nfproto\"}}, "
    ++ codes "\"right\": \"ipv6\"}}, {\"fib\": null}, {\"drop\": null}"))) ≡ Ok 0
unfolding json_on_literals folded digits spread_on
a_rule_of_ip6 = refl

-- rules that accept, change packets or hand them to iptables' targets of that kind; others may drop
rules_that_let_go : place_in [] (read [] (asked ++ early ++ codes ", "
    ++ rule (codes "other") (codes "{\"counter\": null}, {\"mangle\": {}}, "
    ++ codes "{\"xt\": {\"type\": \"target\", \"name\": \"MARK\"}}, {\"accept\": null}"))) ≡ Ok 0
unfolding json_on_literals folded digits spread_on
rules_that_let_go = refl

a_queue : place_in [] (read [] (asked ++ early ++ codes ", "
    ++ rule (codes "other") (codes "{\"queue\": {\"num\": 0}}"))) ≡ Err (start.Beside 9)
unfolding json_on_literals folded digits spread_on
a_queue = refl

-- a rule that leads to a chain that drops, and to one that doesn't
abbrev led : List ℕ → List ℕ
led statements =
    asked ++ codes ", {\"chain\": {" ++ of (codes "inet") (codes "u") (codes "web")
    ++ codes ", \"handle\": 6}}" ++ early ++ codes ", "
    ++ rule (codes "other") (codes "{\"vmap\": {\"key\": {\"meta\": {\"key\": \"mark\"}}, "
    ++ codes "\"data\": {\"set\": [[1, {\"jump\": {\"target\": \"web\"}}]]}}}")
    ++ codes ", " ++ rule (codes "web") statements

a_chain_that_drops : place_in [] (read [] (led (codes "{\"drop\": null}")))
    ≡ Err (start.Beside 9)
unfolding json_on_literals folded digits spread_on
a_chain_that_drops = refl

a_chain_that_accepts : place_in [] (read [] (led (codes "{\"accept\": null}"))) ≡ Ok 0
unfolding json_on_literals folded digits spread_on
a_chain_that_accepts = refl

-- the interface that is assumed is one that packets have there, or not
an_interface : place_in (codes "in=eth0") (read (codes "in=eth0") asked) ≡ Ok 0
unfolding json_on_literals folded digits spread_on
an_interface = refl

another_interface : place_in (codes "out=eth0") (read (codes "out=eth0") asked)
    ≡ Err start.OtherInterface
unfolding json_on_literals folded digits spread_on
another_interface = refl

-- only the first packets of connections come to a chain of type nat
of_type_nat : place_in [] (read []
    (base (of (codes "ip") (codes "t") (codes "in")) (codes "1")
    (at (codes "nat") (codes "output") (codes "-100")) (codes "accept")))
    ≡ Err start.NatStart
unfolding json_on_literals folded digits spread_on
of_type_nat = refl

-- no chain of that type stands at the hook
no_such_chain : read []
    (base (of (codes "ip") (codes "t") (codes "in")) (codes "1")
    (at (codes "nat") (codes "forward") (codes "0")) (codes "accept"))
    ≡ Err (record { object = 1; kind = object.BadHook })
unfolding json_on_literals folded digits
no_such_chain = refl
