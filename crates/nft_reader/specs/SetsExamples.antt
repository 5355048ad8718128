-- Examples of sets and of several things together, each checked by evaluation: objects as nft -j
-- prints them, and what a rule that names them says.
use Rattle.std.specs.Prelude.{◌≡◌, ℕ, ◌++◌, List, [], ◌∷◌, codes, false, Result, Ok, None, refl}
use Rattle.std.specs.Fmt.{digits}
use Rattle.json.proofs.OnLiterals.{json_on_literals}
use Rattle.json.specs.Json.{document}
use Rattle.field_defs.specs.declared.field.Family.TheVariants as family
use Rattle.list_chains.specs.declared.chain.Target.{Target}
use Rattle.list_chains.specs.declared.chain.Target.TheVariants.{Decide}
use Rattle.list_chains.specs.declared.span.Span.{Span}
use Rattle.list_chains.specs.Chains.{ListRule}
use Rattle.nft_reader.specs.declared.known.Answers.TheVariants as answers
use Rattle.nft_reader.specs.declared.fault.ObjectFault.{ObjectFault}
use Rattle.nft_reader.specs.declared.fault.RuleFault.{RuleFault}
use Rattle.nft_reader.specs.declared.fault.RuleKind.TheVariants as kind
use Rattle.nft_reader.specs.Keys.{parts_boxes}
use Rattle.nft_reader.specs.Known.{nowhere}
use Rattle.nft_reader.specs.Ruleset.{chains_of_document}
use Rattle.nft_reader.specs.ShownChains.{ShownChain, shown}
use Rattle.nft_reader.specs.Stops.{folded}

-- the numbers from one to another
infixl 20 ◌to◌
abbrev ◌to◌ : ℕ → ℕ → Span
low to high = record { low = low; high = high }

-- the packets of some protocols, from some addresses, to some ports
abbrev packets : Span → Span → Span → List Span
packets protocol source port =
    protocol ∷ source ∷ (0 to 4294967295) ∷ (0 to 65535) ∷ port ∷ []

-- a rule of handle 7
abbrev rule : Target → List Span → ListRule (List Span)
rule target box = record { userdata = 7; inside = box; but = []; target = target }

-- sources are these
abbrev from : Span → ListRule (List Span)
from source = rule Decide (packets (0 to 255) source (0 to 65535))

-- a rule that no rule file says, and why
abbrev unsaid : ListRule (List Span)
unsaid = rule nowhere (packets (0 to 255) (0 to 4294967295) (0 to 65535))

-- the one chain of a ruleset, with some rules
abbrev with_rules : List (ListRule (List Span)) → List RuleFault →
    Result (List ShownChain) ObjectFault
with_rules rules faults = Ok (record {
  owner = record { family = codes "ip"; table = codes "f"; name = codes "in" };
  policy = None;
  rules = rules;
  faults = faults;
} ∷ [])

-- a rule of the family ip, of these statements
abbrev rule_of : List ℕ → List ℕ
rule_of statements =
    codes "{\"rule\": {\"family\": \"ip\", \"table\": \"f\", \"chain\": \"in\", \"handle\": 7, "
    ++ codes "\"expr\": ["
    ++ statements ++ codes "]}}"

-- the chain
abbrev the_chain : List ℕ
the_chain =
    codes "{\"chain\": {\"family\": \"ip\", \"table\": \"f\", \"name\": \"in\", \"handle\": 1}}, "

-- what a text says for IPv4 packets, of which nothing is assumed
abbrev read : List ℕ → Result (List ShownChain) ObjectFault
read bytes =
    shown (chains_of_document [] (record {
      asked = record { family = family.Ip4; answers = answers.Handle };
      assumed = [];
      begin = None;
      ported = false;
    }) (document bytes))

-- a ruleset of objects, a chain, and a rule of it
abbrev said : List ℕ → List ℕ → Result (List ShownChain) ObjectFault
said objects statements =
    read (codes "{\"nftables\": [" ++ objects
    ++ the_chain ++ rule_of statements ++ codes "]}")

-- a set of the table, with more members
abbrev set_of : List ℕ → List ℕ
set_of members =
    codes "{\"set\": {\"family\": \"ip\", \"name\": \"blocked\", \"table\": \"f\", \"type\": "
    ++ codes "\"ipv4_addr\", \"handle\": 3" ++ members ++ codes "}}, "

-- ip saddr @blocked drop
abbrev drops_blocked : List ℕ
drops_blocked =
    codes "{\"match\": {\"op\": \"==\", \"left\": {\"payload\": {\"protocol\": \"ip\", \"field\": "
    ++ codes "\"saddr\"}}, \"right\": \"@blocked\"}}, {\"drop\": null}"

-- a prefix, a range, and an address with a comment
a_set_of_spans :
    said (set_of (codes ", \"flags\": [\"interval\"], \"elem\": [{\"prefix\": {\"addr\": "
    ++ codes "\"10.0.0.0\", \"len\": 8}}, {\"range\": [\"11.0.0.1\", \"11.0.0.9\"]}, "
    ++ codes "{\"elem\": {\"val\": \"12.0.0.1\", \"comment\": \"x\"}}]")) drops_blocked
    ≡ with_rules (from (167772160 to 184549375) ∷ from (184549377 to 184549385)
    ∷ from (201326593 to 201326593) ∷ []) []
unfolding json_on_literals folded digits
a_set_of_spans = refl

-- no packet is from an address of an empty set
an_empty_set : said (set_of (codes ", \"size\": 100")) drops_blocked ≡ with_rules [] []
unfolding json_on_literals folded digits
an_empty_set = refl

-- a set that counts the packets of each element
a_set_that_counts :
    said (set_of (codes ", \"elem\": [{\"elem\": {\"val\": \"10.0.0.1\", \"counter\": "
    ++ codes "{\"packets\": 5, \"bytes\": 6}}}, {\"elem\": {\"val\": \"10.0.0.2\", \"comment\": "
    ++ codes "\"x\", \"counter\": {\"packets\": 0, \"bytes\": 0}}}], \"stmt\": [{\"counter\": "
    ++ codes "null}]")) drops_blocked
    ≡ with_rules (from (167772161 to 167772161) ∷ from (167772162 to 167772162) ∷ []) []
unfolding json_on_literals folded digits
a_set_that_counts = refl

-- one whose elements have a rate isn't known
a_set_with_a_rate :
    said (set_of (codes ", \"elem\": [\"10.0.0.1\"], \"stmt\": [{\"counter\": null}, {\"limit\": "
    ++ codes "{\"rate\": 1, \"burst\": 5, \"per\": \"second\"}}]")) drops_blocked
    ≡ with_rules (unsaid ∷ []) (record { handle = 7; kind = kind.OtherSet } ∷ [])
unfolding json_on_literals folded digits
a_set_with_a_rate = refl

-- a set whose elements end by time isn't known
a_timed_set :
    said (set_of (codes ", \"flags\": [\"timeout\"], \"elem\": [\"10.0.0.1\"]")) drops_blocked
    ≡ with_rules (unsaid ∷ []) (record { handle = 7; kind = kind.ChangingSet } ∷ [])
unfolding json_on_literals folded digits
a_timed_set = refl

-- a rule of handle 8 that adds to the set: add @blocked { ip saddr }
abbrev adds_to_blocked : List ℕ
adds_to_blocked =
    codes "{\"rule\": {\"family\": \"ip\", \"table\": \"f\", \"chain\": \"in\", \"handle\": 8, "
    ++ codes "\"expr\": [{\"set\": {\"op\": \"add\", \"elem\": {\"payload\": {\"protocol\": "
    ++ codes "\"ip\", \"field\": \"saddr\"}}, \"set\": \"@blocked\"}}]}}"

-- a set to which packets are added isn't known, wherever the rule stands that adds them
a_set_that_a_rule_changes :
    read (codes "{\"nftables\": [" ++ set_of (codes ", \"elem\": [\"10.0.0.1\"]") ++ the_chain
    ++ rule_of drops_blocked ++ codes ", " ++ adds_to_blocked ++ codes "]}")
    ≡ with_rules (unsaid ∷ []) (record { handle = 7; kind = kind.ChangingSet } ∷ [])
unfolding json_on_literals folded digits
a_set_that_a_rule_changes = refl

-- a set of another table isn't there
a_set_of_another_table :
    said (codes "{\"set\": {\"family\": \"ip\", \"name\": \"blocked\", \"table\": \"g\", \"type\": "
    ++ codes "\"ipv4_addr\", \"handle\": 3, \"elem\": [\"10.0.0.1\"]}}, ") drops_blocked
    ≡ with_rules (unsaid ∷ []) (record { handle = 7; kind = kind.NoSet } ∷ [])
unfolding json_on_literals folded digits
a_set_of_another_table = refl

-- ip saddr . tcp dport
abbrev pair : List ℕ
pair =
    codes "{\"concat\": [{\"payload\": {\"protocol\": \"ip\", \"field\": \"saddr\"}}, "
    ++ codes "{\"payload\": {\"protocol\": \"tcp\", \"field\": \"dport\"}}]}"

-- ip saddr . tcp dport { 10.0.0.1 . 22, 11.0.0.0/8 . 80-90 } accept
several_together :
    said [] (codes "{\"match\": {\"op\": \"==\", \"left\": " ++ pair
    ++ codes ", \"right\": {\"set\": [{\"concat\": [\"10.0.0.1\", 22]}, {\"concat\": [{\"prefix\": "
    ++ codes "{\"addr\": \"11.0.0.0\", \"len\": 8}}, {\"range\": [80, 90]}]}]}}}, {\"accept\": "
    ++ codes "null}")
    ≡ with_rules (rule Decide (packets (6 to 6) (167772161 to 167772161) (22 to 22))
    ∷ rule Decide (packets (6 to 6) (184549376 to 201326591) (80 to 90)) ∷ []) []
unfolding json_on_literals folded parts_boxes digits
several_together = refl

-- meta l4proto . th dport, one of two elements, accept
abbrev to_ports : List ℕ → List ℕ
to_ports protocol =
    codes "{\"match\": {\"op\": \"==\", \"left\": {\"concat\": [{\"meta\": {\"key\": "
    ++ codes "\"l4proto\"}}, {\"payload\": {\"protocol\": \"th\", \"field\": \"dport\"}}]}, "
    ++ codes "\"right\": {\"set\": [{\"concat\": [" ++ protocol ++ codes ", 22]}, {\"concat\": "
    ++ codes "[\"udp\", 53]}]}}}, {\"accept\": null}"

-- meta l4proto . th dport { tcp . 22, udp . 53 } accept
ports_together :
    said [] (to_ports (codes "\"tcp\""))
    ≡ with_rules (rule Decide (packets (6 to 6) (0 to 4294967295) (22 to 22))
    ∷ rule Decide (packets (17 to 17) (0 to 4294967295) (53 to 53)) ∷ []) []
unfolding json_on_literals folded parts_boxes digits
ports_together = refl

-- meta l4proto . th dport { icmp . 22, udp . 53 } accept: packets of ICMP have something else there
others_of_ports :
    said [] (to_ports (codes "\"icmp\""))
    ≡ with_rules (unsaid ∷ []) (record { handle = 7; kind = kind.CantSay } ∷ [])
unfolding json_on_literals folded parts_boxes digits
others_of_ports = refl

-- that they are others isn't said
others_together :
    said [] (codes "{\"match\": {\"op\": \"!=\", \"left\": " ++ pair
    ++ codes ", \"right\": {\"set\": [{\"concat\": [\"10.0.0.1\", 22]}]}}}, {\"accept\": null}")
    ≡ with_rules (unsaid ∷ []) (record { handle = 7; kind = kind.CantSay } ∷ [])
unfolding json_on_literals folded parts_boxes digits
others_together = refl
