-- Examples of maps to verdicts, each checked by evaluation: statements as nft -j prints them, and
-- the rules of their elements.
use Rattle.std.specs.Prelude.{◌≡◌, ℕ, ◌++◌, List, [], ◌∷◌, codes, false, Result, Ok, None, refl}
use Rattle.std.specs.Fmt.{digits}
use Rattle.json.proofs.OnLiterals.{json_on_literals}
use Rattle.json.specs.Json.{document}
use Rattle.list_packets.specs.Assumed.{assumed_state_table}
use Rattle.list_chains.specs.declared.chain.Target.{Target}
use Rattle.list_chains.specs.declared.chain.Target.TheVariants.{Decide, Return, Jump}
use Rattle.list_chains.specs.declared.span.Span.{Span}
use Rattle.list_chains.specs.Chains.{ListRule}
use Rattle.field_defs.specs.declared.field.Family.TheVariants as family
use Rattle.nft_reader.specs.declared.known.Answers.TheVariants as answers
use Rattle.nft_reader.specs.declared.fault.ObjectFault.{ObjectFault}
use Rattle.nft_reader.specs.declared.fault.RuleFault.{RuleFault}
use Rattle.nft_reader.specs.declared.fault.RuleKind.TheVariants as kind
use Rattle.nft_reader.specs.Chains.{Names}
use Rattle.nft_reader.specs.Keys.{parts_boxes}
use Rattle.nft_reader.specs.Known.{nowhere}
use Rattle.nft_reader.specs.Ruleset.{chains_of_document}
use Rattle.nft_reader.specs.ShownChains.{ShownChain, shown}
use Rattle.nft_reader.specs.Stops.{folded}

-- the numbers from one to another
infixl 20 ◌to◌
abbrev ◌to◌ : ℕ → ℕ → Span
low to high = record { low = low; high = high }

-- the packets of some protocols, from some addresses, to some ports
abbrev packets : Span → Span → Span → List Span
packets protocol source port =
    protocol ∷ source ∷ (0 to 4294967295) ∷ (0 to 65535) ∷ port ∷ []

-- packets of TCP to a port
abbrev to_port : ℕ → List Span
to_port port = packets (6 to 6) (0 to 4294967295) (port to port)

-- a rule of handle 7, which leaves some packets out
abbrev rule : Target → List Span → List (List Span) → ListRule (List Span)
rule target box but = record { userdata = 7; inside = box; but = but; target = target }

-- a rule that no rule file says
abbrev unsaid : ListRule (List Span)
unsaid = rule nowhere (packets (0 to 255) (0 to 4294967295) (0 to 65535)) []

-- a chain of the table
abbrev named : List ℕ → Names
named name = record { family = codes "ip"; table = codes "f"; name = name }

-- the chains web, and in with some rules
abbrev with_rules : List (ListRule (List Span)) → List RuleFault →
    Result (List ShownChain) ObjectFault
with_rules rules faults =
    Ok (record { owner = named (codes "web"); policy = None; rules = []; faults = [] }
    ∷ record { owner = named (codes "in"); policy = None; rules = rules; faults = faults } ∷ [])

-- a ruleset of an object, two chains, and a rule of these statements, under what is assumed
abbrev said_under : List ℕ → List ℕ → List ℕ → Result (List ShownChain) ObjectFault
said_under assumed objects statements =
    shown (chains_of_document [] (record {
      asked = record { family = family.Ip4; answers = answers.Handle };
      assumed = assumed;
      begin = None;
      ported = false;
    })
    (document (codes "{\"nftables\": [" ++ objects
    ++ codes "{\"chain\": {\"family\": \"ip\", \"table\": \"f\", \"name\": \"web\", "
    ++ codes "\"handle\": 1}}, {\"chain\": {\"family\": \"ip\", \"table\": \"f\", \"name\": "
    ++ codes "\"in\", \"handle\": 2}}, {\"rule\": {\"family\": \"ip\", \"table\": \"f\", "
    ++ codes "\"chain\": \"in\", \"handle\": 7, \"expr\": [" ++ statements
    ++ codes "]}}]}")))

-- the same if nothing is assumed
abbrev said : List ℕ → List ℕ → Result (List ShownChain) ObjectFault
said objects statements = said_under [] objects statements

-- a map of ports of TCP
abbrev port_map : List ℕ → List ℕ
port_map elements =
    codes "{\"vmap\": {\"key\": {\"payload\": {\"protocol\": \"tcp\", \"field\": \"dport\"}}, "
    ++ codes "\"data\": " ++ elements ++ codes "}}"

-- packets of a protocol to port 53 have one verdict, and those to other ports another
abbrev of_port : Span → ListRule (List Span)
of_port protocol = rule Decide (packets protocol (0 to 4294967295) (53 to 53)) []

abbrev of_others : Span → ListRule (List Span)
of_others protocol =
    rule Decide (packets protocol (0 to 4294967295) (0 to 65535))
    (packets (0 to 255) (0 to 4294967295) (53 to 53) ∷ [])

-- tcp dport vmap { 22 : jump web, 23 : continue, * : drop }: packets to port 22 come back to the
-- next rule, so that the last element doesn't have them
an_element_for_all_others :
    said [] (port_map (codes "{\"set\": [[22, {\"jump\": {\"target\": \"web\"}}], "
    ++ codes "[23, {\"continue\": null}], [\"*\", {\"drop\": null}]]}"))
    ≡ with_rules (rule (Jump 0) (to_port 22) []
    ∷ rule Decide (packets (6 to 6) (0 to 4294967295) (0 to 65535)) (to_port 22 ∷ to_port 23 ∷ [])
    ∷ []) []
unfolding json_on_literals folded parts_boxes digits
an_element_for_all_others = refl

-- meta l4proto { udp, sctp } th dport vmap { 53 : accept, * : drop }
a_map_of_ports :
    said [] (codes "{\"match\": {\"op\": \"==\", \"left\": {\"meta\": {\"key\": \"l4proto\"}}, "
    ++ codes "\"right\": {\"set\": [\"udp\", \"sctp\"]}}}, {\"vmap\": {\"key\": {\"payload\": "
    ++ codes "{\"protocol\": \"th\", \"field\": \"dport\"}}, \"data\": {\"set\": [[53, "
    ++ codes "{\"accept\": null}], [\"*\", {\"drop\": null}]]}}}")
    ≡ with_rules (of_port (17 to 17) ∷ of_port (132 to 132)
    ∷ of_others (17 to 17) ∷ of_others (132 to 132) ∷ []) []
unfolding json_on_literals folded parts_boxes digits
a_map_of_ports = refl

-- tcp dport vmap @verdicts
a_map_by_its_name :
    said (codes "{\"map\": {\"family\": \"ip\", \"name\": \"verdicts\", \"table\": \"f\", "
    ++ codes "\"type\": "
    ++ codes "\"inet_service\", \"handle\": 3, \"map\": \"verdict\", \"elem\": [[22, {\"accept\": "
    ++ codes "null}], [{\"elem\": {\"val\": 23, \"comment\": \"x\"}}, {\"return\": null}]]}}, ")
    (port_map (codes "\"@verdicts\""))
    ≡ with_rules (rule Decide (to_port 22) [] ∷ rule Return (to_port 23) [] ∷ []) []
unfolding json_on_literals folded parts_boxes digits
a_map_by_its_name = refl

-- ip saddr . tcp dport vmap { 10.0.0.1 . 22 : accept }
several_together :
    said [] (codes "{\"vmap\": {\"key\": {\"concat\": [{\"payload\": {\"protocol\": \"ip\", "
    ++ codes "\"field\": "
    ++ codes "\"saddr\"}}, {\"payload\": {\"protocol\": \"tcp\", \"field\": \"dport\"}}]}, "
    ++ codes "\"data\": {\"set\": [[{\"concat\": [\"10.0.0.1\", 22]}, {\"accept\": null}]]}}}")
    ≡ with_rules (rule Decide (packets (6 to 6) (167772161 to 167772161) (22 to 22)) [] ∷ []) []
unfolding json_on_literals folded parts_boxes digits
several_together = refl

-- a port of two elements: which verdict it has isn't said
elements_that_overlap :
    said [] (port_map (codes "{\"set\": [[{\"range\": [20, 30]}, {\"accept\": null}], "
    ++ codes "[25, {\"drop\": null}]]}"))
    ≡ with_rules (unsaid ∷ []) (record { handle = 7; kind = kind.CantSay } ∷ [])
unfolding json_on_literals folded parts_boxes digits
elements_that_overlap = refl

-- ct state vmap { established : accept, invalid : drop }
a_map_of_states :
    said_under (codes "state=established") [] (codes "{\"vmap\": {\"key\": {\"ct\": {\"key\": "
    ++ codes "\"state\"}}, \"data\": {\"set\": [[\"established\", {\"accept\": null}], "
    ++ codes "[\"invalid\", {\"drop\": null}]]}}}")
    ≡ with_rules (rule Decide (packets (0 to 255) (0 to 4294967295) (0 to 65535)) [] ∷ []) []
unfolding json_on_literals folded parts_boxes digits assumed_state_table
a_map_of_states = refl

-- nothing may stand after a map
a_verdict_after_a_map :
    said [] (port_map (codes "{\"set\": [[22, {\"continue\": null}]]}") ++ codes ", {\"drop\": "
    ++ codes "null}")
    ≡ with_rules (unsaid ∷ []) (record { handle = 7; kind = kind.AfterVerdict } ∷ [])
unfolding json_on_literals folded parts_boxes digits
a_verdict_after_a_map = refl
