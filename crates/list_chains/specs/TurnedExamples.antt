-- Examples of chains, each checked by evaluation: a list of iptables-save read by hand, over the
-- layout of IPv4 packets.
--
--     1 -A FORWARD -s 198.51.100.0/24 -j DROP
--     2 -A FORWARD -p tcp --dport 80 -j WEB
--     3 -A FORWARD -d 203.0.113.0/25 -p tcp -g LAN
--     4 -A FORWARD ! -s 10.0.0.0/8 ! -d 192.0.2.0/24 -p tcp -j ACCEPT
--     5 -A WEB -s 10.9.0.0/16 -j RETURN
--     6 -A WEB -s 10.0.0.0/8 -j ACCEPT
--     7 -A LAN -p tcp --dport 443 -j ACCEPT
--     8 -P FORWARD DROP
use Rattle.std.specs.Prelude.{◌≡◌, ℕ, ◌++◌, Bool, true, false, List, [], ◌∷◌, length, Ok, Err, None}
use Rattle.std.specs.Prelude.{refl}
use Rattle.field_defs.specs.Layout.{ip4_fields}
use Rattle.list_chains.specs.declared.chain.Target.{Target}
use Rattle.list_chains.specs.declared.chain.Target.TheVariants.{Decide, Return, Jump, Go}
use Rattle.list_chains.specs.declared.fault.LimitFault.TheVariants.{TooManyRules, TooManySteps, TooDeep}
use Rattle.list_chains.specs.declared.fault.ChainsFault.TheVariants.{NoChain, Loop, Limit}
use Rattle.list_chains.specs.declared.span.Span.{Span}
use Rattle.list_chains.specs.Spans.{box_meet, in_box, whole_box}
use Rattle.list_chains.specs.Chains.{ListRule, decides}
use Rattle.list_chains.specs.Flat.{flattened}
use Rattle.list_chains.specs.Jumps.{shallow}
use Rattle.list_chains.specs.Loops.{IsOnLoop}
use Rattle.list_chains.specs.Tasks.{Chains}
use Rattle.list_chains.specs.Made.{made, first_tasks}
use Rattle.list_chains.specs.Ranked.{rule_of}
use Rattle.list_chains.specs.Turned.{max_depth, turned, turned_within}

-- the numbers from one to another
infixl 20 ◌to◌
abbrev ◌to◌ : ℕ → ℕ → Span
low to high = record { low = low; high = high }

-- all addresses, all ports, and the protocol TCP
abbrev any : Span
any = 0 to 4294967295

abbrev ports : Span
ports = 0 to 65535

abbrev tcp : Span
tcp = 6 to 6

-- a rule without a box that is left out
abbrev rule : ℕ → List Span → Target → ListRule (List Span)
rule userdata box target =
    record { userdata = userdata; inside = box; but = []; target = target }

-- the chains FORWARD, WEB and LAN
firewall : Chains
firewall =
    (rule 1 ((0 to 255) ∷ (3325256704 to 3325256959) ∷ any ∷ ports ∷ ports ∷ []) Decide
    ∷ rule 2 (tcp ∷ any ∷ any ∷ ports ∷ (80 to 80) ∷ []) (Jump 1)
    ∷ rule 3 (tcp ∷ any ∷ (3405803776 to 3405803903) ∷ ports ∷ ports ∷ []) (Go 2)
    ∷ record {
      userdata = 4;
      inside = tcp ∷ any ∷ any ∷ ports ∷ ports ∷ [];
      but = (tcp ∷ (167772160 to 184549375) ∷ any ∷ ports ∷ ports ∷ [])
          ∷ (tcp ∷ any ∷ (3221225984 to 3221226239) ∷ ports ∷ ports ∷ []) ∷ [];
      target = Decide;
    }
    ∷ [])
    ∷ (rule 5 ((0 to 255) ∷ (168361984 to 168427519) ∷ any ∷ ports ∷ ports ∷ []) Return
    ∷ rule 6 ((0 to 255) ∷ (167772160 to 184549375) ∷ any ∷ ports ∷ ports ∷ []) Decide
    ∷ [])
    ∷ (rule 7 (tcp ∷ any ∷ any ∷ ports ∷ (443 to 443) ∷ []) Decide ∷ [])
    ∷ []

-- the answer for a packet of TCP, by its addresses and its destination port
abbrev answer : List ℕ → List ℕ → ℕ
answer addresses port =
    decides (λ box. in_box ip4_fields box (6 ∷ addresses ++ 0 ∷ 9 ∷ port)) 3 firewall 0 8

-- a source that the first rule drops
dropped : answer (198 ∷ 51 ∷ 100 ∷ 7 ∷ 10 ∷ 0 ∷ 0 ∷ 1 ∷ []) (0 ∷ 80 ∷ []) ≡ 1
unfolding firewall
dropped = refl

-- WEB accepts 10.0.0.0/8, but returns from 10.9.0.0/16, where the policy is left
accepted : answer (10 ∷ 8 ∷ 0 ∷ 1 ∷ 192 ∷ 0 ∷ 2 ∷ 7 ∷ []) (0 ∷ 80 ∷ []) ≡ 6
unfolding firewall
accepted = refl

returned : answer (10 ∷ 9 ∷ 0 ∷ 1 ∷ 192 ∷ 0 ∷ 2 ∷ 7 ∷ []) (0 ∷ 80 ∷ []) ≡ 8
unfolding firewall
returned = refl

-- what falls off WEB goes on, and what falls off LAN doesn't
fallen_off : answer (8 ∷ 8 ∷ 8 ∷ 8 ∷ 1 ∷ 2 ∷ 3 ∷ 4 ∷ []) (0 ∷ 80 ∷ []) ≡ 4
unfolding firewall
fallen_off = refl

gone : answer (8 ∷ 8 ∷ 8 ∷ 8 ∷ 203 ∷ 0 ∷ 113 ∷ 5 ∷ []) (0 ∷ 25 ∷ []) ≡ 8
unfolding firewall
gone = refl

gone_and_accepted : answer (8 ∷ 8 ∷ 8 ∷ 8 ∷ 203 ∷ 0 ∷ 113 ∷ 5 ∷ []) (1 ∷ 187 ∷ []) ≡ 7
unfolding firewall
gone_and_accepted = refl

-- each of two negations leaves out its own
left_out : answer (10 ∷ 1 ∷ 2 ∷ 3 ∷ 1 ∷ 2 ∷ 3 ∷ 4 ∷ []) (0 ∷ 25 ∷ []) ≡ 8
unfolding firewall
left_out = refl

left_out_too : answer (8 ∷ 8 ∷ 8 ∷ 8 ∷ 192 ∷ 0 ∷ 2 ∷ 7 ∷ []) (0 ∷ 25 ∷ []) ≡ 8
unfolding firewall
left_out_too = refl

-- the flat list of these chains: one entry for rule 1, six for 2, two for 3, three for 4, and the
-- policy
flat_len : length (flattened box_meet 3 firewall 0 8 (whole_box ip4_fields)) ≡ 13
unfolding firewall
flat_len = refl

-- chains over no fields: their boxes hold every key
abbrev plain : ℕ → Target → ListRule (List Span)
plain userdata target = rule userdata [] target

-- a chain that surely decides cuts what follows the jump there
abbrev cut_short : Chains
cut_short = (plain 1 (Jump 1) ∷ plain 2 Decide ∷ []) ∷ (plain 3 Decide ∷ []) ∷ []

cut : length (flattened box_meet 2 cut_short 0 9 []) ≡ 3
cut = refl

-- jumps in a circle, to itself, and to a chain that isn't there
abbrev circling : Chains
circling = (plain 1 Decide ∷ plain 2 (Jump 1) ∷ []) ∷ (plain 3 (Go 0) ∷ []) ∷ []

circle : turned [] circling 0 9 ≡ Err (Loop (record { chain = 0; rule = 1 }))
circle = refl

-- the second rule leads to the other chain, and the rule there back
round : IsOnLoop circling (record { chain = 0; rule = 1 })
round = record { others = record { chain = 1; rule = 0 } ∷ []; round = (refl, (refl, refl)) }

itself : turned [] ((plain 1 (Jump 0) ∷ []) ∷ []) 0 9 ≡ Err (Loop (record { chain = 0; rule = 0 }))
itself = refl

nowhere : turned [] ((plain 1 (Jump 1) ∷ []) ∷ (plain 2 Return ∷ plain 3 (Jump 5) ∷ []) ∷ []) 0 9
    ≡ Err (NoChain (record { chain = 1; rule = 1 }))
nowhere = refl

-- jumps that lead through two chains are followed where two are the limit, and not where one is
abbrev shallow_by : ℕ → List Bool
shallow_by depth = shallow depth cut_short

two_chains : shallow_by 2 ≡ true ∷ true ∷ []
two_chains = refl

one_chain : shallow_by 1 ≡ false ∷ true ∷ []
one_chain = refl

too_deep : turned_within 1 [] cut_short 0 9 ≡ Err (Limit TooDeep)
too_deep = refl

depth : max_depth ≡ 1024
depth = refl

-- seven steps end with one rule, as what follows the jump is decided; fewer don't, nor has a list
-- of no rules room
enough : made [] cut_short 9 7 5 None (first_tasks 2 0 []) ≡ Ok (rule_of 5 3 [] ∷ [])
unfolding made
enough = refl

steps : made [] cut_short 9 6 5 None (first_tasks 2 0 []) ≡ Err TooManySteps
unfolding made
steps = refl

room : made [] cut_short 9 7 0 None (first_tasks 2 0 []) ≡ Err TooManyRules
unfolding made
room = refl
