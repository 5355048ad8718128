-- Examples of the text of a rule file, each checked by evaluation: the rules are given by hand.
use Rattle.std.specs.Prelude.{◌≡◌, ℕ, List, [], ◌∷◌, ◌++◌, codes, Ok, Err, refl}
use Rattle.std.specs.Fmt.{digits}
use Rattle.field_defs.specs.declared.field.FieldValue.{FieldValue}
use Rattle.field_defs.specs.declared.field.FieldValue.TheVariants.{Mask, Range, Bitmask}
use Rattle.rule_set.specs.Rule.{RuleView}
use Rattle.list_chains.specs.Ranked.{rule_of}
use Rattle.list_tool.specs.declared.status.ListKind.TheVariants.{NoPrefix}
use Rattle.list_tool.specs.declared.words.Form.TheVariants.{Iptables, Ip6tables, Nft}
use Rattle.list_tool.specs.Listing.{at_line}
use Rattle.list_tool.specs.Printed.{text_of_rules}

-- a list of six lines, of which the second is a policy and the fourth has two sources
list : List ℕ
list =
    codes "*filter\n:INPUT DROP [0:0]\n"
    ++ codes "-A INPUT -p udp -m udp --dport 53 -j ACCEPT\n"
    ++ codes "-A INPUT -m iprange --src-range 10.0.0.1-10.0.0.2 -j REJECT\nCOMMIT\n"

-- a rule of IPv4: its source with so many bits, its protocol, and its destination ports
abbrev of_ip4 : ℕ → ℕ → ℕ → ℕ → FieldValue → FieldValue → RuleView
of_ip4 priority userdata source bits protocol ports =
    rule_of priority userdata
    (protocol ∷ Mask source bits ∷ Mask 0 0 ∷ Range 0 65535 ∷ ports ∷ [])

-- the rules by line: those of the fourth line stand together
abbrev by_line : List RuleView
by_line =
    of_ip4 4 3 0 0 (Bitmask 17 255) (Range 53 53)
    ∷ of_ip4 3 4 0x0A000001 32 (Bitmask 0 0) (Range 0 65535)
    ∷ of_ip4 2 4 0x0A000002 32 (Bitmask 0 0) (Range 0 65535)
    ∷ of_ip4 1 2 0 0 (Bitmask 0 0) (Range 0 65535)
    ∷ []

-- and by verdict
abbrev by_verdict : List RuleView
by_verdict =
    of_ip4 4 1 0 0 (Bitmask 17 255) (Range 53 53)
    ∷ of_ip4 3 3 0x0A000001 32 (Bitmask 0 0) (Range 0 65535)
    ∷ of_ip4 2 3 0x0A000002 32 (Bitmask 0 0) (Range 0 65535)
    ∷ of_ip4 1 2 0 0 (Bitmask 0 0) (Range 0 65535)
    ∷ []

-- a line's text stands above the first of its rules
with_lines : text_of_rules [] Iptables list by_line by_line
    ≡ Ok (codes "# -A INPUT -p udp -m udp --dport 53 -j ACCEPT\n"
    ++ codes "@0.0.0.0/0\t0.0.0.0/0\t0 : 65535\t53 : 53\t0x11/0xFF\tpri=4 cat=65535 data=3\n"
    ++ codes "# -A INPUT -m iprange --src-range 10.0.0.1-10.0.0.2 -j REJECT\n"
    ++ codes "@10.0.0.1/32\t0.0.0.0/0\t0 : 65535\t0 : 65535\t0x00/0x00\tpri=3 cat=65535 data=4\n"
    ++ codes "@10.0.0.2/32\t0.0.0.0/0\t0 : 65535\t0 : 65535\t0x00/0x00\tpri=2 cat=65535 data=4\n"
    ++ codes "# :INPUT DROP [0:0]\n"
    ++ codes "@0.0.0.0/0\t0.0.0.0/0\t0 : 65535\t0 : 65535\t0x00/0x00\tpri=1 cat=65535 data=2\n")
unfolding list digits
with_lines = refl

-- so it does where the userdata is a verdict
with_verdicts : text_of_rules [] Iptables list by_line by_verdict
    ≡ Ok (codes "# -A INPUT -p udp -m udp --dport 53 -j ACCEPT\n"
    ++ codes "@0.0.0.0/0\t0.0.0.0/0\t0 : 65535\t53 : 53\t0x11/0xFF\tpri=4 cat=65535 data=1\n"
    ++ codes "# -A INPUT -m iprange --src-range 10.0.0.1-10.0.0.2 -j REJECT\n"
    ++ codes "@10.0.0.1/32\t0.0.0.0/0\t0 : 65535\t0 : 65535\t0x00/0x00\tpri=3 cat=65535 data=3\n"
    ++ codes "@10.0.0.2/32\t0.0.0.0/0\t0 : 65535\t0 : 65535\t0x00/0x00\tpri=2 cat=65535 data=3\n"
    ++ codes "# :INPUT DROP [0:0]\n"
    ++ codes "@0.0.0.0/0\t0.0.0.0/0\t0 : 65535\t0 : 65535\t0x00/0x00\tpri=1 cat=65535 data=2\n")
unfolding list digits
with_verdicts = refl

-- the rule for what no line decides says so
at_the_end :
    (let rules = of_ip4 2 3 0 0 (Bitmask 17 255) (Range 53 53)
    ∷ of_ip4 1 0 0 0 (Bitmask 0 0) (Range 0 65535) ∷ [] in
    text_of_rules [] Iptables list rules rules)
    ≡ Ok (codes "# -A INPUT -p udp -m udp --dport 53 -j ACCEPT\n"
    ++ codes "@0.0.0.0/0\t0.0.0.0/0\t0 : 65535\t53 : 53\t0x11/0xFF\tpri=2 cat=65535 data=3\n"
    ++ codes "# what no line decides\n"
    ++ codes "@0.0.0.0/0\t0.0.0.0/0\t0 : 65535\t0 : 65535\t0x00/0x00\tpri=1 cat=65535 data=0\n")
unfolding list digits
at_the_end = refl

-- of a ruleset the handles stand above the rules
with_handles : text_of_rules [] Nft (codes "{}") by_line by_verdict
    ≡ Ok (codes "# handle 3\n"
    ++ codes "@0.0.0.0/0\t0.0.0.0/0\t0 : 65535\t53 : 53\t0x11/0xFF\tpri=4 cat=65535 data=1\n"
    ++ codes "# handle 4\n"
    ++ codes "@10.0.0.1/32\t0.0.0.0/0\t0 : 65535\t0 : 65535\t0x00/0x00\tpri=3 cat=65535 data=3\n"
    ++ codes "@10.0.0.2/32\t0.0.0.0/0\t0 : 65535\t0 : 65535\t0x00/0x00\tpri=2 cat=65535 data=3\n"
    ++ codes "# handle 2\n"
    ++ codes "@0.0.0.0/0\t0.0.0.0/0\t0 : 65535\t0 : 65535\t0x00/0x00\tpri=1 cat=65535 data=2\n")
unfolding digits
with_handles = refl

-- no rules, no text
of_nothing : text_of_rules [] Iptables list [] [] ≡ Ok []
unfolding list
of_nothing = refl

-- what is presupposed stands above the rules, and no byte of it ends its line
with_premises :
    (let rules = of_ip4 1 2 0 0 (Bitmask 0 0) (Range 0 65535) ∷ [] in
    text_of_rules (codes "IPv4 packets" ∷ codes "a\nb" ∷ []) Iptables list rules rules)
    ≡ Ok (codes "# IPv4 packets\n# a?b\n# :INPUT DROP [0:0]\n"
    ++ codes "@0.0.0.0/0\t0.0.0.0/0\t0 : 65535\t0 : 65535\t0x00/0x00\tpri=1 cat=65535 data=2\n")
unfolding list digits
with_premises = refl

-- a rule of IPv6 for a source of so many bits of both halves
abbrev of_ip6 : ℕ → ℕ → RuleView
of_ip6 high_bits low_bits =
    rule_of 1 3 (Bitmask 6 255 ∷ Mask 0x20010DB800000000 high_bits ∷ Mask 0 low_bits
    ∷ Mask 0 0 ∷ Mask 0 0 ∷ Range 0 65535 ∷ Range 22 22 ∷ [])

-- a prefix that ends in the high half
of_network : text_of_rules [] Ip6tables list (of_ip6 32 0 ∷ []) (of_ip6 32 0 ∷ [])
    ≡ Ok (codes "# -A INPUT -p udp -m udp --dport 53 -j ACCEPT\n"
    ++ codes "@2001:db8:0:0:0:0:0:0/32\t0:0:0:0:0:0:0:0/0\t0 : 65535\t22 : 22\t"
    ++ codes "0x06/0xFF\tpri=1 cat=65535 data=3\n")
unfolding list digits
of_network = refl

-- no prefix leaves out bits of the high half and goes on in the low one: the fault has its line
of_gap : text_of_rules [] Ip6tables list (of_ip6 32 1 ∷ []) (of_ip6 32 1 ∷ [])
    ≡ Err (at_line 3 NoPrefix)
unfolding list
of_gap = refl
