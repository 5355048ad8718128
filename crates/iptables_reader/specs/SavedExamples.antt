-- Examples of lists with several tables, each checked by evaluation: what other tables drop of the
-- packets of a chain.
use Rattle.std.specs.Prelude.{◌≡◌, ℕ, ◌++◌, true, false, List, [], ◌∷◌, codes, Result, Ok, Err, refl}
use Rattle.std.specs.Prelude.{Some, None}
use Rattle.std.specs.Fmt.{digits}
use Rattle.field_defs.specs.declared.field.Family.TheVariants.{Ip4}
use Rattle.list_packets.specs.Assumed.{assumed_state_table}
use Rattle.iptables_reader.specs.declared.fault.LineFault.{LineFault}
use Rattle.iptables_reader.specs.declared.fault.LineKind.TheVariants as kind
use Rattle.iptables_reader.specs.declared.answers.Answers.TheVariants as answers
use Rattle.iptables_reader.specs.declared.answers.Asked.{Asked}
use Rattle.iptables_reader.specs.Chains.{ListedChain}
use Rattle.iptables_reader.specs.SavedTables.{has_other_tables}
use Rattle.iptables_reader.specs.Table.{chains_of, with_lines}
use Rattle.iptables_reader.specs.Tables.{answer_table, match_table, protocol_table, state_table, target_table}

abbrev by_line : Asked
by_line = record { family = Ip4; answers = answers.Line }

-- the first lines of the table filter
abbrev declarations : List ℕ
declarations = codes "*filter\n:FORWARD DROP [0:0]\n:web - [0:0]\n"

-- the chain that packets come to
abbrev forward_chain : List ℕ
forward_chain = codes "FORWARD"

-- both chains without rules, where FORWARD is declared in a line
abbrev with_policy : ℕ → Result (List ListedChain) LineFault
with_policy line =
    Ok (record { name = codes "FORWARD"; policy = Some line; rules = []; unsaid = None }
    ∷ record { name = codes "web"; policy = None; rules = []; unsaid = None } ∷ [])

-- what packets of a chain are told of a list with another table, whose chains are declared in lines
-- 2 to 4, and which has a rule in line 5
abbrev table_and : List ℕ → List ℕ → List ℕ
table_and name line =
    codes "*" ++ name
    ++ codes "\n:PREROUTING ACCEPT [0:0]\n:OUTPUT ACCEPT [0:0]\n:led - [0:0]\n" ++ line
    ++ codes "\nCOMMIT\n"

abbrev beside : List ℕ → List ℕ → List ℕ → Result (List ListedChain) LineFault
beside chain name line =
    chains_of by_line [] chain (table_and name line ++ declarations ++ codes "COMMIT\n")

-- a drop before routing is that of packets of FORWARD, and not of those of OUTPUT
before_routing : beside forward_chain (codes "raw")
    (codes "-A PREROUTING -d 172.17.0.2/32 ! -i docker0 -j DROP")
    ≡ Err (record { line = 5; kind = kind.MayDrop })
unfolding with_lines digits match_table target_table protocol_table state_table
    assumed_state_table answer_table
before_routing = refl

of_other_packets : beside (codes "OUTPUT") (codes "raw")
    (codes "-A PREROUTING -d 172.17.0.2/32 ! -i docker0 -j DROP")
    ≡ beside (codes "OUTPUT") (codes "raw") []
unfolding with_lines digits match_table target_table protocol_table state_table
    assumed_state_table answer_table
of_other_packets = refl

-- packets may come to a chain that only rules lead to
led_to : beside (codes "OUTPUT") (codes "nat") (codes "-A led -p udp -j DROP")
    ≡ Err (record { line = 5; kind = kind.MayDrop })
unfolding with_lines digits match_table target_table protocol_table state_table
    assumed_state_table answer_table
led_to = refl

-- addresses are changed, and nothing is dropped
changed : beside forward_chain (codes "nat")
    (codes "-A led -p tcp -j DNAT --to-destination 10.0.0.9:80 --random")
    ≡ with_policy 8
unfolding with_lines digits match_table target_table protocol_table state_table
    assumed_state_table answer_table
changed = refl

-- targets that aren't known may drop
queued : beside forward_chain (codes "mangle") (codes "-A PREROUTING -j NFQUEUE --queue-num 1")
    ≡ Err (record { line = 5; kind = kind.BadTarget })
unfolding with_lines digits match_table target_table protocol_table state_table
    assumed_state_table answer_table
queued = refl

-- a policy that drops
dropping_policy : chains_of by_line [] forward_chain (codes "*mangle\n:POSTROUTING DROP [0:0]\n")
    ≡ Err (record { line = 2; kind = kind.MayDrop })
unfolding with_lines digits match_table target_table protocol_table state_table
    assumed_state_table answer_table
dropping_policy = refl

other_policy : chains_of by_line [] forward_chain
    (codes "*mangle\n:INPUT DROP [0:0]\nCOMMIT\n" ++ declarations ++ codes "COMMIT\n")
    ≡ with_policy 5
unfolding with_lines digits match_table target_table protocol_table state_table
    assumed_state_table answer_table
other_policy = refl

no_chain_of_raw : chains_of by_line [] forward_chain (codes "*raw\n:FORWARD ACCEPT [0:0]\n")
    ≡ Err (record { line = 2; kind = kind.BadPolicy })
unfolding with_lines digits match_table target_table protocol_table state_table
    assumed_state_table answer_table
no_chain_of_raw = refl

other_tables : has_other_tables (declarations ++ codes "COMMIT\n*raw\n") ≡ true
other_tables = refl

filter_alone : has_other_tables (declarations ++ codes "COMMIT\n") ≡ false
filter_alone = refl

-- ---- tables that a save doesn't show

-- what packets of FORWARD are told of a list that begins with a comment
abbrev after_comment : List ℕ → Result (List ListedChain) LineFault
after_comment comment =
    chains_of by_line [] forward_chain (comment ++ codes "\n" ++ declarations ++ codes "COMMIT\n")

-- such a comment in line 1
abbrev hidden : Result (List ListedChain) LineFault
hidden = Err (record { line = 1; kind = kind.MayDrop })

-- rules of nft
rules_of_nft : after_comment (codes "# Table `raw' is incompatible, use 'nft' tool.") ≡ hidden
unfolding with_lines digits match_table target_table protocol_table state_table
    assumed_state_table answer_table
rules_of_nft = refl

-- base chains of nft, in `filter` too
chains_of_nft : after_comment
    (codes "# Table `filter' contains incompatible base-chains, use 'nft' tool to list them.")
    ≡ hidden
unfolding with_lines digits match_table target_table protocol_table state_table
    assumed_state_table answer_table
chains_of_nft = refl

-- legacy iptables, by a line of its own
legacy_tables : after_comment
    (codes "# Warning: iptables-legacy tables present, use iptables-legacy-save to see them")
    ≡ hidden
unfolding with_lines digits match_table target_table protocol_table state_table
    assumed_state_table answer_table
legacy_tables = refl

-- and at the end of another one
legacy_tables_of_ip6 : after_comment (codes "# Completed on Wed Dec  2 08:35:38 2026"
    ++ codes "# Warning: ip6tables-legacy tables present, use ip6tables-legacy-save to see them")
    ≡ hidden
unfolding with_lines digits match_table target_table protocol_table state_table
    assumed_state_table answer_table
legacy_tables_of_ip6 = refl

-- wherever it stands
after_the_list : chains_of by_line [] forward_chain (declarations ++ codes "COMMIT\n"
    ++ codes "# Table `nat' is incompatible, use 'nft' tool.\n")
    ≡ Err (record { line = 5; kind = kind.MayDrop })
unfolding with_lines digits match_table target_table protocol_table state_table
    assumed_state_table answer_table
after_the_list = refl

-- other comments say nothing
made_by_nft : after_comment
    (codes "# Generated by iptables-nft-save v1.8.9 (nf_tables) on Wed Dec  2 08:35:38 2026")
    ≡ with_policy 3
unfolding with_lines digits match_table target_table protocol_table state_table
    assumed_state_table answer_table
made_by_nft = refl

completed : after_comment (codes "# Completed on Wed Dec  2 08:35:38 2026") ≡ with_policy 3
unfolding with_lines digits match_table target_table protocol_table state_table
    assumed_state_table answer_table
completed = refl

a_table_of_hosts : after_comment (codes "# Table 'filter' of the gateway, without legacy tables")
    ≡ with_policy 3
unfolding with_lines digits match_table target_table protocol_table state_table
    assumed_state_table answer_table
a_table_of_hosts = refl

-- nor does the comment of a rule
comment_of_a_rule : chains_of by_line [] forward_chain (declarations
    ++ codes "-A web -m comment --comment \"# iptables-legacy tables present\"\nCOMMIT\n")
    ≡ with_policy 2
unfolding with_lines digits match_table target_table protocol_table state_table
    assumed_state_table answer_table
comment_of_a_rule = refl

-- ---- interfaces that packets lack

no_way_in : chains_of by_line (codes "state=new,in=eth0") (codes "OUTPUT") declarations
    ≡ Err (record { line = 0; kind = kind.LacksInterface })
unfolding with_lines digits match_table target_table protocol_table state_table
    assumed_state_table answer_table
no_way_in = refl

no_way_out : chains_of by_line (codes "out=eth0") (codes "INPUT") declarations
    ≡ Err (record { line = 0; kind = kind.LacksInterface })
unfolding with_lines digits match_table target_table protocol_table state_table
    assumed_state_table answer_table
no_way_out = refl
