-- Examples of runs that are refused, each checked by evaluation, and the lines that tell it.
use Rattle.std.specs.Prelude.{◌≡◌, ℕ, List, [], ◌∷◌, ◌++◌, codes, refl}
use Rattle.std.specs.Fmt.{digits}
use Rattle.command_words.specs.declared.usage_fault.UsageKind.TheVariants.{UnknownCommand}
use Rattle.iptables_reader.specs.declared.fault.LineKind.TheVariants as kind
use Rattle.iptables_reader.specs.declared.answers.Answers.{Answers}
use Rattle.iptables_reader.specs.declared.answers.Answers.TheVariants as answers
use Rattle.iptables_reader.specs.Table.{with_lines}
use Rattle.iptables_reader.specs.Tables.{match_table, protocol_table, target_table}
use Rattle.list_chains.specs.declared.chain.Target.TheVariants as target
use Rattle.list_chains.specs.declared.fault.ChainsFault.TheVariants as fault
use Rattle.list_chains.specs.declared.span.Span.{Span}
use Rattle.list_chains.specs.Chains.{ListRule}
use Rattle.nft_reader.specs.declared.fault.ObjectKind.TheVariants as object
use Rattle.nft_reader.specs.declared.fault.RuleKind.TheVariants as rule
use Rattle.cisco_reader.specs.declared.fault.LineKind.TheVariants as entry
use Rattle.cisco_reader.specs.Entry.{log_words}
use Rattle.cisco_reader.specs.Lists as cisco
use Rattle.cisco_reader.specs.Names.{compared_words, is_among, number_named}
use Rattle.cisco_reader.specs.Names as names
use Rattle.list_tool.specs.declared.status.ListStatus.{ListStatus}
use Rattle.list_tool.specs.declared.status.ListStatus.TheVariants.{Usage, Refused, ReadFault}
use Rattle.list_tool.specs.declared.status.ListKind.TheVariants.{Line, CiscoLine, NoChain, NoPolicy, Loop}
use Rattle.list_tool.specs.declared.status.ListKind.TheVariants.{NoTarget, Object, Rule}
use Rattle.list_tool.specs.declared.status.ListPlace.TheVariants as placed
use Rattle.list_tool.specs.declared.words.Form.{Form}
use Rattle.list_tool.specs.declared.words.Form.TheVariants.{Iptables, Cisco, Nft}
use Rattle.list_tool.specs.Listing.{WayView, at_line, at_object, at_place, unturned}
use Rattle.list_tool.specs.Message.{message}
use Rattle.list_tool.specs.RunsLists.{ListOutcome, outcome}
use Rattle.list_tool.specs.Words.{Request, fault_at}

-- a list whose chain INPUT leads to its chain web
list : List ℕ
list =
    codes "*filter\n:INPUT DROP [0:0]\n:web - [0:0]\n"
    ++ codes "-A INPUT -s 10.0.0.0/8 -p tcp -j web\n"
    ++ codes "-A INPUT -p udp -m udp --dport 53 -j ACCEPT\n"
    ++ codes "-A web -p tcp -m tcp --dport 80 -j REJECT\nCOMMIT\n"

-- what is asked for of a chain of a list
abbrev asked : Form → List ℕ → Answers → Request
asked form chain answers = record {
  form = form;
  file = codes "fw.list";
  chain = chain;
  options = record { answers = answers; assumed = [] };
}

-- what a run comes to over a list
abbrev over : List ℕ → Request → ListOutcome
over bytes request = outcome request (record { name = codes "fw.list"; bytes = bytes } ∷ [])

-- nothing is printed but a line
abbrev only : ListStatus → ListOutcome
only status = record { status = status; text = [] }

-- ---- refusals

no_list : outcome (asked Iptables (codes "INPUT") answers.Line) [] ≡ only ReadFault
no_list = refl

no_chain : over list (asked Iptables (codes "FORWARD") answers.Line)
    ≡ only (Refused (at_line 0 NoChain))
unfolding list digits with_lines match_table protocol_table target_table
no_chain = refl

-- packets come to it from other chains alone
no_policy : over list (asked Iptables (codes "web") answers.Line)
    ≡ only (Refused (at_line 0 NoPolicy))
unfolding list digits with_lines match_table protocol_table target_table
no_policy = refl

-- a line that no rule file says
a_faulty_line :
    over (codes "*filter\n:INPUT DROP [0:0]\n\n-A INPUT -m recent --set -j DROP\nCOMMIT\n")
    (asked Iptables (codes "INPUT") answers.Line) ≡ only (Refused (at_line 4 (Line kind.CantSay)))
unfolding digits with_lines match_table target_table
a_faulty_line = refl

-- lines that lead from a chain back to it
a_loop : over (codes "*filter\n:INPUT DROP [0:0]\n:web - [0:0]\n-A INPUT -j web\n"
    ++ codes "-A web -p tcp -g web\nCOMMIT\n")
    (asked Iptables (codes "INPUT") answers.Verdict) ≡ only (Refused (at_line 5 Loop))
unfolding digits with_lines protocol_table target_table
a_loop = refl

-- an entry of a router that no rule file says
a_faulty_entry : over (codes "access-list 101 permit tcp any any established\n")
    (asked Cisco (codes "101") answers.Line) ≡ only (Refused (at_line 1 (CiscoLine entry.Compares)))
unfolding digits is_among number_named names.protocol_table compared_words log_words
    cisco.entry_words
a_faulty_entry = refl

-- ---- rules of a ruleset that no rule file says

-- a rule that leads to no chain, for all packets; it has the number of its handle
abbrev nowhere : ℕ → ListRule (List Span)
nowhere handle = record { userdata = handle; inside = []; but = []; target = target.Jump 9 }

-- two chains with the rules 5 and 5 of two tables, of which the second has a rule 6 too
ruleset_way : WayView
ruleset_way = record {
  chains = (nowhere 5 ∷ []) ∷ (nowhere 5 ∷ nowhere 6 ∷ []) ∷ [];
  faults = (record { handle = 5; kind = rule.Rate } ∷ [])
      ∷ (record { handle = 5; kind = rule.CantSay } ∷ []) ∷ [];
  start = record { place = 1; policy = 2 };
}

-- the cause is that of the rule's own chain
of_the_rule : unturned Nft ruleset_way (fault.NoChain (record { chain = 1; rule = 0 }))
    ≡ at_place (placed.Handle 5) (Rule rule.CantSay)
unfolding ruleset_way
of_the_rule = refl

-- without a cause the target isn't there
of_no_cause : unturned Nft ruleset_way (fault.NoChain (record { chain = 1; rule = 1 }))
    ≡ at_place (placed.Handle 6) NoTarget
unfolding ruleset_way
of_no_cause = refl

-- ---- lines on standard error

a_message : message [] [] (Refused (at_line 5 Loop)) ≡ codes "aclc-lists: list: line 5: loop\n"
unfolding digits
a_message = refl

of_an_entry : message [] [] (Refused (at_line 1 (CiscoLine entry.Compares)))
    ≡ codes "aclc-lists: list: line 1: matches what no rule file says\n"
unfolding digits
of_an_entry = refl

of_a_rule : message [] [] (Refused (at_place (placed.Handle 18) (Rule rule.CantSay)))
    ≡ codes "aclc-lists: list: handle 18: matches what no rule file says\n"
unfolding digits
of_a_rule = refl

of_an_object : message [] [] (Refused (at_object 2 (Object object.UnknownObject)))
    ≡ codes "aclc-lists: list: object 2: unknown object\n"
unfolding digits
of_an_object = refl

of_words : message [] [] (Usage (fault_at 1 UnknownCommand))
    ≡ codes "aclc-lists: usage: word 1: unknown command\n"
unfolding digits
of_words = refl

-- below it stands the line, if the fault stands in one
of_a_line : message (codes "fw") (codes "*filter\n:INPUT ACCEPT [0:0]\n-A INPUT -x\n")
    (Refused (at_line 3 (Line kind.UnknownOption)))
    ≡ codes "aclc-lists: list: line 3: unknown option\n  -A INPUT -x\n"
unfolding digits
of_a_line = refl

-- that a list isn't there is told of the end
of_no_list :
    message (codes "edge") (codes "hostname a\n") (Refused (at_line 1 (CiscoLine entry.NoList)))
    ≡ codes "aclc-lists: list: line 1: no such list\n"
unfolding digits
of_no_list = refl

-- and what can't be read is named
of_a_name : message (codes "none.list") [] ReadFault ≡ codes "aclc-lists: none.list: read fault\n"
of_a_name = refl
