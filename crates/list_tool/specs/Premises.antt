-- What the rules of a rule file presuppose of packets, as the comments above them say it: which
-- chain they decide as, what is assumed, which packets are meant, and what the userdata is.
use Rattle.std.specs.Prelude.{◌≡◌, ℕ, List, [], ◌∷◌, codes, if◌then◌else◌, refl}
use Rattle.iptables_reader.specs.SavedTables.{has_other_tables}
use Rattle.iptables_reader.specs.declared.answers.Answers.{Answers}
use Rattle.iptables_reader.specs.declared.answers.Answers.TheVariants.{Line, Verdict}
use Rattle.list_tool.specs.declared.words.Form.{Form}
use Rattle.list_tool.specs.declared.words.Form.TheVariants.{Iptables, Ip6tables, Cisco, Nft, Nft6}
use Rattle.list_tool.specs.Words.{Request}

-- the chain or the list whose name stands in the next comment
abbrev pub subject_text : Form → List ℕ
subject_text Iptables = codes "IPv4 packets that come to this chain of filter:"
subject_text Ip6tables = codes "IPv6 packets that come to this chain of filter:"
subject_text Cisco = codes "IPv4 packets that this access list is applied to:"
subject_text Nft = codes "IPv4 packets that come to this base chain:"
subject_text Nft6 = codes "IPv6 packets that come to this base chain:"

-- what is known of other tables
abbrev pub tables_text : List ℕ → List ℕ
tables_text bytes =
    if has_other_tables bytes then codes "No other table of this list drops them."
    else codes "Other tables weren't in this list, so whether one drops them isn't known."

-- What else of the list, or beside it, may drop them. Tables of a save were read, if it has any but
-- filter: a list of which one may drop them is refused.
abbrev pub beside_text : Form → List ℕ → List ℕ
beside_text Iptables bytes = tables_text bytes
beside_text Ip6tables bytes = tables_text bytes
beside_text Cisco bytes = codes "Whether another access list drops them isn't known."
beside_text Nft bytes = codes "No other base chain of this ruleset drops them."
beside_text Nft6 bytes = codes "No other base chain of this ruleset drops them."

-- what is assumed of each of them
abbrev pub assumed_text : List ℕ → List ℕ
assumed_text [] = codes "nothing"
assumed_text (byte ∷ bytes) = byte ∷ bytes

-- Which headers they have. A rule with `-m tcp` of legacy iptables drops a packet that is cut
-- within the header of TCP, as with udp and sctp. Legacy ip6tables looks for the protocol behind
-- AH.
-- Source: Linux, net/netfilter/xt_tcpudp.c, and net/ipv6/netfilter/ip6_tables.c.
abbrev pub headers_text : Form → List ℕ
headers_text Iptables =
    codes "Headers are complete: legacy iptables drops others at -m tcp, udp and sctp."
headers_text Ip6tables =
    codes "Headers are complete, without AH: legacy ip6tables drops others, or looks behind AH."
headers_text Cisco = codes "Headers are complete."
headers_text Nft = codes "Headers are complete: on others a match of ports fails."
headers_text Nft6 = codes "Headers are complete: on others a match of ports fails."

-- Fragments are left out: later ones have no ports.
-- Source: Cisco, "Access Control Lists and IP Fragments", for lists of IOS.
abbrev pub fragments_text : Form → List ℕ
fragments_text Iptables = codes "No fragments: on later ones a match of ports fails."
fragments_text Ip6tables = codes "No fragments: on later ones a match of ports fails."
fragments_text Cisco =
    codes "No fragments: an entry that permits ports permits later ones by addresses alone."
fragments_text Nft = codes "No fragments: on later ones a match of ports fails."
fragments_text Nft6 = codes "No fragments: on later ones a match of ports fails."

-- what the userdata is
abbrev pub data_text : Form → Answers → List ℕ
data_text Iptables Line = codes "data= is the number of the line that decides."
data_text Ip6tables Line = codes "data= is the number of the line that decides."
data_text Cisco Line = codes "data= is the number of the line that decides, and 0 if none does."
data_text Nft Line =
    codes "data= is the handle of the rule that decides, or of the chain by its policy."
data_text Nft6 Line =
    codes "data= is the handle of the rule that decides, or of the chain by its policy."
data_text form Verdict = codes "data= is 1 to accept, 2 to drop and 3 to reject."

-- all of it, for the bytes of a list
abbrev pub premises : Request → List ℕ → List (List ℕ)
premises request bytes =
    subject_text request.form
    ∷ request.chain
    ∷ beside_text request.form bytes
    ∷ codes "Of each of them this is assumed:"
    ∷ assumed_text request.options.assumed
    ∷ headers_text request.form
    ∷ fragments_text request.form
    ∷ data_text request.form request.options.answers
    ∷ []

-- ---- examples

-- a chain whose packets come from an interface
of_input : premises (record {
  form = Iptables;
  file = codes "fw.list";
  chain = codes "INPUT";
  options = record { answers = Line; assumed = codes "in=eth0" };
}) (codes "*filter\nCOMMIT\n")
    ≡ codes "IPv4 packets that come to this chain of filter:"
    ∷ codes "INPUT"
    ∷ codes "Other tables weren't in this list, so whether one drops them isn't known."
    ∷ codes "Of each of them this is assumed:"
    ∷ codes "in=eth0"
    ∷ codes "Headers are complete: legacy iptables drops others at -m tcp, udp and sctp."
    ∷ codes "No fragments: on later ones a match of ports fails."
    ∷ codes "data= is the number of the line that decides."
    ∷ []
of_input = refl

-- a list of a router, of whose packets nothing is assumed
of_router : premises (record {
  form = Cisco;
  file = codes "edge";
  chain = codes "110";
  options = record { answers = Verdict; assumed = [] };
}) []
    ≡ codes "IPv4 packets that this access list is applied to:"
    ∷ codes "110"
    ∷ codes "Whether another access list drops them isn't known."
    ∷ codes "Of each of them this is assumed:"
    ∷ codes "nothing"
    ∷ codes "Headers are complete."
    ∷ codes "No fragments: an entry that permits ports permits later ones by addresses alone."
    ∷ codes "data= is 1 to accept, 2 to drop and 3 to reject."
    ∷ []
of_router = refl

-- a save of all tables
of_a_save : tables_text (codes "*raw\nCOMMIT\n*filter\nCOMMIT\n")
    ≡ codes "No other table of this list drops them."
of_a_save = refl
