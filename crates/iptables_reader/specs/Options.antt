-- The words that name something: options (iptables(8), "PARAMETERS"), matches and targets
-- (iptables-extensions(8), by their names).
use Rattle.std.specs.Prelude.{ℕ, ◌==◌, Bool, true, false, ◌||◌, if◌then◌else◌, codes, List, [], ◌∷◌, is_some}
use Rattle.std.specs.Prelude.{Option, Some, None}
use Rattle.std.specs.Str.{bytes_eq}
use Rattle.text_scan.specs.Parts.{words_of}
use Rattle.list_packets.specs.declared.packets.End.TheVariants.{Source, Destination}
use Rattle.list_packets.specs.Names.{named}
use Rattle.iptables_reader.specs.declared.options.RuleOption.{RuleOption}
use Rattle.iptables_reader.specs.declared.options.RuleOption.TheVariants as option
use Rattle.iptables_reader.specs.declared.options.Match.{Match}
use Rattle.iptables_reader.specs.declared.options.Match.TheVariants as kind
use Rattle.iptables_reader.specs.declared.options.Verdict.{Verdict}
use Rattle.iptables_reader.specs.declared.options.Verdict.TheVariants as verdict
use Rattle.iptables_reader.specs.Tables.{owner_in, target_table}

-- An option: what its value says, if that decides something; a bit for what comes once, or 0; and
-- that `!` may stand before it.
abbrev pub Row : Type 0
Row = Option RuleOption × ℕ × Bool

-- an option whose value says something
abbrev pub said : RuleOption → ℕ → Bool → Row
said it once negated = (Some it, once, negated)

-- the names of the options of any rule
abbrev pub any_names : List ℕ
any_names = codes "-s -d -p -i -o --sport --dport -m -j -g --reject-with"

-- Those options: one target may stand in a rule, and any number of matches.
abbrev pub any_option : List ℕ → Option Row
any_option word = named word (words_of any_names)
    (said (option.Network Source) 1 true
    ∷ said (option.Network Destination) 2 true
    ∷ said option.Protocol 4 true
    ∷ said (option.Interface Source) 8 true
    ∷ said (option.Interface Destination) 16 true
    ∷ said (option.Ports Source) 32 true
    ∷ said (option.Ports Destination) 64 true
    ∷ said option.Match 0 false
    ∷ said option.Jump 128 false
    ∷ said option.Go 128 false
    ∷ said option.Answer 256 false ∷ [])

-- the names of the matches that are read
abbrev pub match_names : List ℕ
match_names = codes "tcp udp sctp icmp icmp6 comment multiport iprange conntrack state addrtype"

-- the match that a word names
abbrev pub match_named : List ℕ → Option Match
match_named word = named word (words_of match_names)
    (kind.Protocol 6 ∷ kind.Protocol 17 ∷ kind.Protocol 132 ∷ kind.Messages 1 ∷ kind.Messages 58
    ∷ kind.Comment ∷ kind.Ports ∷ kind.Range ∷ kind.Connection ∷ kind.State ∷ kind.Type ∷ [])

-- an option, if the word is its name
abbrev pub only_option : List ℕ → Row → List ℕ → Option Row
only_option name row word = if bytes_eq word name then Some row else None

-- the option of icmp; that of icmp6 stands in a table, as it has no type for all messages
abbrev pub message_option : ℕ → List ℕ → Option Row
message_option number word =
    if number == 1 then only_option (codes "--icmp-type") (said option.Message 512 true) word
    else None

-- The option of a match that a word names. It comes once each time that its match is named, and one
-- list of ports alone.
abbrev pub own_option : Match → List ℕ → Option Row
own_option (kind.Protocol number) word = None
own_option (kind.Messages number) word = message_option number word
own_option kind.Comment word = only_option (codes "--comment") (None, 512, false) word
own_option kind.Ports word = named word (words_of (codes "--sports --dports --ports"))
    (said (option.List (Some Source)) 512 true ∷ said (option.List (Some Destination)) 512 true
    ∷ said (option.List None) 512 true ∷ [])
own_option kind.Range word = named word (words_of (codes "--src-range --dst-range"))
    (said (option.Range Source) 512 true ∷ said (option.Range Destination) 1024 true ∷ [])
own_option kind.Connection word =
    only_option (codes "--ctstate") (said (option.States true) 512 true) word
own_option kind.State word =
    only_option (codes "--state") (said (option.States false) 512 true) word
own_option kind.Type word = named word (words_of (codes "--src-type --dst-type"))
    (said (option.Type Source) 512 true ∷ said (option.Type Destination) 1024 true ∷ [])

-- the verdict that a target names
abbrev pub verdict_named : List ℕ → Option Verdict
verdict_named word = named word (words_of (codes "ACCEPT DROP REJECT RETURN"))
    (verdict.Accept ∷ verdict.Drop ∷ verdict.Reject ∷ verdict.Return ∷ [])

-- a word names a target, as no chain is named
abbrev pub is_target : List ℕ → Bool
is_target word = is_some (verdict_named word) || is_some (owner_in word target_table)
