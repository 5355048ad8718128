-- Examples of command lines, each checked by evaluation.
use Rattle.std.specs.Prelude.{◌≡◌, ℕ, List, [], ◌∷◌, codes, Result, Ok, Err, refl}
use Rattle.command_words.specs.declared.usage_fault.UsageFault.{UsageFault}
use Rattle.command_words.specs.declared.usage_fault.UsageKind.TheVariants.{MissingCommand, UnknownCommand}
use Rattle.command_words.specs.declared.usage_fault.UsageKind.TheVariants.{MissingName, UnknownOption}
use Rattle.command_words.specs.declared.usage_fault.UsageKind.TheVariants.{RepeatedOption, BadValue}
use Rattle.iptables_reader.specs.declared.answers.Answers.{Answers}
use Rattle.iptables_reader.specs.declared.answers.Answers.TheVariants.{Line, Verdict}
use Rattle.list_tool.specs.declared.words.Form.{Form}
use Rattle.list_tool.specs.declared.words.Form.TheVariants.{Iptables, Ip6tables, Cisco, Nft, Nft6}
use Rattle.list_tool.specs.Words.{Request, command, fault_at}

-- the chain INPUT of the list fw.list, where nothing is assumed
abbrev asked : Form → Answers → Result Request UsageFault
asked form answers = Ok (record {
  form = form;
  file = codes "fw.list";
  chain = codes "INPUT";
  options = record { answers = answers; assumed = [] };
})

-- words after a form
abbrev after : List ℕ → List (List ℕ) → Result Request UsageFault
after form words = command (form ∷ codes "fw.list" ∷ codes "INPUT" ∷ words)

by_line : after (codes "iptables") [] ≡ asked Iptables Line
by_line = refl

of_ip6 : after (codes "ip6tables") [] ≡ asked Ip6tables Line
of_ip6 = refl

of_cisco : after (codes "cisco") [] ≡ asked Cisco Line
of_cisco = refl

of_nft : after (codes "nft") [] ≡ asked Nft Line
of_nft = refl

of_nft6 : after (codes "nft6") [] ≡ asked Nft6 Line
of_nft6 = refl

by_verdict : after (codes "iptables") (codes "data=verdict" ∷ []) ≡ asked Iptables Verdict
by_verdict = refl

nothing_assumed : after (codes "iptables") (codes "assume=" ∷ codes "data=line" ∷ [])
    ≡ asked Iptables Line
nothing_assumed = refl

-- ---- faults

no_words : command [] ≡ Err (fault_at 1 MissingCommand)
no_words = refl

other_form : after (codes "asa") [] ≡ Err (fault_at 1 UnknownCommand)
other_form = refl

no_file : command (codes "iptables" ∷ []) ≡ Err (fault_at 2 MissingName)
no_file = refl

no_chain : command (codes "iptables" ∷ codes "fw.list" ∷ []) ≡ Err (fault_at 3 MissingName)
no_chain = refl

twice : after (codes "iptables") (codes "data=line" ∷ codes "data=line" ∷ [])
    ≡ Err (fault_at 5 RepeatedOption)
twice = refl

no_value : after (codes "iptables") (codes "data=7" ∷ []) ≡ Err (fault_at 4 BadValue)
no_value = refl

other_option : after (codes "iptables") (codes "lenient" ∷ []) ≡ Err (fault_at 4 UnknownOption)
other_option = refl
