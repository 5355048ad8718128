-- What the words of a command line ask for: a form, the names of a file and of one of its chains or
-- lists, and options. They are read from left to right, and the first fault decides.
use Rattle.std.specs.Prelude.{ℕ, ◌+◌, Bool, if◌then◌else◌, List, [], ◌∷◌, length, take, drop, codes}
use Rattle.std.specs.Prelude.{Option, Some, None, Result, Ok, Err}
use Rattle.std.specs.Option.{option_len, unwrap_or}
use Rattle.std.specs.Str.{bytes_eq}
use Rattle.command_words.specs.declared.usage_fault.UsageFault.{UsageFault}
use Rattle.command_words.specs.declared.usage_fault.UsageKind.{UsageKind}
use Rattle.command_words.specs.declared.usage_fault.UsageKind.TheVariants.{MissingCommand, UnknownCommand}
use Rattle.command_words.specs.declared.usage_fault.UsageKind.TheVariants.{MissingName, UnknownOption}
use Rattle.command_words.specs.declared.usage_fault.UsageKind.TheVariants.{RepeatedOption, BadValue}
use Rattle.iptables_reader.specs.declared.answers.Answers.{Answers}
use Rattle.iptables_reader.specs.declared.answers.Answers.TheVariants.{Line, Verdict}
use Rattle.list_tool.specs.declared.words.Form.{Form}
use Rattle.list_tool.specs.declared.words.Form.TheVariants.{Iptables, Ip6tables, Cisco, Nft, Nft6}
use Rattle.list_packets.specs.Assumed.{is_assumption}

-- what the userdata of rules is, and what is assumed of packets beside their bytes
pub record Options : Type 0 where
  pub answers : Answers
  pub assumed : List ℕ

-- the rule file of a chain of a list
pub record Request : Type 0 where
  pub form : Form
  pub file : List ℕ
  pub chain : List ℕ
  pub options : Options

-- a fault of the word with this number
abbrev pub fault_at : ℕ → UsageKind → UsageFault
fault_at word kind = record { word = word; kind = kind }

-- the form that a word names
abbrev pub form_named : List ℕ → Option Form
form_named word =
    if bytes_eq word (codes "iptables") then Some Iptables
    else (if bytes_eq word (codes "ip6tables") then Some Ip6tables
    else (if bytes_eq word (codes "cisco") then Some Cisco
    else (if bytes_eq word (codes "nft") then Some Nft
    else (if bytes_eq word (codes "nft6") then Some Nft6 else None))))

-- ---- options

-- those of both that were given
pub record Given : Type 0 where
  pub answers : Option Answers
  pub assumed : Option (List ℕ)

-- no option was given yet
abbrev pub none_given : Given
none_given = record { answers = None; assumed = None }

-- how many were
abbrev pub given_len : Given → ℕ
given_len given = option_len given.answers + option_len given.assumed

-- Of what isn't given the usual value holds: the userdata is the line that decides, and nothing is
-- assumed.
abbrev pub settled : Given → Options
settled given = record {
  answers = unwrap_or given.answers Line;
  assumed = unwrap_or given.assumed [];
}

-- what the userdata of rules is, by its name
abbrev pub answers_named : List ℕ → Option Answers
answers_named word =
    if bytes_eq word (codes "line") then Some Line
    else (if bytes_eq word (codes "verdict") then Some Verdict else None)

-- the word begins with this text
abbrev pub begins_with : List ℕ → List ℕ → Bool
begins_with text word = bytes_eq (take (length text) word) text

-- what stands after the name of an option and its `=`
abbrev pub value_of : List ℕ → List ℕ → List ℕ
value_of name word = drop (length name) word

-- a value is given once, and is a lawful one
abbrev pub adds : {A : Type 0} → (A → Given) → Option A → Option A → Result Given UsageKind
adds with_value (Some before) value = Err RepeatedOption
adds with_value None None = Err BadValue
adds with_value None (Some value) = Ok (with_value value)

-- the options with a value of `data=` more
abbrev pub with_answers : Given → List ℕ → Result Given UsageKind
with_answers given value =
    adds (λ answers. record given { answers = Some answers }) given.answers (answers_named value)

-- a text that is an assumption
abbrev pub assumption_in : List ℕ → Option (List ℕ)
assumption_in value = if is_assumption value then Some value else None

-- the options with a value of `assume=` more
abbrev pub with_assumed : Given → List ℕ → Result Given UsageKind
with_assumed given value =
    adds (λ assumed. record given { assumed = Some assumed }) given.assumed (assumption_in value)

-- the option that says what the userdata of rules is
abbrev pub data_option : List ℕ
data_option = codes "data="

-- and the one that says what is assumed
abbrev pub assume_option : List ℕ
assume_option = codes "assume="

-- the options with one word more that isn't `data=`
abbrev pub with_other : Given → List ℕ → Result Given UsageKind
with_other given word =
    if begins_with assume_option word then with_assumed given (value_of assume_option word)
    else Err UnknownOption

-- the options with one word more
abbrev pub with_option : Given → List ℕ → Result Given UsageKind
with_option given word =
    if begins_with data_option word then with_answers given (value_of data_option word)
    else with_other given word

-- what a word adds, and then what comes of the words after it
abbrev pub option_then : ℕ → Result Given UsageKind → (Given → Result Options UsageFault) →
    Result Options UsageFault
option_then number (Err kind) rest = Err (fault_at number kind)
option_then number (Ok given) rest = rest given

-- the options of the words, of which the first has the number
abbrev pub options_from : ℕ → Given → List (List ℕ) → Result Options UsageFault
options_from number given [] = Ok (settled given)
options_from number given (word ∷ words) =
    option_then number (with_option given word) (λ next. options_from (number + 1) next words)

-- ---- the words

-- a form, two names and options
abbrev pub options_then : Form → List ℕ → List ℕ → Result Options UsageFault →
    Result Request UsageFault
options_then form file chain (Ok options) =
    Ok (record { form = form; file = file; chain = chain; options = options })
options_then form file chain (Err fault) = Err fault

-- the words after a form: the names of a file and of a chain, and then options
abbrev pub with_form : Form → List (List ℕ) → Result Request UsageFault
with_form form [] = Err (fault_at 2 MissingName)
with_form form (file ∷ []) = Err (fault_at 3 MissingName)
with_form form (file ∷ chain ∷ words) =
    options_then form file chain (options_from 4 none_given words)

-- the same after a word that may name a form
abbrev pub with_named : Option Form → List (List ℕ) → Result Request UsageFault
with_named None words = Err (fault_at 1 UnknownCommand)
with_named (Some form) words = with_form form words

-- what the words ask for, or their first fault
abbrev pub command : List (List ℕ) → Result Request UsageFault
command [] = Err (fault_at 1 MissingCommand)
command (verb ∷ words) = with_named (form_named verb) words
