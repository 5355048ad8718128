-- A rule of a list, option by option (iptables(8), "PARAMETERS" and "MATCH AND TARGET EXTENSIONS";
-- iptables-extensions(8)). An option is a name, perhaps after `!`, and its value, or as many words
-- as it has. It is known once its match or its target is named. What is no option that is known is
-- a fault.
use Rattle.std.specs.Prelude.{ℕ, ◌==◌, Bool, true, false, not, ◌&&◌, ◌||◌, bit_and, bit_or}
use Rattle.std.specs.Prelude.{if◌then◌else◌, codes, List, [], ◌∷◌, Option, Some, None}
use Rattle.std.specs.Prelude.{Result, Ok, Err}
use Rattle.std.specs.Str.{bytes_eq}
use Rattle.field_defs.specs.declared.field.Family.{Family}
use Rattle.list_packets.specs.Packets.{all_caught}
use Rattle.list_packets.specs.Values.{first_of}
use Rattle.iptables_reader.specs.declared.fault.LineKind.{LineKind}
use Rattle.iptables_reader.specs.declared.fault.LineKind.TheVariants as fault
use Rattle.iptables_reader.specs.declared.options.Match.{Match}
use Rattle.iptables_reader.specs.declared.options.RuleOption.{RuleOption}
use Rattle.iptables_reader.specs.declared.reading.Act.{Act}
use Rattle.iptables_reader.specs.declared.reading.Act.TheVariants as act
use Rattle.iptables_reader.specs.declared.reading.Reading.{Reading}
use Rattle.iptables_reader.specs.declared.reading.Rows.{Rows}
use Rattle.iptables_reader.specs.declared.reading.Rows.TheVariants as rows
use Rattle.iptables_reader.specs.declared.tables.Listed.{Listed}
use Rattle.iptables_reader.specs.Chains.{ListedChain, RuleSetting, place_of}
use Rattle.iptables_reader.specs.Options.{Row, any_option, own_option}
use Rattle.iptables_reader.specs.OptionValues.{unless, with_cause, with_value}
use Rattle.iptables_reader.specs.Quotes.{after_words}
use Rattle.iptables_reader.specs.Stops.{◌>>=◌, taken}
use Rattle.iptables_reader.specs.Tables.{match_table, option_in, target_table}
use Rattle.iptables_reader.specs.Values.{is_counters}

-- ---- the beginning of the line

-- the place of the rule's chain, and the words after its name
pub record Head : Type 0 where
  pub chain : ℕ
  pub words : List (List ℕ)

-- counters may stand first, which decide nothing
abbrev pub after_counters : List (List ℕ) → List (List ℕ)
after_counters [] = []
after_counters (word ∷ words) = if is_counters word then words else word ∷ words

-- the name of the chain, which is declared
abbrev pub named_chain : List ListedChain → List (List ℕ) → Result Head LineKind
named_chain chains [] = Err fault.MissingWord
named_chain chains (name ∷ words) =
    taken fault.NoChain (place_of false name chains)
    (λ place. record { chain = place; words = words })

-- `-A`, and the name of the chain
abbrev pub appended : List ListedChain → List (List ℕ) → Result Head LineKind
appended chains [] = Err fault.BadStart
appended chains (word ∷ words) =
    if bytes_eq word (codes "-A") then named_chain chains words else Err fault.BadStart

-- the chain of a rule
abbrev pub head_of : List ListedChain → List (List ℕ) → Result Head LineKind
head_of chains words = appended chains (after_counters words)

-- ---- options

-- nothing was read yet of a rule
abbrev pub first_reading : Family → Reading
first_reading family = record {
  given = 0;
  known = 0;
  matched = false;
  kind = None;
  own = false;
  rows = rows.Nothing;
  caught = all_caught family;
  never = false;
  cause = None;
  act = None;
}

-- what is read, and the words after it
pub record OptionRead : Type 0 where
  pub reading : Reading
  pub words : List (List ℕ)

-- the option of the last match that a word names, if there is such a match
abbrev pub option_of_kind : Option Match → List ℕ → Option Row
option_of_kind None name = None
option_of_kind (Some kind) name = own_option kind name

-- the option that a word names: one of the last match, or of any rule where that may come
abbrev pub option_named : Reading → List ℕ → Option Row
option_named reading name =
    first_of (option_of_kind reading.kind name) (if reading.own then None else any_option name)

-- an option came, after which any other may come
abbrev pub with_given : ℕ → Reading → Reading
with_given once reading = record reading { given = bit_or reading.given once; own = false }

-- what an option says: the next word is its value, or decides nothing
abbrev pub with_said : RuleSetting → Bool → Reading → Option RuleOption → List (List ℕ) →
    Result OptionRead LineKind
with_said setting negated reading None words = after_words 1 words >>= λ rest.
    Ok (record { reading = reading; words = rest })
with_said setting negated reading (Some option) [] = Err fault.MissingWord
with_said setting negated reading (Some option) (word ∷ words) =
    with_value setting reading option (record { negated = negated; word = word }) >>= λ read.
    Ok (record { reading = read; words = words })

-- an option that is read, which may not be negated, or comes once
abbrev pub with_row : RuleSetting → Bool → Reading → Row → List (List ℕ) →
    Result OptionRead LineKind
with_row setting negated reading row words =
    unless (negated && not row.2) fault.BadNegation
    (unless (not (bit_and reading.given row.1 == 0)) fault.OptionTwice
    (with_said setting negated (with_given row.1 reading) row.0 words))

-- so many words, and what is read before them
pub record PassedOver : Type 0 where
  pub count : ℕ
  pub reading : Reading

-- an option of a table, after which those that stand behind it may come
abbrev pub passed_row : Option Listed → (ℕ → Rows) → Reading → Result PassedOver LineKind
passed_row row table reading = taken fault.UnknownOption row (λ found.
    record { count = found.count; reading = record reading { rows = table found.after } })

-- An option of a table: one of the last match, which no rule file says, or of the target, which
-- decides nothing, and isn't negated.
abbrev pub passed_by : Rows → Bool → Reading → List ℕ → Result PassedOver LineKind
passed_by rows.Nothing negated reading name = Err fault.UnknownOption
passed_by (rows.Match place) negated reading name =
    passed_row (option_in name place match_table) rows.Match (with_cause fault.CantSay reading)
passed_by (rows.Target place) negated reading name =
    unless negated fault.BadNegation
    (passed_row (option_in name place target_table) rows.Target reading)

-- an option of the table that is meant
abbrev pub passed_over : Bool → Reading → List ℕ → Result PassedOver LineKind
passed_over negated reading name =
    passed_by reading.rows negated (record reading { own = false }) name

-- an option by its name: one that is read, or one of a table
abbrev pub with_found : RuleSetting → Bool → Reading → List ℕ → List (List ℕ) → Option Row →
    Result OptionRead LineKind
with_found setting negated reading name words (Some row) =
    with_row setting negated reading row words
with_found setting negated reading name words None = passed_over negated reading name >>= λ passed.
    after_words passed.count words >>= λ rest.
    Ok (record { reading = passed.reading; words = rest })

-- the same, by what the name names
abbrev pub with_named : RuleSetting → Bool → Reading → List ℕ → List (List ℕ) →
    Result OptionRead LineKind
with_named setting negated reading name words =
    with_found setting negated reading name words (option_named reading name)

-- an option after `!`, of which two don't follow each other
abbrev pub with_negated : RuleSetting → Reading → List (List ℕ) → Result OptionRead LineKind
with_negated setting reading [] = Err fault.MissingWord
with_negated setting reading (name ∷ words) =
    unless (bytes_eq name (codes "!")) fault.BadNegation
    (with_named setting true reading name words)

-- an option that begins with a word
abbrev pub with_option : RuleSetting → Reading → List ℕ → List (List ℕ) →
    Result OptionRead LineKind
with_option setting reading word words =
    if bytes_eq word (codes "!") then with_negated setting reading words
    else with_named setting false reading word words

-- ---- a whole line

-- options, one after the other, of which no more come than there are words in a list
abbrev pub with_options : List (List ℕ) → RuleSetting → Reading → List (List ℕ) →
    Result Reading LineKind
with_options [] setting reading words = Ok reading
with_options (one ∷ more) setting reading [] = Ok reading
with_options (one ∷ more) setting reading (word ∷ words) =
    with_option setting reading word words >>= λ read.
    with_options more setting read.reading read.words

-- the next rule is asked for the same packets
abbrev pub passes : Option Act → Bool
passes None = true
passes (Some act.Pass) = true
passes (Some (act.Decide said)) = false
passes (Some (act.Jump place)) = false
passes (Some (act.Go place)) = false

-- The end of the line, before which no option is missing. A rule does nothing if it passes packets
-- on, or if none has what it matches.
abbrev pub finished : Reading → Result Reading LineKind
finished reading = unless reading.own fault.MissingWord
    (Ok (if passes reading.act || reading.never then record reading { act = None } else reading))

-- what the words after the name of a rule's chain say: each option has a word at least
abbrev pub options_of : RuleSetting → List (List ℕ) → Result Reading LineKind
options_of setting words =
    with_options words setting (first_reading setting.family) words >>= finished
