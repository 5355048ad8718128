-- Comparisons with what is known of packets beside their bytes, or assumed (nft(8), "META
-- EXPRESSIONS" and "CONNTRACK EXPRESSIONS"): each is true of all packets or of none.
use Rattle.std.specs.Prelude.{ℕ, ◌==◌, Bool, true, false, not, ◌&&◌, is_some, if◌then◌else◌, codes}
use Rattle.std.specs.Prelude.{List, Option, Some, None, option_and_then, Result, Ok, Err}
use Rattle.std.specs.List.{list_all, list_any}
use Rattle.std.specs.Option.{option_map}
use Rattle.json.specs.Json.{Json}
use Rattle.json.specs.Find.{as_str}
use Rattle.text_scan.specs.Parts.{parts_of}
use Rattle.list_packets.specs.Assumed.{assumed_state, is_interface, meets_interface}
use Rattle.list_packets.specs.Assumed.{state_named, value_in}
use Rattle.list_packets.specs.Values.{comma}
use Rattle.nft_reader.specs.declared.fault.RuleKind.{RuleKind}
use Rattle.nft_reader.specs.declared.fault.RuleKind.TheVariants as kind
use Rattle.nft_reader.specs.declared.compared.Fact.{Fact}
use Rattle.nft_reader.specs.declared.compared.Fact.TheVariants as fact
use Rattle.nft_reader.specs.declared.compared.Naming.{Naming}
use Rattle.nft_reader.specs.declared.compared.Naming.TheVariants as naming
use Rattle.nft_reader.specs.declared.compared.Operator.{Operator}
use Rattle.nft_reader.specs.declared.compared.Operator.TheVariants as operator
use Rattle.nft_reader.specs.declared.compared.Way.{Way}
use Rattle.nft_reader.specs.declared.compared.Way.TheVariants as way
use Rattle.nft_reader.specs.declared.hooks.Base.{Base}
use Rattle.nft_reader.specs.Compared.{is_ip4, is_of}
use Rattle.nft_reader.specs.Hooks.{knows_state, knows_way}
use Rattle.nft_reader.specs.Known.{Question}
use Rattle.nft_reader.specs.Sets.{at_name}
use Rattle.nft_reader.specs.Shapes.{listed_values}
use Rattle.nft_reader.specs.Stops.{◌>>=◌, or_cant, or_cause}
use Rattle.nft_reader.specs.Values.{elements_of}

-- a text, if there is one, or else `/`, which names no interface and no state
abbrev pub text_or : Option (List ℕ) → List ℕ
text_or None = codes "/"
text_or (Some text) = text

-- the word of a value
abbrev pub word_of : Json → List ℕ
word_of value = text_or (as_str value)

-- ---- interfaces

-- `*` stands at the end of a name for whatever follows there
abbrev pub star : ℕ
star = 42

-- a text has the byte
abbrev pub has_byte : ℕ → List ℕ → Bool
has_byte byte text = list_any (λ c. c == byte) text

-- Before a `*` that is part of a name nft prints `\`, which is 92. Of an index it prints the name
-- of one interface.
abbrev pub may_be_named : Naming → List ℕ → Bool
may_be_named naming.Name word = not (has_byte 92 word)
may_be_named naming.Index word = not (has_byte star word)

-- a word names interfaces, and isn't that of a set
abbrev pub is_interface_word : Naming → List ℕ → Bool
is_interface_word manner word =
    not (is_some (at_name word)) && is_interface star word && may_be_named manner word

-- a value names interfaces
abbrev pub is_interface_value : Naming → Json → Bool
is_interface_value manner value = is_interface_word manner (word_of value)

-- a value names the interface
abbrev pub meets_value : List ℕ → Json → Bool
meets_value name value = meets_interface star (word_of value) name

-- the key of the interface that packets come by, and of the one that they leave by
abbrev pub way_key : Way → List ℕ
way_key way.In = codes "in"
way_key way.Out = codes "out"

-- the interface that is assumed
abbrev pub interface_of : Way → List ℕ → Option (List ℕ)
interface_of which assumed = value_in (way_key which) (parts_of comma assumed)

-- packets have an interface that the values name, or a cause where that isn't known
abbrev pub interface_met : List ℕ → Way → Naming → List Json → Result Bool RuleKind
interface_met assumed which manner values =
    if list_all (is_interface_value manner) values
    then (or_cause kind.NeedsInterface (interface_of which assumed) >>= λ name.
    Ok (list_any (meets_value name) values))
    else Err kind.CantSay

-- ---- states of connections

-- a value is a state
abbrev pub is_state_value : Json → Bool
is_state_value value = is_some (state_named (word_of value))

-- the number of a state, if there is one, is this one
abbrev pub is_state : ℕ → Option ℕ → Bool
is_state number None = false
is_state number (Some said) = said == number

-- a value is the state of the number
abbrev pub is_that_value : ℕ → Json → Bool
is_that_value number value = is_state number (state_named (word_of value))

-- the states of the right side: of a list after the tests of bits, and else of a set
abbrev pub state_values : Operator → Json → Option (List Json)
state_values operator.In right = Some (listed_values right)
state_values operator.NotIn right = Some (listed_values right)
state_values operator.Equal right = elements_of right
state_values operator.Unequal right = elements_of right

-- the connection has one of the states, or a cause where that isn't known
abbrev pub state_met : List ℕ → List Json → Result Bool RuleKind
state_met assumed values =
    if list_all is_state_value values
    then (or_cause kind.NeedsState (assumed_state assumed) >>= λ number.
    Ok (list_any (is_that_value number) values))
    else Err kind.CantSay

-- ---- all of them

-- a comparison with the right side is true, or a cause where that isn't known: of an interface that
-- packets don't have at the hook the kernel's versions say different things, and a state that isn't
-- known yet is one of another connection
abbrev pub is_met : Question → Fact → Operator → Json → Result Bool RuleKind
is_met question fact.Nfproto compares right =
    or_cant (option_map (is_of question.asked.family) (option_and_then is_ip4 (as_str right)))
is_met question (fact.Interface which manner) compares right =
    if knows_way question.begin which
    then (or_cant (elements_of right) >>= interface_met question.assumed which manner)
    else Err kind.HookInterface
is_met question fact.State compares right =
    if knows_state question.begin
    then (or_cant (state_values compares right) >>= state_met question.assumed)
    else Err kind.HookState

-- what is compared is known of packets of the chain that is asked for
abbrev pub is_known : Option Base → Fact → Bool
is_known begin fact.Nfproto = true
is_known begin (fact.Interface which manner) = knows_way begin which
is_known begin fact.State = knows_state begin
