-- What is assumed of packets beside their bytes, as `assume=` of tools/convert has it: parts
-- between commas, each a key, `=` and a value. The first part of a key counts; `local` may come
-- several times.
use Rattle.std.specs.Prelude.{ℕ, ◌==◌, Bool, true, false, not, ◌&&◌, ◌||◌, nat_le, is_some}
use Rattle.std.specs.Prelude.{if◌then◌else◌, codes, List, [], ◌∷◌, ◌++◌, length, take, Option, Some, None}
use Rattle.std.specs.List.{list_any}
use Rattle.std.specs.Option.{option_to_list}
use Rattle.std.specs.Str.{bytes_eq}
use Rattle.field_defs.specs.declared.field.Family.{Family}
use Rattle.field_defs.specs.declared.field.Family.TheVariants.{Ip4, Ip6}
use Rattle.text_scan.specs.Parts.{cut_at, parts_of, words_of}
use Rattle.list_packets.specs.declared.values.AddressSpans.{AddressSpans}
use Rattle.list_packets.specs.Names.{number_in}
use Rattle.list_packets.specs.Values.{address_alone, comma, first_of, ip4_spans, ip6_spans}

-- ---- the text

-- the value of a part that is cut around `=`, if it has the key
abbrev pub value_of_cut : List ℕ → Option (List ℕ × List ℕ) → Option (List ℕ)
value_of_cut key None = None
value_of_cut key (Some cut) = if bytes_eq cut.0 key then Some cut.1 else None

-- the value of a part, if it has the key; 61 is `=`
abbrev pub value_said : List ℕ → List ℕ → Option (List ℕ)
value_said key part = value_of_cut key (cut_at 61 part)

-- the value of the first part that has the key
abbrev pub value_in : List ℕ → List (List ℕ) → Option (List ℕ)
value_in key [] = None
value_in key (part ∷ parts) = first_of (value_said key part) (value_in key parts)

-- ---- interfaces

-- a text may stand in the name of an interface; 47 is `/`, and 34 is `"`
abbrev pub is_name : List ℕ → Bool
is_name text =
    nat_le (length text) 15 && not (list_any (λ c. c == 47) text)
    && not (list_any (λ c. c == 34) text)

-- what stands before the wildcard names all interfaces that begin so
abbrev pub is_interface_cut : List ℕ → Option (List ℕ × List ℕ) → Bool
is_interface_cut word None = is_name word
is_interface_cut word (Some cut) = length cut.1 == 0 && is_name cut.0

-- a word names interfaces, whose wildcard is a byte
abbrev pub is_interface : ℕ → List ℕ → Bool
is_interface wildcard word = is_interface_cut word (cut_at wildcard word)

-- a name begins so
abbrev pub has_beginning : List ℕ → List ℕ → Bool
has_beginning name beginning =
    nat_le (length beginning) (length name) && bytes_eq (take (length beginning) name) beginning

-- the interface of a name is one of those that a word names, which is cut around the wildcard
abbrev pub meets_cut : List ℕ → List ℕ → Option (List ℕ × List ℕ) → Bool
meets_cut word name None = bytes_eq word name
meets_cut word name (Some cut) = has_beginning name cut.0

-- the same of a word
abbrev pub meets_interface : ℕ → List ℕ → List ℕ → Bool
meets_interface wildcard word name = meets_cut word name (cut_at wildcard word)

-- ---- states of connections

-- the states that can be assumed, with their numbers
unfoldable pub assumed_state_table : List ℕ
assumed_state_table = codes "invalid=1 new=2 established=3 related=4 untracked=5"

-- the number of a state by its name in an assumption
abbrev pub state_named : List ℕ → Option ℕ
state_named name = number_in name (words_of assumed_state_table)

-- the state that a value spells
abbrev pub state_of_value : Option (List ℕ) → Option ℕ
state_of_value None = None
state_of_value (Some value) = state_named value

-- the state of a text
abbrev pub assumed_state : List ℕ → Option ℕ
assumed_state assumed = state_of_value (value_in (codes "state") (parts_of comma assumed))

-- ---- local addresses

-- local addresses are assumed
abbrev pub knows_local : List ℕ → Bool
knows_local assumed = is_some (value_in (codes "local") (parts_of comma assumed))

-- the addresses that are local in any machine: 127.0.0.0/8 and ::1
abbrev pub loopback : Family → AddressSpans
loopback Ip4 = ip4_spans 2130706432 8
loopback Ip6 = ip6_spans 1 128

-- the address of a value, if it is one of the family
abbrev pub local_of_value : Family → Option (List ℕ) → Option AddressSpans
local_of_value family None = None
local_of_value family (Some text) = address_alone family text

-- the local address of a part, if it has one of the family
abbrev pub local_said : Family → List ℕ → Option AddressSpans
local_said family part = local_of_value family (value_said (codes "local") part)

-- those of parts
abbrev pub locals_in : Family → List (List ℕ) → List AddressSpans
locals_in family [] = []
locals_in family (part ∷ parts) = option_to_list (local_said family part) ++ locals_in family parts

-- ---- lawful texts

-- a value is there, and has a byte
abbrev pub is_filled : Option (List ℕ) → Bool
is_filled None = false
is_filled (Some value) = not (length value == 0)

-- a part assumes an interface under a key
abbrev pub assumes_interface : List ℕ → List ℕ → Bool
assumes_interface key part = is_filled (value_said key part)

-- a part assumes a state
abbrev pub assumes_state : List ℕ → Bool
assumes_state part = is_some (state_of_value (value_said (codes "state") part))

-- a part assumes something
abbrev pub is_assumed : List ℕ → Bool
is_assumed part =
    assumes_interface (codes "in") part || assumes_interface (codes "out") part
    || assumes_state part
    || is_some (local_said Ip4 part) || is_some (local_said Ip6 part)

-- all parts do
abbrev pub are_assumptions : List (List ℕ) → Bool
are_assumptions [] = true
are_assumptions (part ∷ parts) = is_assumed part && are_assumptions parts

-- a key comes more than once
abbrev pub is_repeated : List ℕ → List (List ℕ) → Bool
is_repeated key [] = false
is_repeated key (part ∷ parts) =
    if is_some (value_said key part) then is_some (value_in key parts) else is_repeated key parts

-- a key comes more than once that may come once
abbrev pub has_repetition : List ℕ → Bool
has_repetition text =
    is_repeated (codes "in") (parts_of comma text)
    || is_repeated (codes "out") (parts_of comma text)
    || is_repeated (codes "state") (parts_of comma text)

-- a text says what is assumed: it is empty, or all its parts do
abbrev pub is_assumption : List ℕ → Bool
is_assumption text =
    length text == 0 || are_assumptions (parts_of comma text) && not (has_repetition text)
