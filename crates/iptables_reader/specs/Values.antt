-- Values of options as iptables-save prints them: protocols by name or number (iptables(8),
-- "PARAMETERS"), states of connections and lists of ports (iptables-extensions(8), "conntrack" and
-- "multiport"), and counters.
use Rattle.std.specs.Prelude.{ℕ, ◌-◌, ◌==◌, Bool, true, false, ◌&&◌, ◌||◌, is_some, nat_le, if◌then◌else◌}
use Rattle.std.specs.Prelude.{List, [], ◌∷◌, ◌++◌, length, Option, Some, None, Result, Ok, Err}
use Rattle.text_scan.specs.Parts.{colon, cut_at, parts_of, words_of}
use Rattle.list_chains.specs.declared.span.Span.{Span}
use Rattle.list_packets.specs.Names.{number_in}
use Rattle.list_packets.specs.Values.{closed_span, comma, first_of, max_count, max_protocol, plain_number}
use Rattle.iptables_reader.specs.declared.fault.LineKind.{LineKind}
use Rattle.iptables_reader.specs.declared.fault.LineKind.TheVariants.{BadPorts}
use Rattle.iptables_reader.specs.Stops.{◌>>=◌, taken}
use Rattle.iptables_reader.specs.Tables.{protocol_table, state_table}

-- the number of a protocol, by its name or its number
abbrev pub protocol_of : List ℕ → Option ℕ
protocol_of word =
    first_of (number_in word (words_of protocol_table)) (plain_number max_protocol word)

-- ---- states of connections

-- all parts are states
abbrev pub are_states : List (List ℕ) → Bool
are_states [] = true
are_states (part ∷ parts) = is_some (number_in part (words_of state_table)) && are_states parts

-- a word has the number, if it has one
abbrev pub is_number : ℕ → Option ℕ → Bool
is_number number None = false
is_number number (Some said) = said == number

-- a word is the state of a number
abbrev pub is_state_of : ℕ → List ℕ → Bool
is_state_of number word = is_number number (number_in word (words_of state_table))

-- one of the parts is the state of a number
abbrev pub has_state : ℕ → List (List ℕ) → Bool
has_state number [] = false
has_state number (part ∷ parts) = is_state_of number part || has_state number parts

-- ---- ports and ranges between commas, at most 15 ports, where a range counts twice

-- how many ports a list has at most
abbrev pub max_ports : ℕ
max_ports = 15

-- spans and that of one more part
abbrev pub with_part : List Span → List ℕ → Result (List Span) LineKind
with_part spans part = taken BadPorts (closed_span part) (λ span. spans ++ span ∷ [])

-- spans and those of further parts
abbrev pub with_parts : Result (List Span) LineKind → List (List ℕ) → Result (List Span) LineKind
with_parts spans [] = spans
with_parts spans (part ∷ parts) = with_parts (spans >>= λ found. with_part found part) parts

-- how many ports a part of a list has: a range has two
abbrev pub port_count : List ℕ → ℕ
port_count part = if is_some (cut_at colon part) then 2 else 1

-- parts have no more ports than there is room for
abbrev pub has_room : ℕ → List (List ℕ) → Bool
has_room room [] = true
has_room room (part ∷ parts) =
    nat_le (port_count part) room && has_room (room - port_count part) parts

-- the spans of a list
abbrev pub port_spans : List ℕ → Result (List Span) LineKind
port_spans word =
    if has_room max_ports (parts_of comma word) then with_parts (Ok []) (parts_of comma word)
    else Err BadPorts

-- ---- counters

-- `[` and a number; 91 is `[`
abbrev pub is_opened : List ℕ → Bool
is_opened [] = false
is_opened (c ∷ cs) = c == 91 && is_some (plain_number max_count cs)

-- a number and `]`, around which a text is cut
abbrev pub is_closed_cut : Option (List ℕ × List ℕ) → Bool
is_closed_cut None = false
is_closed_cut (Some cut) = length cut.1 == 0 && is_some (plain_number max_count cut.0)

-- a number and `]`; 93 is `]`
abbrev pub is_closed : List ℕ → Bool
is_closed text = is_closed_cut (cut_at 93 text)

-- both, around which a word is cut
abbrev pub are_counters_cut : Option (List ℕ × List ℕ) → Bool
are_counters_cut None = false
are_counters_cut (Some cut) = is_opened cut.0 && is_closed cut.1

-- counters of packets and bytes, as `[0:0]`
abbrev pub is_counters : List ℕ → Bool
is_counters word = are_counters_cut (cut_at colon word)
