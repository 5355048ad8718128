-- Services: protocols with their ports, as entries and members of groups of services name them
-- (Cisco IOS Security Command Reference, "permit (IP)", operator, port and protocol, and
-- "object-group service"; "Object Groups for ACLs"). A protocol has a name or a number, and `ip`
-- stands for all of them. Ports stand after `eq` and `neq` (up to 10), `gt`, `lt` and `range`. A
-- member has a protocol or `tcp-udp`, then `source` and the ports of the source, and then those of
-- the destination. One port stands after a comparison or alone, and two after `range`.
use Rattle.std.specs.Prelude.{ℕ, ◌==◌, Bool, true, false, not, ◌&&◌, ◌||◌, is_some, nat_lt, if◌then◌else◌, codes}
use Rattle.std.specs.Prelude.{List, [], ◌∷◌, Option, Some, None, Result, Ok, Err}
use Rattle.std.specs.Str.{bytes_eq}
use Rattle.list_chains.specs.declared.span.Span.{Span}
use Rattle.cisco_reader.specs.declared.services.Operator.{Operator}
use Rattle.cisco_reader.specs.declared.services.Operator.TheVariants as operator
use Rattle.cisco_reader.specs.declared.services.PortPart.{PortPart}
use Rattle.cisco_reader.specs.declared.services.Protocols.{Protocols}
use Rattle.cisco_reader.specs.declared.services.Protocols.TheVariants.{Between, TcpUdp}
use Rattle.cisco_reader.specs.declared.services.Service.{Service}
use Rattle.cisco_reader.specs.declared.fault.LineKind.{LineKind}
use Rattle.cisco_reader.specs.declared.fault.LineKind.TheVariants as kind
use Rattle.cisco_reader.specs.Names.{max_protocol, port_of, protocol_of}
use Rattle.cisco_reader.specs.PortList.{listed, ports_above, ports_below, ports_between}
use Rattle.cisco_reader.specs.Read.{After, ◌>>=◌, ◌>>-◌, alone, done, found, is_end, is_next, one_word, required, rest_of}

-- ---- ports

-- the comparison that a word names
abbrev pub operator_named : List ℕ → Option Operator
operator_named word =
    if bytes_eq word (codes "eq") then Some operator.Equal
    else (if bytes_eq word (codes "neq") then Some operator.NotEqual
    else (if bytes_eq word (codes "gt") then Some operator.Greater
    else (if bytes_eq word (codes "lt") then Some operator.Less
    else (if bytes_eq word (codes "range") then Some operator.Range else None))))

-- the port that a word is
abbrev pub port_word : List ℕ → Result ℕ LineKind
port_word word = found kind.BadPort (port_of word)

-- the port that comes next
abbrev pub next_port : List (List ℕ) → Result (After ℕ) LineKind
next_port = one_word port_word

-- what stands after eq and neq: some ports, or in a group one
abbrev pub equals : Bool → List (List ℕ) → Result (After (List Span)) LineKind
equals true words = next_port words >>- λ port rest. done (ports_between port port) rest
equals false words = listed [] words

-- what stands after a comparison, in a group or in an entry
abbrev pub compared : Bool → Operator → List (List ℕ) → Result (After (List Span)) LineKind
compared once operator.Equal words = equals once words
compared once operator.NotEqual words = equals once words
compared once operator.Greater words = next_port words >>- λ port rest. done (ports_above port) rest
compared once operator.Less words = next_port words >>- λ port rest. done (ports_below port) rest
compared once operator.Range words = next_port words >>- λ low rest.
    (next_port rest >>- λ high left. (if nat_lt high low then Err kind.BadPort
    else done (ports_between low high) left))

-- the ports are left out after neq
abbrev pub is_negated : Operator → Bool
is_negated operator.Equal = false
is_negated operator.NotEqual = true
is_negated operator.Greater = false
is_negated operator.Less = false
is_negated operator.Range = false

-- the ports after a comparison, with what it is
abbrev pub with_operator : Bool → Operator → List (List ℕ)
    → Result (After (Option PortPart)) LineKind
with_operator once it words = compared once it words >>- λ ports rest.
    done (Some (record { negated = is_negated it; ports = ports })) rest

-- the comparison that may stand next
abbrev pub next_operator : List (List ℕ) → Option Operator
next_operator [] = None
next_operator (word ∷ words) = operator_named word

-- and the words after it
abbrev pub after_operator : List (List ℕ) → List (List ℕ)
after_operator words = if is_some (next_operator words) then rest_of words else words

-- a comparison may stand there, or none
abbrev pub or_none : List (List ℕ) → Option Operator → Result (After (Option PortPart)) LineKind
or_none words None = done None words
or_none words (Some it) = with_operator false it (rest_of words)

-- the ports that are compared after an address, if any are
abbrev pub port_part : List (List ℕ) → Result (After (Option PortPart)) LineKind
port_part words = or_none words (next_operator words)

-- ---- protocols

-- all protocols
abbrev pub any_protocol : Span
any_protocol = record { low = 0; high = max_protocol }

-- the protocols that a word stands for
abbrev pub protocols_of : List ℕ → Result Span LineKind
protocols_of word =
    if bytes_eq word (codes "ip") then Ok any_protocol
    else (found kind.BadProtocol (protocol_of word) >>= λ number.
    (if number == 0 then Err kind.ZeroProtocol else Ok (record { low = number; high = number })))

-- some protocols are the one of this number alone
abbrev pub is_one : ℕ → Span → Bool
is_one number span = span.low == number && span.high == number

-- the protocol has types of messages: ICMP of IPv4 or of IPv6
abbrev pub has_types : Span → Bool
has_types span = is_one 1 span || is_one 58 span

-- the protocol has ports that keys have: TCP, UDP or SCTP
abbrev pub has_ports : Span → Bool
has_ports span = is_one 6 span || (is_one 17 span || is_one 132 span)

-- the protocols of a service, span by span
abbrev pub protocol_spans : Protocols → List Span
protocol_spans (Between span) = span ∷ []
protocol_spans TcpUdp = record { low = 6; high = 6 } ∷ record { low = 17; high = 17 } ∷ []

-- they have types of messages
abbrev pub have_types : Protocols → Bool
have_types (Between span) = has_types span
have_types TcpUdp = false

-- they have ports
abbrev pub have_ports : Protocols → Bool
have_ports (Between span) = has_ports span
have_ports TcpUdp = true

-- ports are compared on a side
abbrev pub are_compared : Option PortPart → Option PortPart → Bool
are_compared source destination = is_some source || is_some destination

-- a service: ports need protocols that have some
abbrev pub service_of : Protocols → Option PortPart → Option PortPart → Result Service LineKind
service_of protocols source destination =
    if are_compared source destination && not (have_ports protocols) then Err kind.NeedsProtocol
    else Ok (record { protocols = protocols; source = source; destination = destination })

-- ---- members

-- a comparison with its ports, or the port that the word is
abbrev pub or_alone : List ℕ → List (List ℕ) → Option Operator
    → Result (After (Option PortPart)) LineKind
or_alone word words None = port_word word >>= λ port.
    done (Some (record { negated = false; ports = ports_between port port })) words
or_alone word words (Some it) = with_operator true it words

-- ports that have to stand there
abbrev pub some_ports : List (List ℕ) → Result (After (Option PortPart)) LineKind
some_ports words = required words >>- λ word rest. or_alone word rest (operator_named word)

-- the ports of the source stand after `source`
abbrev pub source_ports : List (List ℕ) → Result (After (Option PortPart)) LineKind
source_ports words =
    if is_next (codes "source") words then some_ports (rest_of words) else done None words

-- the ports of the destination, after which nothing stands
abbrev pub destination_ports : List (List ℕ) → Result (Option PortPart) LineKind
destination_ports words =
    if is_end words then Ok None else (some_ports words >>- λ ports rest. alone rest ports)

-- the protocols that a word stands for
abbrev pub member_protocols : List ℕ → Result Protocols LineKind
member_protocols word =
    if bytes_eq word (codes "tcp-udp") then Ok TcpUdp
    else (protocols_of word >>= λ span. Ok (Between span))

-- the service of a member: of protocols with types of messages no word may follow
abbrev pub service_of_words : List (List ℕ) → Result Service LineKind
service_of_words words = required words >>- λ word rest. (member_protocols word >>= λ protocols.
    (if not (is_end rest) && have_types protocols then Err kind.IcmpType
    else (source_ports rest >>- λ source left.
    (destination_ports left >>= service_of protocols source))))
