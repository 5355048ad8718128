-- An entry of an extended list after `permit` or `deny` (Cisco IOS Security Command Reference,
-- "permit (IP)"): a protocol or a group of services, the source with its ports, the destination
-- with its ports, and `log` or `log-input` with at most one word. Beside a group no ports stand.
use Rattle.std.specs.Prelude.{ℕ, not, ◌||◌, nat_lt, if◌then◌else◌, codes}
use Rattle.std.specs.Prelude.{List, [], ◌∷◌, Option, Some, None, Result, Ok, Err}
use Rattle.std.specs.Str.{bytes_eq}
use Rattle.list_chains.specs.declared.span.Span.{Span}
use Rattle.cisco_reader.specs.declared.entry.Addresses.{Addresses}
use Rattle.cisco_reader.specs.declared.entry.Addresses.TheVariants as addresses
use Rattle.cisco_reader.specs.declared.entry.Carried.{Carried}
use Rattle.cisco_reader.specs.declared.entry.Carried.TheVariants as carried
use Rattle.cisco_reader.specs.declared.entry.Services.{Services}
use Rattle.cisco_reader.specs.declared.entry.Services.TheVariants as services
use Rattle.cisco_reader.specs.declared.entry.Verdict.{Verdict}
use Rattle.cisco_reader.specs.declared.entry.Side.{Side}
use Rattle.cisco_reader.specs.declared.entry.Entry.{Entry}
use Rattle.cisco_reader.specs.declared.names.Known.TheVariants.{Compared, Log}
use Rattle.cisco_reader.specs.declared.services.PortPart.{PortPart}
use Rattle.cisco_reader.specs.declared.services.Protocols.TheVariants.{Between}
use Rattle.cisco_reader.specs.declared.fault.LineKind.{LineKind}
use Rattle.cisco_reader.specs.declared.fault.LineKind.TheVariants.{BadAddress, BadMask, Compares, Group}
use Rattle.cisco_reader.specs.declared.fault.LineKind.TheVariants.{IcmpType, UnknownWord}
use Rattle.cisco_reader.specs.Groups.{ListedGroup, place_for}
use Rattle.cisco_reader.specs.Services.{port_part}
use Rattle.cisco_reader.specs.Read.{After, ◌>>=◌, ◌>>-◌, done, found, is_end, one_word, required}
use Rattle.cisco_reader.specs.Services.{any_protocol, are_compared, has_types, protocols_of, service_of}
use Rattle.cisco_reader.specs.Wildcard.{gaps, ip4_plain, under_mask}
use Rattle.cisco_reader.specs.Names.{is_known}
unfoldable pub use Rattle.cisco_reader.specs.Names.{log_words}

-- the greatest IPv4 address
abbrev pub all_ones : ℕ
all_ones = 4294967295

-- how many gaps a wildcard mask may have
abbrev pub max_gaps : ℕ
max_gaps = 8

-- the address that a word is; another one has the fault
abbrev pub address_in : LineKind → List ℕ → Result ℕ LineKind
address_in kind word = found kind (ip4_plain word)

-- the address that comes next
abbrev pub address_word : LineKind → List (List ℕ) → Result (After ℕ) LineKind
address_word kind = one_word (address_in kind)

-- the group of a kind that is named next
abbrev pub named_group : List ListedGroup → List ℕ → List (List ℕ) → Result (After ℕ) LineKind
named_group groups kind = one_word (place_for groups kind)

-- an address with its wildcard mask, which has few gaps
abbrev pub masked : List ℕ → List (List ℕ) → Result (After Addresses) LineKind
masked word words = found BadAddress (ip4_plain word) >>= λ address.
    (address_word BadMask words >>- λ mask rest. (if nat_lt max_gaps (gaps 32 mask) then Err BadMask
    else done (addresses.Under (under_mask address mask)) rest))

-- what stands for addresses: all of them, one, those of a group, or those under a mask
abbrev pub addresses_of : List ListedGroup → List (List ℕ) → Result (After Addresses) LineKind
addresses_of groups words = required words >>- λ word rest.
    (if bytes_eq word (codes "any")
    then done (addresses.Under (record { base = 0; free = all_ones })) rest
    else (if bytes_eq word (codes "host")
    then (address_word BadAddress rest >>- λ address left.
    done (addresses.Under (record { base = address; free = 0 })) left)
    else (if bytes_eq word (codes "object-group")
    then (named_group groups (codes "network") rest >>- λ place left.
    done (addresses.Group place) left)
    else masked word rest)))

-- a side of an entry: addresses, and ports where any are compared
abbrev pub side_of : List ListedGroup → List (List ℕ) → Result (After Side) LineKind
side_of groups words = addresses_of groups words >>- λ near rest.
    (port_part rest >>- λ ports left. done (record { addresses = near; ports = ports }) left)

-- what stands for protocols: those of a word, or a group of services
abbrev pub carried_of : List ListedGroup → List (List ℕ) → Result (After Carried) LineKind
carried_of groups words = required words >>- λ word rest.
    (if bytes_eq word (codes "object-group")
    then (named_group groups (codes "service") rest >>- λ place left.
    done (carried.Group place) left)
    else (protocols_of word >>= λ span. done (carried.Protocol span) rest))

-- the protocols that options after the addresses may be about: of a group all of them
abbrev pub protocols_in : Carried → Span
protocols_in (carried.Protocol span) = span
protocols_in (carried.Group place) = any_protocol

-- why a word after the addresses isn't read
abbrev pub option_fault : Span → List ℕ → LineKind
option_fault span word =
    if is_known Compared word then Compares else (if has_types span then IcmpType else UnknownWord)

-- the fault of what stands after `log`, where one word may, which goes into the log; ICMP has types
-- that stand there too
abbrev pub log_fault : Span → List (List ℕ) → Option LineKind
log_fault span [] = None
log_fault span (word ∷ words) =
    if not (is_end words) || (is_known Compared word || has_types span)
    then Some (option_fault span word) else None

-- the fault of what stands after the addresses, if it isn't a log
abbrev pub options_fault : Span → List (List ℕ) → Option LineKind
options_fault span [] = None
options_fault span (word ∷ words) =
    if is_known Log word then log_fault span words else Some (option_fault span word)

-- what was read, if there is no fault
abbrev pub unless : {A : Type 0} → Option LineKind → Result A LineKind → Result A LineKind
unless None read = read
unless (Some kind) read = Err kind

-- the service of protocols with the ports of both sides, or the group of services without any
abbrev pub services_with : Carried → Option PortPart → Option PortPart → Result Services LineKind
services_with (carried.Protocol span) source destination =
    service_of (Between span) source destination >>= λ it. Ok (services.Own it)
services_with (carried.Group place) source destination =
    if are_compared source destination then Err Group else Ok (services.Group place)

-- an entry after its verdict: its parts from left to right, and then whether they fit
abbrev pub entry_of : List ListedGroup → Verdict → List (List ℕ) → Result Entry LineKind
entry_of groups verdict words = carried_of groups words >>- λ it first.
    (side_of groups first >>- λ source second. (side_of groups second >>- λ destination third.
    unless (options_fault (protocols_in it) third)
    (services_with it source.ports destination.ports >>= λ served. Ok (record {
      verdict = verdict;
      services = served;
      source = source.addresses;
      destination = destination.addresses;
    }))))
