-- The rules of entries over the fields of IPv4's layout: one for each box of packets that an entry
-- catches, but for those with a port after `neq`. An entry catches the packets of its protocol
-- whose source and destination have the addresses and the ports that it names (Cisco IOS Security
-- Command Reference, "permit (IP)"). One with a group of services catches those of each of them.
use Rattle.std.specs.Prelude.{ℕ, ◌-◌, ◌*◌, ◌^◌, ◌||◌, nat_lt, if◌then◌else◌, List, [], ◌∷◌, ◌++◌, length, map, flat_map}
use Rattle.std.specs.Prelude.{Bool, Option, Some, None, Result, Ok, Err, slice_set}
use Rattle.list_chains.specs.declared.span.Span.{Span}
use Rattle.list_chains.specs.declared.chain.Target.TheVariants.{Decide}
use Rattle.list_chains.specs.Chains.{ListRule}
use Rattle.cisco_reader.specs.declared.entry.Verdict.{Verdict}
use Rattle.cisco_reader.specs.declared.entry.Verdict.TheVariants as verdict
use Rattle.cisco_reader.specs.declared.list.Placed.{Placed}
use Rattle.cisco_reader.specs.declared.packets.Answers.{Answers}
use Rattle.cisco_reader.specs.declared.packets.Answers.TheVariants as answers
use Rattle.cisco_reader.specs.declared.services.PortPart.{PortPart}
use Rattle.cisco_reader.specs.declared.services.Service.{Service}
use Rattle.cisco_reader.specs.declared.fault.LineFault.{LineFault}
use Rattle.cisco_reader.specs.declared.fault.LineKind.TheVariants.{FileTooLong, LargeGroup}
use Rattle.cisco_reader.specs.Groups.{ListedGroup, groups_of}
use Rattle.cisco_reader.specs.Held.{address_spans, max_held, services_of}
use Rattle.cisco_reader.specs.Lines.{file_lines}
use Rattle.cisco_reader.specs.Lists.{entries_of}
use Rattle.cisco_reader.specs.Read.{◌>>=◌, all_after}
use Rattle.cisco_reader.specs.Services.{protocol_spans}

-- all numbers of so many bits
abbrev pub any : ℕ → Span
any bits = record { low = 0; high = 2 ^ bits - 1 }

-- all packets: the protocol, the source and the destination, and their ports, as in the layout
abbrev pub all_packets : List Span
all_packets = any 8 ∷ any 32 ∷ any 32 ∷ any 16 ∷ any 16 ∷ []

-- the boxes of those of a box's packets that have the numbers of each span in the field of a place
abbrev pub with_spans : ℕ → List Span → List Span → List (List Span)
with_spans place spans packets = map (slice_set packets place) spans

-- and so for each of some boxes, in their order
abbrev pub narrowed : ℕ → List Span → List (List Span) → List (List Span)
narrowed place spans boxes = flat_map (with_spans place spans) boxes

-- the ports that a comparison wants: all, where there is none or others are left out
abbrev pub kept_ports : Option PortPart → List Span
kept_ports None = any 16 ∷ []
kept_ports (Some part) = if part.negated then any 16 ∷ [] else part.ports

-- the ports that it leaves out
abbrev pub left_ports : Option PortPart → List Span
left_ports None = []
left_ports (Some part) = if part.negated then part.ports else []

-- the packets that a service leaves out of its own
abbrev pub left_out : Service → List (List Span)
left_out it =
    with_spans 3 (left_ports it.source) all_packets
    ++ with_spans 4 (left_ports it.destination) all_packets

-- what all rules of an entry have in common: the answer, and the addresses
pub record EntryPairs : Type 0 where
  pub answer : ℕ
  pub sources : List Span
  pub destinations : List Span

-- the packets of a service of an entry, by protocols first, then sources and destinations, then
-- source ports and destination ports
abbrev pub kept_of : EntryPairs → Service → List (List Span)
kept_of pairs it =
    narrowed 4 (kept_ports it.destination)
    (narrowed 3 (kept_ports it.source)
    (narrowed 2 pairs.destinations
    (narrowed 1 pairs.sources
    (with_spans 0 (protocol_spans it.protocols) all_packets))))

-- the rule of a box of packets, but for some others
abbrev pub rule_of : ℕ → List (List Span) → List Span → ListRule (List Span)
rule_of answer left packets =
    record { userdata = answer; inside = packets; but = left; target = Decide }

-- the rules of a service of an entry
abbrev pub service_rules : EntryPairs → Service → List (ListRule (List Span))
service_rules pairs it = map (rule_of pairs.answer (left_out it)) (kept_of pairs it)

-- the answer of an entry, by what is asked: its line, or 1 where it permits and 2 where it denies
abbrev pub answer_of : Answers → ℕ → Verdict → ℕ
answer_of answers.Line line said = line
answer_of answers.Verdict line verdict.Permit = 1
answer_of answers.Verdict line verdict.Deny = 2

-- there are too many pairs of addresses, or of those and services
abbrev pub are_many : EntryPairs → List Service → Bool
are_many pairs services =
    nat_lt max_held (length pairs.sources * length pairs.destinations)
    || nat_lt max_held (length pairs.sources * length pairs.destinations * length services)

-- the rules so far, and those of an entry of a line with these addresses, service by service, if
-- they aren't too many
abbrev pub with_paired : List (ListRule (List Span)) → ℕ → EntryPairs → List Service
    → Result (List (ListRule (List Span))) LineFault
with_paired so_far line pairs services =
    if are_many pairs services then Err (record { line = line; kind = LargeGroup })
    else Ok (so_far ++ flat_map (service_rules pairs) services)

-- the answer of an entry, with these addresses
abbrev pub pairs_of : Answers → Placed → List Span → List Span → EntryPairs
pairs_of asked it sources destinations = record {
  answer = answer_of asked it.line it.entry.verdict;
  sources = sources;
  destinations = destinations;
}

-- the rules so far, and those of an entry, with what its groups hold
abbrev pub with_rules : List ListedGroup → Answers → List (ListRule (List Span)) → Placed
    → Result (List (ListRule (List Span))) LineFault
with_rules groups asked so_far it = address_spans groups it.line it.entry.source >>= λ sources.
    (address_spans groups it.line it.entry.destination >>= λ destinations.
    (services_of groups it.line it.entry.services >>=
    with_paired so_far it.line (pairs_of asked it sources destinations)))

-- the rules of entries, or the fault of the first one that has some
abbrev pub all_rules : List ListedGroup → Answers → List Placed
    → Result (List (ListRule (List Span))) LineFault
all_rules groups asked entries = all_after (with_rules groups asked) [] entries

-- how many bytes a configuration may have
abbrev pub max_list : ℕ
max_list = 16777216

-- the rules of the list of a name in a configuration, in their order, or the first fault: of
-- texts, of the heads of groups, of lines, and then of the members that the list's entries need
abbrev pub list_of : Answers → List ℕ → List ℕ → Result (List (ListRule (List Span))) LineFault
list_of asked name bytes =
    if nat_lt max_list (length bytes) then Err (record { line = 0; kind = FileTooLong })
    else (file_lines bytes >>= λ lines. (groups_of lines.outside >>= λ groups.
    (entries_of groups name lines >>= all_rules groups asked)))
