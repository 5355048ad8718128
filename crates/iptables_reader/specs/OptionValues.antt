-- The values of options, which a rule takes up (iptables(8), "PARAMETERS"; iptables-extensions(8),
-- by the names of matches and targets). Each option says of packets that they lie in some boxes, or
-- after `!` in none of them.
use Rattle.std.specs.Prelude.{ℕ, ◌==◌, Bool, true, false, not, ◌&&◌, ◌||◌, if◌then◌else◌, codes, bit_and}
use Rattle.std.specs.Prelude.{List, [], ◌∷◌, ◌++◌, map, is_some, Option, Some, None, Result, Ok, Err}
use Rattle.std.specs.Option.{option_map}
use Rattle.std.specs.Str.{bytes_eq}
use Rattle.text_scan.specs.Parts.{parts_of}
use Rattle.field_defs.specs.declared.field.Family.{Family}
use Rattle.field_defs.specs.declared.field.Family.TheVariants as family
use Rattle.list_chains.specs.declared.span.Span.{Span}
use Rattle.list_packets.specs.declared.address_sets.AddressSet.{AddressSet}
use Rattle.list_packets.specs.declared.address_sets.AddressSet.TheVariants as set
use Rattle.list_packets.specs.declared.packets.End.{End}
use Rattle.list_packets.specs.declared.packets.End.TheVariants as end
use Rattle.list_packets.specs.declared.packets.Field.{Field}
use Rattle.list_packets.specs.declared.packets.Field.TheVariants as field
use Rattle.list_packets.specs.declared.packets.Packets.{Packets}
use Rattle.list_packets.specs.declared.values.AddressSpans.{AddressSpans}
use Rattle.list_packets.specs.AddressSets.{set_spans}
use Rattle.list_packets.specs.Assumed.{assumed_state, is_interface, knows_local, meets_interface, value_in}
use Rattle.list_packets.specs.Packets.{all_packets, with_boxes, with_end, with_span}
use Rattle.list_packets.specs.Values.{comma, first_of, has_ports, max_port, network_of, port_span, protocol_span, range_of}
use Rattle.iptables_reader.specs.declared.fault.LineKind.{LineKind}
use Rattle.iptables_reader.specs.declared.fault.LineKind.TheVariants as fault
use Rattle.iptables_reader.specs.declared.options.Match.{Match}
use Rattle.iptables_reader.specs.declared.options.Match.TheVariants as kind
use Rattle.iptables_reader.specs.declared.options.RuleOption.{RuleOption}
use Rattle.iptables_reader.specs.declared.options.RuleOption.TheVariants as option
use Rattle.iptables_reader.specs.declared.options.Verdict.{Verdict}
use Rattle.iptables_reader.specs.declared.options.Verdict.TheVariants as verdict
use Rattle.iptables_reader.specs.declared.reading.Act.{Act}
use Rattle.iptables_reader.specs.declared.reading.Act.TheVariants as act
use Rattle.iptables_reader.specs.declared.reading.Reading.{Reading}
use Rattle.iptables_reader.specs.declared.reading.Rows.{Rows}
use Rattle.iptables_reader.specs.declared.reading.Rows.TheVariants as rows
use Rattle.iptables_reader.specs.Chains.{RuleSetting, place_of}
use Rattle.iptables_reader.specs.Options.{match_named, verdict_named}
use Rattle.iptables_reader.specs.Stops.{◌>>=◌, taken}
use Rattle.iptables_reader.specs.Tables.{answer_table, match_table, owner_in, target_in}
use Rattle.iptables_reader.specs.Values.{are_states, has_state, port_spans, protocol_of}

-- a value, which may stand after `!`
pub record OptionValue : Type 0 where
  pub negated : Bool
  pub word : List ℕ

-- what is said, unless something is at fault
abbrev pub unless : {A : Type 0} → Bool → LineKind → Result A LineKind → Result A LineKind
unless faulty kind said = if faulty then Err kind else said

-- a cause why no rule file says the rule, if none came before
abbrev pub with_cause : LineKind → Reading → Reading
with_cause kind reading = record reading { cause = first_of reading.cause (Some kind) }

-- the packets of some boxes, or after `!` all others
abbrev pub with_packets : Bool → List Packets → Reading → Reading
with_packets negated boxes reading =
    record reading { caught = with_boxes negated boxes reading.caught }

-- ---- addresses

-- packets that come from a set of addresses, or go to it
abbrev pub with_set : RuleSetting → Bool → Reading → End → AddressSet → Result Reading LineKind
with_set setting negated reading which addresses = Ok (with_packets negated
    (map (with_end (all_packets setting.family) which)
    (set_spans setting.family setting.assumed addresses)) reading)

-- a network has all addresses of the family
abbrev pub is_whole : Family → AddressSpans → Bool
is_whole family.Ip4 spans = spans.low.low == 0 && spans.low.high == 4294967295
is_whole family.Ip6 spans = spans.high.low == 0 && spans.high.high == 18446744073709551615

-- a network; after `!` it doesn't have all addresses
abbrev pub with_network : RuleSetting → Reading → End → OptionValue → Result Reading LineKind
with_network setting reading which value =
    taken fault.BadAddress (network_of setting.family value.word) (λ spans. spans) >>= λ spans.
    unless (value.negated && is_whole setting.family spans) fault.BadAddress
    (with_set setting value.negated reading which (set.Network spans))

-- addresses from one to another
abbrev pub with_range : RuleSetting → Reading → End → OptionValue → Result Reading LineKind
with_range setting reading which value =
    taken fault.BadAddress (range_of setting.family value.word) (λ range. range) >>= λ range.
    with_set setting value.negated reading which (set.Range range)

-- the addresses of groups
abbrev pub multicast : Family → AddressSet
multicast family.Ip4 = set.Multicast
multicast family.Ip6 = set.Unsaid

-- the addresses of a type: LOCAL is what is assumed, and MULTICAST is 224.0.0.0/4
abbrev pub set_of_type : Family → List ℕ → AddressSet
set_of_type family word =
    if bytes_eq word (codes "LOCAL") then set.Local
    else (if bytes_eq word (codes "MULTICAST") then multicast family else set.Unsaid)

-- why no rule file says which addresses are meant, if none does
abbrev pub set_cause : List ℕ → AddressSet → Option LineKind
set_cause assumed (set.Network spans) = None
set_cause assumed (set.Range range) = None
set_cause assumed set.Multicast = None
set_cause assumed set.Local = if knows_local assumed then None else Some fault.NeedsLocal
set_cause assumed set.Unsaid = Some fault.CantSay

-- a cause, if there is one
abbrev pub with_some_cause : Option LineKind → Reading → Reading
with_some_cause None reading = reading
with_some_cause (Some kind) reading = with_cause kind reading

-- addresses of a type
abbrev pub with_type : RuleSetting → Reading → End → OptionValue → Result Reading LineKind
with_type setting reading which value =
    let addresses = set_of_type setting.family value.word in
    with_set setting value.negated (with_some_cause (set_cause setting.assumed addresses) reading)
    which addresses

-- ---- protocols and ports

-- the field of the ports of an end
abbrev pub ports_at : End → Field
ports_at end.Source = field.SourcePorts
ports_at end.Destination = field.DestinationPorts

-- a span has all ports
abbrev pub are_all : Span → Bool
are_all span = span.low == 0 && span.high == max_port

-- ports, of which a protocol that has some stands before; after `!` they aren't all
abbrev pub with_ports : RuleSetting → Reading → End → OptionValue → Result Reading LineKind
with_ports setting reading which value =
    unless (not (has_ports reading.known)) fault.NeedsProtocol
    (taken fault.BadPorts (port_span value.word) (λ span. span) >>= λ span.
    unless (value.negated && are_all span) fault.BadPorts
    (Ok (with_packets value.negated
    (with_span (all_packets setting.family) (ports_at which) span ∷ []) reading)))

-- the boxes of the packets that have a port of a list at an end, or at any of the two
abbrev pub listed : Packets → Option End → List Span → List Packets
listed all (Some which) ports = map (with_span all (ports_at which)) ports
listed all None ports =
    map (with_span all field.SourcePorts) ports ++ map (with_span all field.DestinationPorts) ports

-- a list of ports
abbrev pub with_list : RuleSetting → Reading → Option End → OptionValue → Result Reading LineKind
with_list setting reading which value = port_spans value.word >>= λ ports.
    Ok (with_packets value.negated (listed (all_packets setting.family) which ports) reading)

-- a protocol; that of a rule without `!` is known, and after `!` it isn't that of all
abbrev pub with_protocol : RuleSetting → Reading → OptionValue → Result Reading LineKind
with_protocol setting reading value =
    taken fault.BadProtocol (protocol_of value.word) (λ number. number) >>= λ number.
    unless (value.negated && number == 0) fault.BadProtocol
    (Ok (with_packets value.negated
    (with_span (all_packets setting.family) field.Protocol (protocol_span number) ∷ [])
    (record reading { known = if value.negated then 0 else number })))

-- ---- what is assumed

-- what all packets have or none, or a cause where that isn't assumed; `!` turns it
abbrev pub with_met : Bool → Option Bool → LineKind → Reading → Reading
with_met negated None kind reading = with_cause kind reading
with_met negated (Some met) kind reading =
    record reading { never = reading.never || (if negated then met else not met) }

-- packets of OUTPUT and POSTROUTING come by no interface, and those of PREROUTING and INPUT leave
-- by none that is known there
abbrev pub lacks_interface : List ℕ → End → Bool
lacks_interface chain end.Source =
    bytes_eq chain (codes "OUTPUT") || bytes_eq chain (codes "POSTROUTING")
lacks_interface chain end.Destination =
    bytes_eq chain (codes "INPUT") || bytes_eq chain (codes "PREROUTING")

-- `+` stands at the end of a name for whatever follows there
abbrev pub plus : ℕ
plus = 43

-- the key of an interface among what is assumed
abbrev pub interface_key : End → List ℕ
interface_key end.Source = codes "in"
interface_key end.Destination = codes "out"

-- packets have one of the interfaces, if it is known
abbrev pub interface_met : List ℕ → End → List ℕ → Option Bool
interface_met assumed which word =
    option_map (meets_interface plus word)
    (value_in (interface_key which) (parts_of comma assumed))

-- an interface is assumed that packets of a chain lack
abbrev pub assumes_lacking : List ℕ → List ℕ → End → Bool
assumes_lacking name assumed which =
    lacks_interface name which
    && is_some (value_in (interface_key which) (parts_of comma assumed))

-- an interface
abbrev pub with_interface : RuleSetting → Reading → End → OptionValue → Result Reading LineKind
with_interface setting reading which value =
    unless (lacks_interface setting.chain which || not (is_interface plus value.word))
    fault.BadInterface
    (Ok (with_met value.negated (interface_met setting.assumed which value.word)
    fault.NeedsInterface reading))

-- the number of the states of connections whose addresses are changed
abbrev pub changed_state : ℕ
changed_state = 6

-- connections have one of the states, if it is known
abbrev pub state_met : List ℕ → List ℕ → Option Bool
state_met assumed word =
    option_map (λ number. has_state number (parts_of comma word)) (assumed_state assumed)

-- a word lists states that the match knows
abbrev pub are_known : Bool → List ℕ → Bool
are_known changed word =
    are_states (parts_of comma word)
    && (changed || not (has_state changed_state (parts_of comma word)))

-- states of a connection
abbrev pub with_states : RuleSetting → Reading → Bool → OptionValue → Result Reading LineKind
with_states setting reading changed value =
    unless (not (are_known changed value.word)) fault.BadState
    (Ok (if has_state changed_state (parts_of comma value.word)
    then with_cause fault.CantSay reading
    else with_met value.negated (state_met setting.assumed value.word) fault.NeedsState reading))

-- a type of messages: any, or no rule file says it
abbrev pub with_message : Reading → OptionValue → Reading
with_message reading value =
    with_met value.negated (if bytes_eq value.word (codes "any") then Some true else None)
    fault.CantSay reading

-- ---- matches

-- the protocol of the messages of a family: ICMP
abbrev pub messages_of : Family → ℕ
messages_of family.Ip4 = 1
messages_of family.Ip6 = 58

-- an option of the match has to come next
abbrev pub with_own : Reading → Reading
with_own reading = record reading { own = true }

-- the match of a protocol: that which is known, and once
abbrev pub with_matched : ℕ → Reading → Result Reading LineKind
with_matched number reading =
    unless (not (reading.known == number) || reading.matched) fault.BadMatch
    (Ok (record reading { matched = true }))

-- what a match needs before it; its option comes right after it, unless it may stand alone
abbrev pub with_needs : Family → Reading → Match → Result Reading LineKind
with_needs family reading (kind.Protocol number) = with_matched number reading
with_needs family reading (kind.Messages number) =
    unless (not (number == messages_of family)) fault.BadMatch
    (with_matched number (with_own reading))
with_needs family reading kind.Ports =
    unless (not (has_ports reading.known)) fault.NeedsProtocol (Ok (with_own reading))
with_needs family reading kind.Comment = Ok (with_own reading)
with_needs family reading kind.Range = Ok (with_own reading)
with_needs family reading kind.Connection = Ok (with_own reading)
with_needs family reading kind.State = Ok (with_own reading)
with_needs family reading kind.Type = Ok (with_own reading)

-- a match that is read, or one that no rule file says
abbrev pub with_kind : Family → Reading → Option Match → Result Reading LineKind
with_kind family reading None = Ok (with_cause fault.CantSay reading)
with_kind family reading (Some named) = with_needs family reading named

-- the bits of the options of any rule, which come once, however many matches are named: up to 256
abbrev pub any_options : ℕ
any_options = 511

-- a match by its name: its options may come again
abbrev pub with_match : RuleSetting → Reading → List ℕ → Result Reading LineKind
with_match setting reading word =
    taken fault.BadMatch (owner_in word match_table) (λ place. place) >>= λ place.
    with_kind setting.family (record reading {
      rows = rows.Match place;
      given = bit_and reading.given any_options;
      kind = match_named word;
    }) (match_named word)

-- ---- targets

-- what the rule does, and the options of its target
abbrev pub with_act : Act → Rows → Reading → Reading
with_act does table reading = record reading { act = Some does; rows = table; kind = None }

-- the place of a chain that rules may lead to
abbrev pub led_place : RuleSetting → List ℕ → Result ℕ LineKind
led_place setting name = taken fault.BadTarget (place_of true name setting.chains) (λ place. place)

-- a target that is no verdict: one that passes packets on, or a chain
abbrev pub with_other_jump : RuleSetting → Reading → List ℕ → Option ℕ → Result Reading LineKind
with_other_jump setting reading word (Some place) =
    Ok (with_act act.Pass (rows.Target place) reading)
with_other_jump setting reading word None = led_place setting word >>= λ place.
    Ok (with_act (act.Jump place) rows.Nothing reading)

-- a target: a verdict, or another
abbrev pub with_named_jump : RuleSetting → Reading → List ℕ → Option Verdict →
    Result Reading LineKind
with_named_jump setting reading word (Some said) =
    Ok (with_act (act.Decide said) rows.Nothing reading)
with_named_jump setting reading word None =
    with_other_jump setting reading word (target_in setting.table word)

-- a target, by its name
abbrev pub with_jump : RuleSetting → Reading → List ℕ → Result Reading LineKind
with_jump setting reading word = with_named_jump setting reading word (verdict_named word)

-- a chain from which packets don't come back
abbrev pub with_go : RuleSetting → Reading → List ℕ → Result Reading LineKind
with_go setting reading word = led_place setting word >>= λ place.
    Ok (with_act (act.Go place) rows.Nothing reading)

-- the rule rejects
abbrev pub rejects : Option Act → Bool
rejects (Some (act.Decide verdict.Reject)) = true
rejects (Some (act.Decide verdict.Accept)) = false
rejects (Some (act.Decide verdict.Drop)) = false
rejects (Some (act.Decide verdict.Return)) = false
rejects (Some (act.Jump place)) = false
rejects (Some (act.Go place)) = false
rejects (Some act.Pass) = false
rejects None = false

-- REJECT of a family may give the answer, where a protocol is known; a reset needs TCP
abbrev pub has_answer : Family → ℕ → List ℕ → Bool
has_answer family known word =
    if bytes_eq word (codes "tcp-reset") then known == 6
    else is_some (owner_in word (answer_table family))

-- the answer of REJECT, which changes no verdict
abbrev pub with_answer : Family → Reading → List ℕ → Result Reading LineKind
with_answer family reading word =
    unless (not (rejects reading.act)) fault.NeedsProtocol
    (unless (not (has_answer family reading.known word)) fault.BadAnswer (Ok reading))

-- ---- any option

-- the value of an option
abbrev pub with_value : RuleSetting → Reading → RuleOption → OptionValue → Result Reading LineKind
with_value setting reading (option.Network which) value = with_network setting reading which value
with_value setting reading (option.Range which) value = with_range setting reading which value
with_value setting reading (option.Type which) value = with_type setting reading which value
with_value setting reading (option.Ports which) value = with_ports setting reading which value
with_value setting reading (option.List which) value = with_list setting reading which value
with_value setting reading (option.Interface which) value =
    with_interface setting reading which value
with_value setting reading option.Protocol value = with_protocol setting reading value
with_value setting reading (option.States changed) value = with_states setting reading changed value
with_value setting reading option.Message value = Ok (with_message reading value)
with_value setting reading option.Match value = with_match setting reading value.word
with_value setting reading option.Jump value = with_jump setting reading value.word
with_value setting reading option.Go value = with_go setting reading value.word
with_value setting reading option.Answer value = with_answer setting.family reading value.word
