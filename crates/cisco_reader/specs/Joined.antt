-- The other way to say what the words of an entry and of a group's member are: its parts, one after
-- the other, each with what it stands for. So no word of one that is read is passed over.
use Rattle.std.specs.Prelude.{◌≡◌, ℕ, ◌+◌, ◌-◌, ◌==◌, true, false, codes, List, [], ◌∷◌, ◌++◌, map, Option, Some, None}
use Rattle.std.specs.Prelude.{Ok}
use Rattle.std.specs.Str.{bytes_eq}
use Rattle.text_scan.specs.Parts.{slash, cut_at}
use Rattle.list_chains.specs.declared.span.Span.{Span}
use Rattle.cisco_reader.specs.declared.entry.Addresses.{Addresses}
use Rattle.cisco_reader.specs.declared.entry.Addresses.TheVariants.{Group, Under}
use Rattle.cisco_reader.specs.declared.entry.Carried.{Carried}
use Rattle.cisco_reader.specs.declared.entry.Carried.TheVariants as carried
use Rattle.cisco_reader.specs.declared.entry.Services.{Services}
use Rattle.cisco_reader.specs.declared.entry.Services.TheVariants as services
use Rattle.cisco_reader.specs.declared.services.Operator.TheVariants as operator
use Rattle.cisco_reader.specs.declared.services.PortPart.{PortPart}
use Rattle.cisco_reader.specs.declared.names.Known.TheVariants as known
use Rattle.cisco_reader.specs.declared.services.Protocols.{Protocols}
use Rattle.cisco_reader.specs.declared.services.Protocols.TheVariants as protocols
use Rattle.cisco_reader.specs.declared.services.Service.{Service}
use Rattle.cisco_reader.specs.declared.entry.Verdict.{Verdict}
use Rattle.cisco_reader.specs.declared.entry.Entry.{Entry}
use Rattle.cisco_reader.specs.Entry.{all_ones, entry_of}
use Rattle.cisco_reader.specs.Groups.{ListedGroup, place_for}
use Rattle.cisco_reader.specs.Held.{network_of_words, prefix_span}
use Rattle.cisco_reader.specs.Names.{number_of, port_of}
use Rattle.cisco_reader.specs.PortList.{ports_above, ports_below}
use Rattle.cisco_reader.specs.Services.{operator_named}
use Rattle.cisco_reader.specs.Services.{protocols_of, service_of_words}
use Rattle.cisco_reader.specs.Wildcard.{ip4_plain, under_mask}
use Rattle.cisco_reader.specs.Names.{is_known}

-- ---- addresses

-- The words for addresses: `any`; `host` and an address; an address and its wildcard mask; or
-- `object-group` and the name of a group of networks.
pub data AreAddresses (groups : List ListedGroup) (words : List (List ℕ)) (it : Addresses) :
    Type 0 where
  Any : (word : List ℕ) → bytes_eq word (codes "any") ≡ true → words ≡ word ∷ []
      → it ≡ Under (record { base = 0; free = all_ones }) → AreAddresses groups words it
  Host : (word text : List ℕ) (address : ℕ) → bytes_eq word (codes "host") ≡ true
      → ip4_plain text ≡ Some address → words ≡ word ∷ text ∷ []
      → it ≡ Under (record { base = address; free = 0 }) → AreAddresses groups words it
  Masked : (text mask : List ℕ) (address free : ℕ) → ip4_plain text ≡ Some address
      → ip4_plain mask ≡ Some free → words ≡ text ∷ mask ∷ []
      → it ≡ Under (under_mask address free) → AreAddresses groups words it
  Grouped : (word name : List ℕ) (place : ℕ) → bytes_eq word (codes "object-group") ≡ true
      → place_for groups (codes "network") name ≡ Ok place → words ≡ word ∷ name ∷ []
      → it ≡ Group place → AreAddresses groups words it

-- ---- ports

-- one port
abbrev pub one : ℕ → Span
one port = record { low = port; high = port }

-- words that are ports, each with its number
pub record AreNumbers (words : List (List ℕ)) (ports : List ℕ) : Type 0 where
  pub numbers : map port_of words ≡ map Some ports

-- The words of a comparison of ports: none; `eq` or `neq` and ports; `gt` or `lt` and a port; or
-- `range` and two.
pub data AreCompared (words : List (List ℕ)) (it : Option PortPart) : Type 0 where
  NoPorts : words ≡ [] → it ≡ None → AreCompared words it
  Equal : (word : List ℕ) (texts : List (List ℕ)) (ports : List ℕ)
      → operator_named word ≡ Some operator.Equal → AreNumbers texts ports → words ≡ word ∷ texts
      → it ≡ Some (record { negated = false; ports = map one ports }) → AreCompared words it
  NotEqual : (word : List ℕ) (texts : List (List ℕ)) (ports : List ℕ)
      → operator_named word ≡ Some operator.NotEqual → AreNumbers texts ports → words ≡ word ∷ texts
      → it ≡ Some (record { negated = true; ports = map one ports }) → AreCompared words it
  Above : (word text : List ℕ) (port : ℕ) → operator_named word ≡ Some operator.Greater
      → port_of text ≡ Some port → words ≡ word ∷ text ∷ []
      → it ≡ Some (record { negated = false; ports = ports_above port }) → AreCompared words it
  Below : (word text : List ℕ) (port : ℕ) → operator_named word ≡ Some operator.Less
      → port_of text ≡ Some port → words ≡ word ∷ text ∷ []
      → it ≡ Some (record { negated = false; ports = ports_below port }) → AreCompared words it
  Range : (word first last : List ℕ) (low high : ℕ) → operator_named word ≡ Some operator.Range
      → port_of first ≡ Some low → port_of last ≡ Some high → words ≡ word ∷ first ∷ last ∷ []
      → it ≡ Some (record { negated = false; ports = record { low = low; high = high } ∷ [] })
      → AreCompared words it

-- ---- protocols

-- The words for what an entry begins with: a protocol, or `object-group` and the name of a group of
-- services.
pub data AreCarried (groups : List ListedGroup) (words : List (List ℕ)) (it : Carried) :
    Type 0 where
  Protocol : (word : List ℕ) (span : Span) → protocols_of word ≡ Ok span → words ≡ word ∷ []
      → it ≡ carried.Protocol span → AreCarried groups words it
  ServiceGroup : (word name : List ℕ) (place : ℕ) → bytes_eq word (codes "object-group") ≡ true
      → place_for groups (codes "service") name ≡ Ok place → words ≡ word ∷ name ∷ []
      → it ≡ carried.Group place → AreCarried groups words it

-- The services of an entry: one of its protocols with the ports of both sides, or those of a group,
-- beside which no ports stand.
pub data AreServices (begins : Carried) (source destination : Option PortPart) (it : Services) :
    Type 0 where
  Own : (span : Span) → begins ≡ carried.Protocol span
      → it ≡ services.Own (record {
        protocols = protocols.Between span;
        source = source;
        destination = destination;
      })
      → AreServices begins source destination it
  OfGroup : (place : ℕ) → begins ≡ carried.Group place → source ≡ None → destination ≡ None
      → it ≡ services.Group place → AreServices begins source destination it

-- ---- the log

-- The words after the addresses: none; `log` or `log-input`; or one of them and a word for the log.
pub data AreLog (words : List (List ℕ)) : Type 0 where
  NoLog : words ≡ [] → AreLog words
  Log : (word : List ℕ) → is_known known.Log word ≡ true
      → words ≡ word ∷ [] → AreLog words
  Told : (word other : List ℕ) → is_known known.Log word ≡ true
      → words ≡ word ∷ other ∷ [] → AreLog words

-- ---- the entry

-- words after the verdict that are such parts, one after the other, and what they stand for
pub record IsEntry (groups : List ListedGroup) (verdict : Verdict) (words : List (List ℕ))
    (entry : Entry) : Type 0 where
  pub first : List (List ℕ)
  pub source : List (List ℕ)
  pub source_ports : List (List ℕ)
  pub destination : List (List ℕ)
  pub destination_ports : List (List ℕ)
  pub log : List (List ℕ)
  pub begins : Carried
  pub near : Option PortPart
  pub far : Option PortPart
  pub permits : entry.verdict ≡ verdict
  pub carries : AreCarried groups first begins
  pub serves : AreServices begins near far entry.services
  pub sources : AreAddresses groups source entry.source
  pub compared_sources : AreCompared source_ports near
  pub destinations : AreAddresses groups destination entry.destination
  pub compared_destinations : AreCompared destination_ports far
  pub logs : AreLog log
  pub joined : first ++ (source ++ (source_ports ++ (destination ++ (destination_ports ++ log))))
      ≡ words

-- the words of an entry that is read are such parts
abbrev pub ReadWordsAreParts : Type 0
ReadWordsAreParts =
    (groups : List ListedGroup) (verdict : Verdict) (words : List (List ℕ)) (entry : Entry)
    → entry_of groups verdict words ≡ Ok entry → IsEntry groups verdict words entry

-- ---- members of groups

-- The words of a member of a group of networks: `any`; `host` and an address; `range` and two; or
-- an address that stands alone, with the length of its prefix in one word or two, or with its mask.
pub data IsNetwork (words : List (List ℕ)) (it : Span) : Type 0 where
  All : (word : List ℕ) → bytes_eq word (codes "any") ≡ true → words ≡ word ∷ []
      → it ≡ record { low = 0; high = all_ones } → IsNetwork words it
  One : (word text : List ℕ) (address : ℕ) → bytes_eq word (codes "host") ≡ true
      → ip4_plain text ≡ Some address → words ≡ word ∷ text ∷ [] → it ≡ one address
      → IsNetwork words it
  Between : (word first last : List ℕ) (low high : ℕ) → bytes_eq word (codes "range") ≡ true
      → ip4_plain first ≡ Some low → ip4_plain last ≡ Some high → words ≡ word ∷ first ∷ last ∷ []
      → it ≡ record { low = low; high = high } → IsNetwork words it
  Alone : (text : List ℕ) (address : ℕ) → ip4_plain text ≡ Some address → words ≡ text ∷ []
      → it ≡ one address → IsNetwork words it
  Short : (word text digits : List ℕ) (address bits : ℕ) → cut_at slash word ≡ Some (text, digits)
      → ip4_plain text ≡ Some address → number_of 32 digits ≡ Some bits → words ≡ word ∷ []
      → it ≡ prefix_span address (32 - bits) → IsNetwork words it
  Long : (text : List ℕ) (mark : ℕ) (digits : List ℕ) (address bits : ℕ) → (mark == slash) ≡ true
      → ip4_plain text ≡ Some address → number_of 32 digits ≡ Some bits
      → words ≡ text ∷ (mark ∷ digits) ∷ [] → it ≡ prefix_span address (32 - bits)
      → IsNetwork words it
  WithMask : (text mask : List ℕ) (address bits : ℕ) → ip4_plain text ≡ Some address
      → ip4_plain mask ≡ Some bits → words ≡ text ∷ mask ∷ []
      → it ≡ record { low = address; high = address + (all_ones - bits) } → IsNetwork words it

-- the words of a member that is read are such parts
abbrev pub ReadMembersAreParts : Type 0
ReadMembersAreParts =
    (words : List (List ℕ)) (it : Span) → network_of_words words ≡ Ok it → IsNetwork words it

-- The words of some ports of a member of a group of services: a port alone, or a comparison with
-- its ports.
pub data AreSomePorts (words : List (List ℕ)) (it : Option PortPart) : Type 0 where
  OnePort : (text : List ℕ) (port : ℕ) → port_of text ≡ Some port → words ≡ text ∷ []
      → it ≡ Some (record { negated = false; ports = one port ∷ [] }) → AreSomePorts words it
  Comparison : AreCompared words it → AreSomePorts words it

-- The words of source ports, which stand after `source`, or of none.
pub data AreSourcePorts (words : List (List ℕ)) (it : Option PortPart) : Type 0 where
  NoSource : words ≡ [] → it ≡ None → AreSourcePorts words it
  Source : (word : List ℕ) (texts : List (List ℕ)) → bytes_eq word (codes "source") ≡ true
      → AreSomePorts texts it → words ≡ word ∷ texts → AreSourcePorts words it

-- The words of destination ports, or of none.
pub data AreDestinationPorts (words : List (List ℕ)) (it : Option PortPart) : Type 0 where
  NoDestination : words ≡ [] → it ≡ None → AreDestinationPorts words it
  Destination : AreSomePorts words it → AreDestinationPorts words it

-- The word of protocols of a member: `tcp-udp`, or one as in an entry.
pub data AreProtocols (word : List ℕ) (it : Protocols) : Type 0 where
  Both : bytes_eq word (codes "tcp-udp") ≡ true → it ≡ protocols.TcpUdp → AreProtocols word it
  Word : (span : Span) → protocols_of word ≡ Ok span → it ≡ protocols.Between span
      → AreProtocols word it

-- words of a member of a group of services that are such parts, one after the other
pub record IsService (words : List (List ℕ)) (it : Service) : Type 0 where
  pub protocol : List ℕ
  pub source : List (List ℕ)
  pub destination : List (List ℕ)
  pub protocols : AreProtocols protocol it.protocols
  pub sources : AreSourcePorts source it.source
  pub destinations : AreDestinationPorts destination it.destination
  pub joined : protocol ∷ (source ++ destination) ≡ words

-- the words of such a member that is read are such parts
abbrev pub ReadServicesAreParts : Type 0
ReadServicesAreParts =
    (words : List (List ℕ)) (it : Service) → service_of_words words ≡ Ok it → IsService words it
