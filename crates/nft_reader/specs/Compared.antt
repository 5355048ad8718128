-- What a comparison compares (libnftables-json(5), "match", "payload" and "meta"). The packets are
-- of one family: what is in the header of the other none of them has.
use Rattle.std.specs.Prelude.{ℕ, ◌==◌, Bool, true, false, not, if◌then◌else◌, codes}
use Rattle.std.specs.Prelude.{List, Option, Some, None, option_and_then}
use Rattle.std.specs.Option.{option_map}
use Rattle.std.specs.Str.{bytes_eq}
use Rattle.json.specs.Json.{Json}
use Rattle.json.specs.Find.{get}
use Rattle.json.specs.Value.{value_view}
use Rattle.field_defs.specs.declared.field.Family.{Family}
use Rattle.field_defs.specs.declared.field.Family.TheVariants as family
use Rattle.list_packets.specs.declared.packets.End.TheVariants as end
use Rattle.list_packets.specs.declared.packets.Field.{Field}
use Rattle.list_packets.specs.declared.packets.Field.TheVariants as field
use Rattle.nft_reader.specs.declared.compared.Holders.{Holders}
use Rattle.nft_reader.specs.declared.compared.Holders.TheVariants as holders
use Rattle.nft_reader.specs.declared.compared.Left.{Left}
use Rattle.nft_reader.specs.declared.compared.Left.TheVariants as left
use Rattle.nft_reader.specs.declared.compared.Fact.{Fact}
use Rattle.nft_reader.specs.declared.compared.Fact.TheVariants as fact
use Rattle.nft_reader.specs.declared.compared.Naming.TheVariants as naming
use Rattle.nft_reader.specs.declared.compared.Operator.{Operator}
use Rattle.nft_reader.specs.declared.compared.Operator.TheVariants as operator
use Rattle.nft_reader.specs.declared.compared.Part.TheVariants as part
use Rattle.nft_reader.specs.declared.compared.Sides.{Sides}
use Rattle.nft_reader.specs.declared.compared.Way.TheVariants as way
use Rattle.nft_reader.specs.Shapes.{len_of, only, text_in}
use Rattle.nft_reader.specs.Values.{ported_named}

-- ---- families

-- what tables and headers of a family are called
abbrev pub own_name : Family → List ℕ
own_name family.Ip4 = codes "ip"
own_name family.Ip6 = codes "ip6"

-- what those of the other one are called
abbrev pub other_name : Family → List ℕ
other_name family.Ip4 = codes "ip6"
other_name family.Ip6 = codes "ip"

-- whether a family of packets is IPv4
abbrev pub is_ip4 : List ℕ → Option Bool
is_ip4 name =
    if bytes_eq name (codes "ipv4") then Some true
    else (if bytes_eq name (codes "ipv6") then Some false else None)

-- it is IPv4, if a family is
abbrev pub is_of : Family → Bool → Bool
is_of family.Ip4 is4 = is4
is_of family.Ip6 is4 = not is4

-- ---- the left side

-- the protocol, as a field of the header of IPv4
abbrev pub protocol_field : Family → List ℕ → Option Left
protocol_field family.Ip4 name =
    if bytes_eq name (codes "protocol")
    then Some (left.Header (part.Number field.Protocol) holders.All) else None
protocol_field family.Ip6 name = None

-- a field of the header of a family
abbrev pub own_field : Family → List ℕ → Option Left
own_field family name =
    if bytes_eq name (codes "saddr") then Some (left.Header (part.Address end.Source) holders.All)
    else (if bytes_eq name (codes "daddr")
    then Some (left.Header (part.Address end.Destination) holders.All)
    else protocol_field family name)

-- the ports of one side
abbrev pub port_field : List ℕ → Option Field
port_field name =
    if bytes_eq name (codes "sport") then Some field.SourcePorts
    else (if bytes_eq name (codes "dport") then Some field.DestinationPorts else None)

-- the packets of a protocol, or with `th` of whatever protocol that has ports
abbrev pub holders_named : List ℕ → Option Holders
holders_named protocol =
    if bytes_eq protocol (codes "th") then Some holders.Ported
    else option_map holders.Protocol (ported_named protocol)

-- their ports
abbrev pub ports_of : List ℕ → List ℕ → Option Left
ports_of protocol name =
    option_and_then (λ which. option_map (left.Header (part.Number which)) (holders_named protocol))
    (port_field name)

-- a field of a header
abbrev pub header_field : Family → List ℕ → List ℕ → Option Left
header_field family protocol name =
    if bytes_eq protocol (other_name family) then Some left.OtherFamily
    else (if bytes_eq protocol (own_name family) then own_field family name
    else ports_of protocol name)

-- what a comparison of a header compares
abbrev pub payload_of : Family → Json → Option Left
payload_of family said =
    if len_of said == 2
    then option_and_then (λ protocol.
    option_and_then (header_field family protocol) (text_in (codes "field") said))
    (text_in (codes "protocol") said)
    else None

-- the key of what is known beside the bytes of a packet, if nothing stands beside it
abbrev pub key_in : Json → Option (List ℕ)
key_in said = if len_of said == 1 then text_in (codes "key") said else None

-- what is known of a packet by its key
abbrev pub meta_key : List ℕ → Option Left
meta_key key =
    if bytes_eq key (codes "l4proto")
    then Some (left.Header (part.Number field.Protocol) holders.All)
    else (if bytes_eq key (codes "nfproto") then Some (left.Fact fact.Nfproto)
    else (if bytes_eq key (codes "iif") then Some (left.Fact (fact.Interface way.In naming.Index))
    else (if bytes_eq key (codes "iifname")
    then Some (left.Fact (fact.Interface way.In naming.Name))
    else (if bytes_eq key (codes "oif") then Some (left.Fact (fact.Interface way.Out naming.Index))
    else (if bytes_eq key (codes "oifname")
    then Some (left.Fact (fact.Interface way.Out naming.Name)) else None)))))

-- what is known of a connection
abbrev pub connection_key : List ℕ → Option Left
connection_key key = if bytes_eq key (codes "state") then Some (left.Fact fact.State) else None

-- the left side of a comparison by its name
abbrev pub left_named : Family → List ℕ → Json → Option Left
left_named family name said =
    if bytes_eq name (codes "payload") then payload_of family said
    else (if bytes_eq name (codes "meta") then option_and_then meta_key (key_in said)
    else (if bytes_eq name (codes "ct") then option_and_then connection_key (key_in said)
    else None))

-- the left side of a comparison
abbrev pub left_of : Family → Json → Option Left
left_of family value = option_and_then (λ found. left_named family found.0 found.1) (only value)

-- ---- the operator

-- the operator of a comparison: `in` and `!` test bits
abbrev pub operator_named : List ℕ → Option Operator
operator_named name =
    if bytes_eq name (codes "==") then Some operator.Equal
    else (if bytes_eq name (codes "!=") then Some operator.Unequal
    else (if bytes_eq name (codes "in") then Some operator.In
    else (if bytes_eq name (codes "!") then Some operator.NotIn else None)))

-- it is that of inequality
abbrev pub is_unequal : Operator → Bool
is_unequal operator.Unequal = true
is_unequal operator.Equal = false
is_unequal operator.In = false
is_unequal operator.NotIn = false

-- whether a comparison for equality is turned
abbrev pub is_negated : Operator → Option Bool
is_negated operator.Equal = Some false
is_negated operator.Unequal = Some true
is_negated operator.In = None
is_negated operator.NotIn = None

-- whether one with what is known is turned: of states each is one bit
abbrev pub is_turned : Fact → Operator → Option Bool
is_turned fact.Nfproto compares = is_negated compares
is_turned (fact.Interface which manner) compares = is_negated compares
is_turned fact.State operator.Equal = Some false
is_turned fact.State operator.Unequal = Some true
is_turned fact.State operator.In = Some false
is_turned fact.State operator.NotIn = Some true

-- ---- both sides

-- the sides of a comparison
pub record MatchSides : Type 0 where
  pub left : Json
  pub operator : Operator
  pub right : Json

-- the same of sides that are found
abbrev pub sides_seen : Sides → MatchSides
sides_seen sides = record {
  left = value_view sides.left.now;
  operator = sides.operator;
  right = value_view sides.right.now;
}

-- both sides, and the operator
abbrev pub sides_of : Json → Option MatchSides
sides_of said =
    if len_of said == 3
    then option_and_then (λ one. option_and_then (λ compares.
    option_map (λ other. record { left = one; operator = compares; right = other })
    (get (codes "right") said))
    (option_and_then operator_named (text_in (codes "op") said)))
    (get (codes "left") said)
    else None

-- the protocol of packets that have what is compared
abbrev pub protocol_held : Left → Option ℕ
protocol_held (left.Header which (holders.Protocol number)) = Some number
protocol_held (left.Header which holders.All) = None
protocol_held (left.Header which holders.Ported) = None
protocol_held left.OtherFamily = None
protocol_held (left.Fact which) = None

-- the same of a comparison
abbrev pub protocol_in : Family → Json → Option ℕ
protocol_in family said =
    option_and_then (λ sides. option_and_then protocol_held (left_of family sides.left))
    (sides_of said)
