-- Base chains: at which hook packets come to them, in which order, and what is known of packets
-- there (nft(8), "ADDRESS FAMILIES" and "CHAINS").
use Rattle.std.specs.Prelude.{ℕ, ◌^◌, ◌-◌, Bool, true, false, ◌&&◌, ◌||◌, not, nat_le}
use Rattle.std.specs.Prelude.{if◌then◌else◌, codes, List, [], ◌∷◌, take, drop}
use Rattle.std.specs.Prelude.{Option, Some, None, option_and_then}
use Rattle.std.specs.Option.{option_map}
use Rattle.std.specs.Str.{bytes_eq}
use Rattle.json.specs.Json.{Json}
use Rattle.json.specs.Find.{as_number, get}
use Rattle.nft_reader.specs.declared.compared.Way.{Way}
use Rattle.nft_reader.specs.declared.compared.Way.TheVariants as way
use Rattle.nft_reader.specs.declared.hooks.Base.{Base}
use Rattle.nft_reader.specs.declared.hooks.ChainType.{ChainType}
use Rattle.nft_reader.specs.declared.hooks.ChainType.TheVariants.{Filter, Nat, Route}
use Rattle.nft_reader.specs.declared.hooks.Hook.{Hook}
use Rattle.nft_reader.specs.declared.hooks.Hook.TheVariants.{Ingress, Prerouting, Input, Forward}
use Rattle.nft_reader.specs.declared.hooks.Hook.TheVariants.{Output, Postrouting, Egress}
use Rattle.nft_reader.specs.declared.hooks.Priority.{Priority}
use Rattle.nft_reader.specs.Shapes.{decimal_of, text_in}

-- ---- types, hooks and priorities

-- the type of a name
abbrev pub type_named : List ℕ → Option ChainType
type_named name =
    if bytes_eq name (codes "filter") then Some Filter
    else (if bytes_eq name (codes "nat") then Some Nat
    else (if bytes_eq name (codes "route") then Some Route else None))

-- the hook of a name that only one of the families has
abbrev pub outer_hook : List ℕ → Option Hook
outer_hook name =
    if bytes_eq name (codes "ingress") then Some Ingress
    else (if bytes_eq name (codes "egress") then Some Egress else None)

-- the hook of a name
abbrev pub hook_named : List ℕ → Option Hook
hook_named name =
    if bytes_eq name (codes "prerouting") then Some Prerouting
    else (if bytes_eq name (codes "input") then Some Input
    else (if bytes_eq name (codes "forward") then Some Forward
    else (if bytes_eq name (codes "output") then Some Output
    else (if bytes_eq name (codes "postrouting") then Some Postrouting
    else outer_hook name))))

-- a priority below 0
abbrev pub below_zero : ℕ → Priority
below_zero distance = record { below = true; distance = distance }

-- one that isn't
abbrev pub from_zero : ℕ → Priority
from_zero distance = record { below = false; distance = distance }

-- what stands after a sign
abbrev pub after_minus : List ℕ → Option (List ℕ)
after_minus text = if bytes_eq (take 1 text) (codes "-") then Some (drop 1 text) else None

-- the priority that a text spells, a signed number of 32 bits
abbrev pub priority_by : List ℕ → Option (List ℕ) → Option Priority
priority_by text None = option_map from_zero (decimal_of (2 ^ 31 - 1) text)
priority_by text (Some rest) = option_map below_zero (decimal_of (2 ^ 31) rest)

-- the same of a text
abbrev pub priority_said : List ℕ → Option Priority
priority_said text = priority_by text (after_minus text)

-- the priority that a value says
abbrev pub priority_of : Json → Option Priority
priority_of value = option_and_then priority_said (as_number value)

-- it isn't above -200, where the kernel looks a packet's connection up
abbrev pub is_early : Priority → Bool
is_early priority = priority.below && nat_le 200 priority.distance

-- ---- which there are

-- the hooks of the header of the network
abbrev pub is_network : Hook → Bool
is_network Prerouting = true
is_network Input = true
is_network Forward = true
is_network Output = true
is_network Postrouting = true
is_network Ingress = false
is_network Egress = false

-- the hooks of chains of type nat
abbrev pub changes_addresses : Hook → Bool
changes_addresses Prerouting = true
changes_addresses Input = true
changes_addresses Output = true
changes_addresses Postrouting = true
changes_addresses Forward = false
changes_addresses Ingress = false
changes_addresses Egress = false

-- the hook is the one where packets come from a device
abbrev pub is_ingress : Hook → Bool
is_ingress Ingress = true
is_ingress Prerouting = false
is_ingress Input = false
is_ingress Forward = false
is_ingress Output = false
is_ingress Postrouting = false
is_ingress Egress = false

-- the hook is the one where packets of this host begin
abbrev pub is_output : Hook → Bool
is_output Output = true
is_output Ingress = false
is_output Prerouting = false
is_output Input = false
is_output Forward = false
is_output Postrouting = false
is_output Egress = false

-- the type is `filter`, of which each hook has chains
abbrev pub is_filter : ChainType → Bool
is_filter Filter = true
is_filter Nat = false
is_filter Route = false

-- the type is `nat`, to whose chains only first packets of connections come
abbrev pub is_nat : ChainType → Bool
is_nat Filter = false
is_nat Nat = true
is_nat Route = false

-- a family of tables has chains at a hook that see packets of the network
abbrev pub has_network_hook : List ℕ → Hook → Bool
has_network_hook family hook =
    is_network hook || (is_ingress hook && bytes_eq family (codes "inet"))

-- there are chains of a type at a hook of ip, ip6 or inet
abbrev pub has_network_chain : List ℕ → ChainType → Hook → Priority → Bool
has_network_chain family Filter hook priority = has_network_hook family hook
has_network_chain family Nat hook priority = changes_addresses hook && not (is_early priority)
has_network_chain family Route hook priority = is_output hook

-- there are chains of a type at a hook of a family, with a priority
abbrev pub has_chain : List ℕ → ChainType → Hook → Priority → Bool
has_chain family kind hook priority =
    if bytes_eq family (codes "netdev") then is_filter kind && not (is_network hook)
    else has_network_chain family kind hook priority

-- a text is this one, if there is one
abbrev pub is_dropping : Option (List ℕ) → Bool
is_dropping None = false
is_dropping (Some policy) = bytes_eq policy (codes "drop")

-- what is there, if there are such chains
abbrev pub base_if : List ℕ → Base → Option Base
base_if family base =
    if has_chain family base.kind base.hook base.priority then Some base else None

-- the type, the hook, the priority and the policy of a base chain of a family
abbrev pub base_of : List ℕ → Json → Option Base
base_of family said =
    option_and_then (λ kind. option_and_then (λ hook. option_and_then (λ priority.
    base_if family (record {
      kind = kind;
      hook = hook;
      priority = priority;
      drops = is_dropping (text_in (codes "policy") said);
    }))
    (option_and_then priority_of (get (codes "prio") said)))
    (option_and_then hook_named (text_in (codes "hook") said)))
    (option_and_then type_named (text_in (codes "type") said))

-- ---- what is known there

-- packets have the interface that they come by
abbrev pub has_in : Hook → Bool
has_in Ingress = true
has_in Prerouting = true
has_in Input = true
has_in Forward = true
has_in Output = false
has_in Postrouting = false
has_in Egress = false

-- packets have the interface that they leave by
abbrev pub has_out : Hook → Bool
has_out Forward = true
has_out Output = true
has_out Postrouting = true
has_out Egress = true
has_out Ingress = false
has_out Prerouting = false
has_out Input = false

-- packets have an interface
abbrev pub has_way : Way → Hook → Bool
has_way way.In hook = has_in hook
has_way way.Out hook = has_out hook

-- The state of their connection is known. The kernel looks it up at prerouting and output, with the
-- priority -200.
abbrev pub has_state : Hook → Priority → Bool
has_state Ingress priority = false
has_state Prerouting priority = not (is_early priority)
has_state Output priority = not (is_early priority)
has_state Input priority = true
has_state Forward priority = true
has_state Postrouting priority = true
has_state Egress priority = true

-- packets of the base chain that is asked for, if there is one, have an interface
abbrev pub knows_way : Option Base → Way → Bool
knows_way None which = true
knows_way (Some base) which = has_way which base.hook

-- the state of their connection is known there
abbrev pub knows_state : Option Base → Bool
knows_state None = true
knows_state (Some base) = has_state base.hook base.priority

-- ---- ways

-- packets come to the hook on the way to this host
abbrev pub comes_in : Hook → Bool
comes_in Ingress = true
comes_in Prerouting = true
comes_in Input = true
comes_in Forward = false
comes_in Output = false
comes_in Postrouting = false
comes_in Egress = false

-- on the way from one device to another
abbrev pub goes_through : Hook → Bool
goes_through Ingress = true
goes_through Prerouting = true
goes_through Forward = true
goes_through Postrouting = true
goes_through Egress = true
goes_through Input = false
goes_through Output = false

-- and on the way from this host
abbrev pub goes_out : Hook → Bool
goes_out Output = true
goes_out Postrouting = true
goes_out Egress = true
goes_out Ingress = false
goes_out Prerouting = false
goes_out Input = false
goes_out Forward = false

-- packets come to both hooks on one of the ways, in whatever order
abbrev pub share_a_way : Hook → Hook → Bool
share_a_way one other =
    (comes_in one && comes_in other) || (goes_through one && goes_through other)
    || (goes_out one && goes_out other)
