-- Examples of base chains, each checked by evaluation: the limits of priorities, and which types
-- there are at which hooks, as the kernel takes them.
use Rattle.std.specs.Prelude.{◌≡◌, ℕ, Bool, true, false, List, [], ◌∷◌, codes, Some, None, refl}
use Rattle.std.specs.Prelude.{map}
use Rattle.nft_reader.specs.declared.compared.Way.TheVariants as way
use Rattle.nft_reader.specs.declared.hooks.ChainType.{ChainType}
use Rattle.nft_reader.specs.declared.hooks.ChainType.TheVariants.{Filter, Nat, Route}
use Rattle.nft_reader.specs.declared.hooks.Hook.{Hook}
use Rattle.nft_reader.specs.declared.hooks.Hook.TheVariants.{Ingress, Prerouting, Input, Forward}
use Rattle.nft_reader.specs.declared.hooks.Hook.TheVariants.{Output, Postrouting, Egress}
use Rattle.nft_reader.specs.Hooks.{below_zero, from_zero, has_chain, has_state, has_way, is_early}
use Rattle.nft_reader.specs.Hooks.{priority_said, share_a_way}

-- ---- priorities

-- the least, and one below it
least : priority_said (codes "-2147483648") ≡ Some (below_zero 2147483648)
least = refl

below_least : priority_said (codes "-2147483649") ≡ None
below_least = refl

-- the greatest, and one above it
greatest : priority_said (codes "2147483647") ≡ Some (from_zero 2147483647)
greatest = refl

above_greatest : priority_said (codes "2147483648") ≡ None
above_greatest = refl

-- a fraction is none
a_fraction : priority_said (codes "0.5") ≡ None
a_fraction = refl

-- the last before the kernel looks connections up, which may be before or after it, and the next
at_tracking : is_early (below_zero 200) ≡ true
at_tracking = refl

after_tracking : is_early (below_zero 199) ≡ false
after_tracking = refl

above_zero : is_early (from_zero 300) ≡ false
above_zero = refl

-- ---- types

-- all hooks
abbrev hooks : List Hook
hooks = Ingress ∷ Prerouting ∷ Input ∷ Forward ∷ Output ∷ Postrouting ∷ Egress ∷ []

-- at which of them a family has chains of a type, by the priority 0
abbrev row : List ℕ → ChainType → List Bool
row family kind = map (λ hook. has_chain family kind hook (from_zero 0)) hooks

filters_of_ip : row (codes "ip") Filter
    ≡ (false ∷ true ∷ true ∷ true ∷ true ∷ true ∷ false ∷ [])
filters_of_ip = refl

filters_of_inet : row (codes "inet") Filter
    ≡ (true ∷ true ∷ true ∷ true ∷ true ∷ true ∷ false ∷ [])
filters_of_inet = refl

filters_of_netdev : row (codes "netdev") Filter
    ≡ (true ∷ false ∷ false ∷ false ∷ false ∷ false ∷ true ∷ [])
filters_of_netdev = refl

nat_of_ip6 : row (codes "ip6") Nat
    ≡ (false ∷ true ∷ true ∷ false ∷ true ∷ true ∷ false ∷ [])
nat_of_ip6 = refl

nat_of_netdev : row (codes "netdev") Nat
    ≡ (false ∷ false ∷ false ∷ false ∷ false ∷ false ∷ false ∷ [])
nat_of_netdev = refl

routes_of_inet : row (codes "inet") Route
    ≡ (false ∷ false ∷ false ∷ false ∷ true ∷ false ∷ false ∷ [])
routes_of_inet = refl

-- chains of type nat come after the connections are looked up
early_nat : has_chain (codes "ip") Nat Prerouting (below_zero 200) ≡ false
early_nat = refl

late_nat : has_chain (codes "ip") Nat Prerouting (below_zero 199) ≡ true
late_nat = refl

-- ---- what is known

interfaces_in : map (has_way way.In) hooks
    ≡ (true ∷ true ∷ true ∷ true ∷ false ∷ false ∷ false ∷ [])
interfaces_in = refl

interfaces_out : map (has_way way.Out) hooks
    ≡ (false ∷ false ∷ false ∷ true ∷ true ∷ true ∷ true ∷ [])
interfaces_out = refl

-- states, with the priority raw and with the priority mangle
states_at_raw : map (λ hook. has_state hook (below_zero 300)) hooks
    ≡ (false ∷ false ∷ true ∷ true ∷ false ∷ true ∷ true ∷ [])
states_at_raw = refl

states_at_mangle : map (λ hook. has_state hook (below_zero 150)) hooks
    ≡ (false ∷ true ∷ true ∷ true ∷ true ∷ true ∷ true ∷ [])
states_at_mangle = refl

-- ---- ways

beside_input : map (share_a_way Input) hooks
    ≡ (true ∷ true ∷ true ∷ false ∷ false ∷ false ∷ false ∷ [])
beside_input = refl

beside_forward : map (share_a_way Forward) hooks
    ≡ (true ∷ true ∷ false ∷ true ∷ false ∷ true ∷ true ∷ [])
beside_forward = refl

beside_output : map (share_a_way Output) hooks
    ≡ (false ∷ false ∷ false ∷ false ∷ true ∷ true ∷ true ∷ [])
beside_output = refl

beside_prerouting : map (share_a_way Prerouting) hooks
    ≡ (true ∷ true ∷ true ∷ true ∷ false ∷ true ∷ true ∷ [])
beside_prerouting = refl

beside_postrouting : map (share_a_way Postrouting) hooks
    ≡ (true ∷ true ∷ false ∷ true ∷ true ∷ true ∷ true ∷ [])
beside_postrouting = refl
