-- The chain keeps its name, whether its line was put or not.
use Rattle.std.proofs.Common.{◌<◌, length, ap, ◌∙◌, arith}
use Rattle.iptables_reader.specs.Chains.{ListedChain}
use Rattle.iptables_reader.proofs.NamedPlaces.{ArePlaces-set}
use Rattle.iptables_reader.proofs.named_chains.NamedChains.add_line.Goals as goal

pub invariant_of-self : goal.invariant_of-self
invariant_of-self c =
    let chains = c.self.inside.chains.items in
    let place = c.args.place in
    let there : place < length chains = omega (arith, c.requires, ap length c.self.view_is) in
    let named = c.add_line.ensures.name ∙ ap (λ (it : ListedChain). it.name) c.index_mut.ensures.value in
    ArePlaces-set c.self.inside.places chains place c.add_line.new.self c.index_mut.result.now c.self.invariant
    there named
