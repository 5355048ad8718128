-- The chain's name has its place, unless an earlier chain has it.
use Rattle.std.proofs.Common.{◌≡◌, [], ◌∷◌, ◌++◌, length, sym, ap, ◌∙◌, subst, arith}
use Rattle.iptables_reader.specs.Chains.{ListedChain}
use Rattle.iptables_reader.specs.Places.{ArePlaces, with_place}
use Rattle.iptables_reader.proofs.NamedPlaces.{ArePlaces-more}
use Rattle.iptables_reader.proofs.named_chains.NamedChains.push.Goals as goal

pub invariant_of-self-2 : goal.invariant_of-self-2
invariant_of-self-2 c =
    let places = c.self.inside.places in
    let chains = c.self.inside.chains.items in
    let chain : ListedChain = c.new.result in
    let kept : c.extend_from_slice.new.self.items ≡ c.args.name.now =
    c.in_ok-extend_from_slice.ensures.items ∙ ap (λ bytes. bytes ++ c.args.name.now) c.new-kept.ensures.items in
    let named : chain.name ≡ c.args.name.now = ap (λ (it : ListedChain). it.name) c.new.ensures ∙ kept in
    let long : length chains ≡ c.len.result =
    omega (arith, c.len.ensures, c.reserve.new.self.ok, ap length c.in_ok-reserve.ensures.items) in
    let placed : with_place chain.name (length chains) places ≡ c.add.new.self =
    (λ i. with_place (named i) (long i) places) ∙ sym c.in_ok-add.ensures.added in
    let put : chains ++ chain ∷ [] ≡ c.push.new.self.items =
    sym (c.in_ok-push.ensures.items ∙ ap (λ all. all ++ chain ∷ []) c.in_ok-reserve.ensures.items) in
    subst (λ names. ArePlaces names c.push.new.self.items) placed
    (subst (λ all. ArePlaces (with_place chain.name (length chains) places) all) put
    (ArePlaces-more places chains c.self.invariant chain))
