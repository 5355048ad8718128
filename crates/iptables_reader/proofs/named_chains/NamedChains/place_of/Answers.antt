-- The chain that is meant is the first of the name, or comes after it.
use Rattle.std.proofs.Common.{◌≡◌, drop, sym, ap, ◌∙◌, arith, length, Some, None, false}
use Rattle.std.specs.List.{position_from}
use Rattle.iptables_reader.specs.Chains.{is_meant, place_of}
use Rattle.iptables_reader.proofs.NamedPlaces.{first_is_there, meant_from_first, none_meant}
use Rattle.iptables_reader.proofs.named_chains.NamedChains.place_of.Goals as goal

pub place_from-requires : goal.place_from-requires
place_from-requires c =
    let name = c.args.name.now in
    let chains = c.self.inside.chains.items in
    let found : place_of false name chains ≡ Some c.in-Some.first =
    sym (c.self.invariant.found name) ∙ sym c.in-Some.ensures in
    let there = first_is_there name chains c.in-Some.first found in
    let same = ap length c.as_slice.ensures.value in
    omega (arith, there, same)

pub returns-in-Some-clause-place : goal.returns-in-Some-clause-place
returns-in-Some-clause-place c =
    let name = c.args.name.now in
    let led = c.args.led in
    let chains = c.self.inside.chains.items in
    let first = c.in-Some.first in
    let found : place_of false name chains ≡ Some first =
    sym (c.self.invariant.found name) ∙ sym c.in-Some.ensures in
    c.place_from.ensures.place
    ∙ ap (λ all. position_from (is_meant led name) first (drop first all)) c.as_slice.ensures.value
    ∙ sym (meant_from_first led name chains first found)
    ∙ ap (λ all. place_of led name all) c.self.view_is

pub returns-in-None-clause-place : goal.returns-in-None-clause-place
returns-in-None-clause-place c =
    let name = c.args.name.now in
    let led = c.args.led in
    let chains = c.self.inside.chains.items in
    let found : place_of false name chains ≡ None =
    sym (c.self.invariant.found name) ∙ sym c.in-None.ensures in
    sym (none_meant led name chains found) ∙ ap (λ all. place_of led name all) c.self.view_is
