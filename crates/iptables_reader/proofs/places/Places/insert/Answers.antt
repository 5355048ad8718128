-- The name stands after the others.
use Rattle.std.proofs.Common.{◌≡◌, ◌++◌, ap, ◌∙◌}
use Rattle.iptables_reader.proofs.NamedPlaces.{names_more}
use Rattle.iptables_reader.proofs.places.Places.insert.Goals as goal

pub returns-clause-added : goal.returns-clause-added
returns-clause-added c =
    let named : c.extend_from_slice.new.self.items ≡ c.args.name.now =
    c.in_ok-extend_from_slice.ensures.items ∙ ap (λ bytes. bytes ++ c.args.name.now) c.new-key.ensures.items in
    names_more c.self.inside.kept.entries c.insert.new.self.entries (λ key. key.items) c.extend_from_slice.new.self
    c.args.place c.args.name.now c.args.self.now c.in_ok-insert.ensures.entries named c.self.view_is c.requires
