-- A key is found by its name.
use Rattle.std.proofs.Common.{ap, ◌∙◌}
use Rattle.std.specs.Map.{lookup}
use Rattle.std.specs.Str.{bytes_eq}
use Rattle.iptables_reader.proofs.NamedPlaces.{lookup_names}
use Rattle.iptables_reader.proofs.places.Places.find.Goals as goal

pub returns : goal.returns
returns c =
    c.copied.ensures
    ∙ c.get.ensures.value
    ∙ lookup_names c.self.inside.kept.entries (λ key. key.items) (bytes_eq c.args.name.now)
    ∙ ap (λ names. lookup (bytes_eq c.args.name.now) names) c.self.view_is
