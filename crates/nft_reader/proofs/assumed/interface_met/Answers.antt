-- The values are tested by their views.
use Rattle.std.proofs.Common.{sym, ◌∙◌, refl}
use Rattle.nft_reader.specs.Assumed.{is_interface_value, meets_value}
use Rattle.nft_reader.proofs.Views.{all_views, any_view}
use Rattle.nft_reader.proofs.assumed.interface_met.Goals as goal

pub returns-then-not-are_interfaces : goal.returns-then-not-are_interfaces
returns-then-not-are_interfaces c =
    rw (all_views (is_interface_value c.args.naming) c.args.values.now
    ∙ sym c.are_interfaces.ensures ∙ c.if-not-are_interfaces.true) refl

pub returns-in-Some : goal.returns-in-Some
returns-in-Some c =
    rw (all_views (is_interface_value c.args.naming) c.args.values.now
    ∙ sym c.are_interfaces.ensures ∙ c.if-not-are_interfaces.false)
    (rw (sym c.in-Some.ensures)
    (rw (any_view (meets_value c.in-Some.name.now) c.args.values.now ∙ sym c.has_interface.ensures) refl))

pub returns-in-None : goal.returns-in-None
returns-in-None c =
    rw (all_views (is_interface_value c.args.naming) c.args.values.now
    ∙ sym c.are_interfaces.ensures ∙ c.if-not-are_interfaces.false) (rw (sym c.in-None.ensures) refl)
