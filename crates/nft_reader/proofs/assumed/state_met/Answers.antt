-- The values are tested by their views.
use Rattle.std.proofs.Common.{sym, ◌∙◌, refl}
use Rattle.nft_reader.specs.Assumed.{is_state_value, is_that_value}
use Rattle.nft_reader.proofs.Views.{all_views, any_view}
use Rattle.nft_reader.proofs.assumed.state_met.Goals as goal

pub returns-then-not-are_states : goal.returns-then-not-are_states
returns-then-not-are_states c =
    rw (all_views is_state_value c.args.values.now ∙ sym c.are_states.ensures ∙ c.if-not-are_states.true) refl

pub returns-in-Some : goal.returns-in-Some
returns-in-Some c =
    rw (all_views is_state_value c.args.values.now ∙ sym c.are_states.ensures ∙ c.if-not-are_states.false)
    (rw (sym c.assumed_state.ensures ∙ c.in-Some.is)
    (rw (any_view (is_that_value c.in-Some.number) c.args.values.now ∙ sym c.has_state.ensures) refl))

pub returns-in-None : goal.returns-in-None
returns-in-None c =
    rw (all_views is_state_value c.args.values.now ∙ sym c.are_states.ensures ∙ c.if-not-are_states.false)
    (rw (sym c.assumed_state.ensures ∙ c.in-None.is) refl)
