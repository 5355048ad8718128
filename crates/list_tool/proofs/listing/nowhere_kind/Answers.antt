-- The cause is that of the rule at the place.
use Rattle.std.proofs.Common.{◌∙◌, ap, map}
use Rattle.std.specs.Prelude.{slice_get}
use Rattle.list_tool.specs.Listing.{cause_in, led_nowhere, number_of_place}
use Rattle.list_tool.proofs.listing.nowhere_kind.Goals as goal

pub returns-in-Some : goal.returns-in-Some
returns-in-Some c =
    let handle = c.number_of_place-handle.ensures
    ∙ ap (λ chains. number_of_place chains c.args.at) c.deref.ensures.value in
    ap led_nowhere (c.in-Some.ensures
    ∙ (λ i. cause_in (handle i)
    (slice_get (map (λ faults. faults.items) (c.deref-2.ensures.value i)) c.args.at.chain)))
