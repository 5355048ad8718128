use Rattle.std.proofs.Common.{◌++◌, [], ◌∷◌, List, get_or, ap, ◌∙◌}
use Rattle.rule_set.specs.Rule.{RuleView, RuleSetView}
use Rattle.covered_rules.specs.Covered.{rules_at}
use Rattle.covered_rules.proofs.Copying.{copied_more, room_left, place_there}
use Rattle.covered_rules.proofs.copies.uncovered_rules.Goals as goal

pub put_copy-requires-clause-room : goal.put_copy-requires-clause-room
put_copy-requires-clause-room c =
    rw c.loop-place.invariant
    (room_left c.args.rules.now c.deref-place-items.result.now c.loop-place.place-index c.loop-place-test.true
    (rw c.deref-place-items.ensures.value c.in_ok-places.ensures.few))

pub put_copy-requires-clause-place : goal.put_copy-requires-clause-place
put_copy-requires-clause-place c =
    place_there c.args.rules.now c.deref-place-items.result.now c.loop-place.place-index c.loop-place-test.true
    (c.deref-place-items.ensures.value ∙ c.in_ok-places.ensures.places)

pub loop-place-preserved : goal.loop-place-preserved
loop-place-preserved c =
    let set : RuleSetView = c.args.rules.now in
    let places = c.deref-place-items.result.now in
    let place = get_or places c.loop-place.place-index 0 in
    c.in_ok-put_copy.ensures
    ∙ ap (λ (copies : RuleSetView). record copies { rules = copies.rules ++ rules_at set.rules (place ∷ []) })
    c.loop-place.invariant
    ∙ ap (λ (rules : List RuleView). record set { rules = rules })
    (copied_more set.rules places c.loop-place.place-index c.loop-place-test.true)
