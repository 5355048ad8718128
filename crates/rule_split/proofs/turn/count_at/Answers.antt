use Rattle.std.proofs.Common.{◌+◌, ◌∙◌, ◌∷◌, ◌++◌, List, map, take, drop, ap, sym, arith}
use Rattle.std.specs.List.{insert, remove}
use Rattle.std.proofs.lemmas.List.Elements.{All-same, All-weaker}
use Rattle.rule_split.specs.declared.counted.Counted.{Counted}
use Rattle.rule_split.specs.Counted.{cap_beside, group_in, IsPassed, IsRight, IsWithin}
use Rattle.rule_split.specs.Split.{can_split}
use Rattle.rule_split.proofs.Searching.{counted_right, not_over_is, over_place, right_within}
use Rattle.rule_split.proofs.Splitting.{all_at, back_first, back_right, group_is, one_for_one, others_hold, others_len}
use Rattle.rule_split.proofs.Splitting.{same_groups}
use Rattle.rule_split.proofs.turn.count_at.Goals as goal

pub cap_beside-cap-requires-clause-few : goal.cap_beside-cap-requires-clause-few
cap_beside-cap-requires-clause-few c =
    rw (c.as_slice.ensures.value, c.remove-group.ensures.items)
    (omega (arith, c.requires.few, others_len c.args.groups.now.items c.args.place c.requires.place))

pub cap_beside-cap-requires-clause-within : goal.cap_beside-cap-requires-clause-within
cap_beside-cap-requires-clause-within c =
    rw (c.as_slice.ensures.value, c.remove-group.ensures.items)
    (others_hold (IsWithin c.args.budget) c.args.groups.now.items c.args.place
    (All-weaker (IsRight c.args.rules.now c.args.budget) (IsWithin c.args.budget)
    (right_within c.args.rules.now c.args.budget) c.args.groups.now.items c.requires.right))

pub count-requires-clause-group : goal.count-requires-clause-group
count-requires-clause-group c =
    group_is c.args.rules.now c.args.groups.now.items c.args.place c.remove-group.result c.requires.place
    c.remove-group.ensures.value c.requires.partition

pub count-requires-clause-right : goal.count-requires-clause-right
count-requires-clause-right c =
    all_at (IsRight c.args.rules.now c.args.budget) c.args.groups.now.items c.args.place c.remove-group.result
    c.requires.place c.remove-group.ensures.value c.requires.right

pub put_back-requires : goal.put_back-requires
put_back-requires c =
    rw c.remove-group.ensures.items
    (omega (arith, c.requires.place, others_len c.args.groups.now.items c.args.place c.requires.place))

pub returns-clause-groups : goal.returns-clause-groups
returns-clause-groups c =
    let groups = c.args.groups.now.items in
    let place = c.args.place in
    let counted = c.in_ok-counted.counted in
    ap (map group_in) (c.in_ok-put_back.ensures
    ∙ ap (λ (rest : List Counted). insert rest place counted) c.remove-group.ensures.items
    ∙ one_for_one groups place counted c.requires.place)
    ∙ same_groups groups place c.remove-group.result counted c.requires.place c.remove-group.ensures.value
    c.in_ok-counted.ensures.group

pub returns-clause-right : goal.returns-clause-right
returns-clause-right c =
    let set = c.args.rules.now in
    let groups = c.args.groups.now.items in
    let place = c.args.place in
    let counted = c.in_ok-counted.counted in
    All-same (IsRight set c.args.budget) c.put_back.new.groups.items
    (take place groups ++ counted ∷ drop (place + 1) groups)
    (c.in_ok-put_back.ensures
    ∙ ap (λ (rest : List Counted). insert rest place counted) c.remove-group.ensures.items
    ∙ one_for_one groups place counted c.requires.place)
    (back_right (IsRight set c.args.budget) groups place counted c.requires.right
    (counted_right set c.args.budget counted c.cap_beside-cap.result c.in_ok-counted.ensures.counted))

pub returns-clause-passed : goal.returns-clause-passed
returns-clause-passed c not_over =
    let set = c.args.rules.now in
    let budget = c.args.budget in
    let groups = c.args.groups.now.items in
    let place = c.args.place in
    let counted = c.in_ok-counted.counted in
    All-same (IsPassed set budget) (take (place + 1) c.put_back.new.groups.items)
    (take (place + 1) (take place groups ++ counted ∷ drop (place + 1) groups))
    (ap (take (place + 1)) (c.in_ok-put_back.ensures
    ∙ ap (λ (rest : List Counted). insert rest place counted) c.remove-group.ensures.items
    ∙ one_for_one groups place counted c.requires.place))
    (back_first (IsPassed set budget) groups place counted c.requires.place c.requires.passed
    (not_over_is set budget (remove groups place) counted c.cap_beside-cap.result c.in_ok-counted.ensures.counted
    (c.cap_beside-cap.ensures.value
    ∙ (λ i. cap_beside budget ((c.can_split.ensures ∙ ap can_split (sym c.in_ok-counted.ensures.group)) i)
    ((c.as_slice.ensures.value ∙ c.remove-group.ensures.items) i)))
    (sym c.is_over-is_over.ensures ∙ not_over)))

pub returns-clause-over : goal.returns-clause-over
returns-clause-over c over =
    let budget = c.args.budget in
    over_place c.args.rules.now budget c.args.groups.now.items c.args.place c.remove-group.result
    c.in_ok-counted.counted c.cap_beside-cap.result c.requires.place c.remove-group.ensures.value
    c.in_ok-counted.ensures.group c.requires.right c.requires.passed c.in_ok-counted.ensures.counted
    (c.cap_beside-cap.ensures.value
    ∙ (λ i. cap_beside budget (c.can_split.ensures i)
    ((c.as_slice.ensures.value ∙ c.remove-group.ensures.items) i)))
    (sym c.is_over-is_over.ensures ∙ over)
