use Rattle.std.proofs.Common.{◌+◌, ◌∙◌, ◌∷◌, ◌++◌, List, map, take, drop, ap, arith}
use Rattle.std.specs.List.{insert}
use Rattle.std.proofs.lemmas.List.Elements.{All-same}
use Rattle.rule_split.specs.declared.counted.Counted.{Counted}
use Rattle.rule_split.specs.Counted.{group_in, IsCounted, IsRight}
use Rattle.rule_split.proofs.Searching.{counted_right, counted_whole}
use Rattle.rule_split.proofs.Splitting.{all_at, back_first, back_right, group_is, one_for_one, others_len}
use Rattle.rule_split.proofs.Splitting.{same_groups}
use Rattle.rule_split.proofs.turn.count_whole.Goals as goal

pub count-requires-clause-group : goal.count-requires-clause-group
count-requires-clause-group c =
    group_is c.args.rules.now c.args.groups.now.items c.args.place c.remove-group.result c.requires.place
    c.remove-group.ensures.value c.requires.partition

pub count-requires-clause-right : goal.count-requires-clause-right
count-requires-clause-right c =
    all_at (IsRight c.args.rules.now c.args.budget) c.args.groups.now.items c.args.place c.remove-group.result
    c.requires.place c.remove-group.ensures.value c.requires.right

pub put_back-requires : goal.put_back-requires
put_back-requires c =
    rw c.remove-group.ensures.items
    (omega (arith, c.requires.place, others_len c.args.groups.now.items c.args.place c.requires.place))

pub returns-clause-groups : goal.returns-clause-groups
returns-clause-groups c =
    let groups = c.args.groups.now.items in
    let place = c.args.place in
    let counted = c.in_ok-counted.counted in
    ap (map group_in) (c.in_ok-put_back.ensures
    ∙ ap (λ (rest : List Counted). insert rest place counted) c.remove-group.ensures.items
    ∙ one_for_one groups place counted c.requires.place)
    ∙ same_groups groups place c.remove-group.result counted c.requires.place c.remove-group.ensures.value
    c.in_ok-counted.ensures.group

pub returns-clause-right : goal.returns-clause-right
returns-clause-right c =
    let set = c.args.rules.now in
    let groups = c.args.groups.now.items in
    let place = c.args.place in
    let counted = c.in_ok-counted.counted in
    All-same (IsRight set c.args.budget) c.put_back.new.groups.items
    (take place groups ++ counted ∷ drop (place + 1) groups)
    (c.in_ok-put_back.ensures
    ∙ ap (λ (rest : List Counted). insert rest place counted) c.remove-group.ensures.items
    ∙ one_for_one groups place counted c.requires.place)
    (back_right (IsRight set c.args.budget) groups place counted c.requires.right
    (counted_right set c.args.budget counted c.args.budget c.in_ok-counted.ensures.counted))

pub returns-clause-counted : goal.returns-clause-counted
returns-clause-counted c before =
    let set = c.args.rules.now in
    let budget = c.args.budget in
    let groups = c.args.groups.now.items in
    let place = c.args.place in
    let counted = c.in_ok-counted.counted in
    All-same (IsCounted set budget) (take (place + 1) c.put_back.new.groups.items)
    (take (place + 1) (take place groups ++ counted ∷ drop (place + 1) groups))
    (ap (take (place + 1)) (c.in_ok-put_back.ensures
    ∙ ap (λ (rest : List Counted). insert rest place counted) c.remove-group.ensures.items
    ∙ one_for_one groups place counted c.requires.place))
    (back_first (IsCounted set budget) groups place counted c.requires.place before
    (counted_whole set budget counted c.in_ok-counted.ensures.counted))
