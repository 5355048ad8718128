use Rattle.std.proofs.Common.{◌+◌, ◌∷◌, ◌++◌, [], List, map, take, drop, ◌∙◌, ap}
use Rattle.std.proofs.lemmas.List.Elements.{All-same}
use Rattle.std.proofs.lemmas.Result.{on_ok_weaker}
use Rattle.rule_split.specs.declared.counted.Counted.{Counted}
use Rattle.rule_split.specs.declared.counted.Counted.TheVariants.{Uncounted}
use Rattle.rule_split.specs.Counted.{group_in, IsRight}
use Rattle.rule_split.specs.Divide.{divided}
use Rattle.rule_split.proofs.Splitting.{group_at, group_is, split_groups, split_right}
use Rattle.rule_split.proofs.split.split_at.Goals as goal
use Rattle.list_lemmas.proofs.Parts.{two_for_one}

pub divide-requires : goal.divide-requires
divide-requires c =
    rw c.group.ensures
    (group_is c.args.rules.now c.args.groups.now.items c.args.place c.remove-group.result c.requires.place
    c.remove-group.ensures.value c.requires.partition)

pub returns-clause-groups : goal.returns-clause-groups
returns-clause-groups c =
    let set = c.args.rules.now in
    let groups = c.args.groups.now.items in
    let place = c.args.place in
    let first = Uncounted c.in_ok-two.two.first in
    let second = Uncounted c.in_ok-two.two.second in
    let at = group_at groups place c.remove-group.result c.requires.place c.remove-group.ensures.value in
    on_ok_weaker c.put_two.result (λ put.
    ap (map group_in) (put ∙ ap (λ (rest : List Counted). take place rest ++ first ∷ second ∷ drop place rest)
    c.remove-group.ensures.items ∙ two_for_one groups place first second c.requires.place)
    ∙ split_groups set groups place first second
    (c.in_ok-two.ensures ∙ ap (divided set) (c.group.ensures ∙ at))) c.put_two.ensures

pub returns-clause-right : goal.returns-clause-right
returns-clause-right c budget right =
    let set = c.args.rules.now in
    let groups = c.args.groups.now.items in
    let place = c.args.place in
    let first = Uncounted c.in_ok-two.two.first in
    let second = Uncounted c.in_ok-two.two.second in
    on_ok_weaker c.put_two.result (λ put.
    All-same (IsRight set budget) c.put_two.new.groups.items
    (take place groups ++ first ∷ second ∷ drop (place + 1) groups)
    (put ∙ ap (λ (rest : List Counted). take place rest ++ first ∷ second ∷ drop place rest)
    c.remove-group.ensures.items ∙ two_for_one groups place first second c.requires.place)
    (split_right set budget groups place first second right tt tt)) c.put_two.ensures
