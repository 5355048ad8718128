use Rattle.std.proofs.Common.{◌+◌, List, ◌∙◌, ap}
use Rattle.std.specs.List.{insert}
use Rattle.rule_split.specs.declared.counted.Counted.{Counted}
use Rattle.rule_split.proofs.Counts.{two_in}
use Rattle.rule_split.proofs.split.put_two.Goals as goal

pub returns : goal.returns
returns c =
    c.in_ok-insert-2.ensures.items
    ∙ ap (λ (groups : List Counted). insert groups (c.args.place + 1) c.args.second) c.in_ok-insert.ensures.items
    ∙ two_in c.args.groups.now.items c.args.place c.args.first c.args.second c.requires
