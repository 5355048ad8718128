use Rattle.std.proofs.Common.{ap, ◌∙◌}
use Rattle.group_states.specs.Levels.{levels_of}
use Rattle.rule_order.proofs.Parts.{first_group, first_is}
use Rattle.rule_order.proofs.part.first_part.Goals as goal

pub build-requires-clause-group : goal.build-requires-clause-group
build-requires-clause-group c =
    rw c.as_slice.ensures.value
    (first_group c.args.rules.now c.args.left.now c.in_ok-group.group.items c.requires.left c.in_ok-group.ensures)

pub returns-in-Ok : goal.returns-in-Ok
returns-in-Ok c =
    first_is c.args.rules.now c.args.left.now c.in_ok-group.group.items c.args.cap c.in-Ok.levels c.requires.left
    c.in_ok-group.ensures
    (c.in-Ok.ensures.levels ∙ ap (levels_of c.args.rules.now) c.as_slice.ensures.value)
    c.in-Ok.ensures.within
