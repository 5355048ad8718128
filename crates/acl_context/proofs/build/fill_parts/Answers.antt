use Rattle.acl_context.proofs.Building.{parts_hold}
use Rattle.acl_context.proofs.build.fill_parts.Goals as goal

pub fill-requires-clause-few : goal.fill-requires-clause-few
fill-requires-clause-few c = c.requires.few

pub fill-requires-clause-groups : goal.fill-requires-clause-groups
fill-requires-clause-groups c = c.requires.groups

pub fill-requires-clause-levels : goal.fill-requires-clause-levels
fill-requires-clause-levels c = c.requires.each

pub fill-requires-clause-size : goal.fill-requires-clause-size
fill-requires-clause-size c = c.requires.size

pub returns-in-Ok-clause-table : goal.returns-in-Ok-clause-table
returns-in-Ok-clause-table c =
    parts_hold c.args.rules.now c.args.parts.now c.in-Ok.table c.requires c.in-Ok.ensures.table c.in-Ok.ensures.serves
    c.in-Ok.ensures.words
