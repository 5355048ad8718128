use Rattle.std.proofs.Common.{◌∙◌, subst}
use Rattle.acl_context.proofs.Building.{levels_are, total_fits, filled_is, plans_are_fillable, words_are, IsFillable}
use Rattle.table_fill.specs.Serves.{Serves}
use Rattle.acl_context.proofs.build.make_table.Goals as goal

-- the plan can be filled
fillable : (c : goal.After-levels) → IsFillable c.args.rules.now c.levels.result.now
fillable c =
    let rules = c.args.rules.now in
    let plan = c.in-Ok.plan in
    rw (levels_are rules c.args.budget plan c.levels.result.now c.in-Ok.ensures.plan c.levels.ensures)
    (plans_are_fillable rules c.args.budget c.requires.budget
    (total_fits rules c.args.budget plan c.in-Ok.ensures.plan c.in-Ok.ensures.fits))

pub fill-requires-clause-few : goal.fill-requires-clause-few
fill-requires-clause-few c = (fillable c).few

pub fill-requires-clause-groups : goal.fill-requires-clause-groups
fill-requires-clause-groups c = (fillable c).groups

pub fill-requires-clause-levels : goal.fill-requires-clause-levels
fill-requires-clause-levels c = (fillable c).each

pub fill-requires-clause-size : goal.fill-requires-clause-size
fill-requires-clause-size c = (fillable c).size

pub returns-in-Ok-fill-clause-table : goal.returns-in-Ok-fill-clause-table
returns-in-Ok-fill-clause-table c =
    let rules = c.args.rules.now in
    let levels = c.levels.result.now in
    c.in-Ok-fill.ensures.table
    ∙ filled_is rules c.args.budget levels
    (levels_are rules c.args.budget c.in-Ok.plan levels c.in-Ok.ensures.plan c.levels.ensures)

pub returns-in-Ok-fill-clause-serves : goal.returns-in-Ok-fill-clause-serves
returns-in-Ok-fill-clause-serves c =
    subst (λ table. Serves c.args.rules.now table) (returns-in-Ok-fill-clause-table c) c.in-Ok-fill.ensures.serves

pub returns-in-Ok-fill-clause-fits : goal.returns-in-Ok-fill-clause-fits
returns-in-Ok-fill-clause-fits c =
    total_fits c.args.rules.now c.args.budget c.in-Ok.plan c.in-Ok.ensures.plan c.in-Ok.ensures.fits

pub returns-in-Ok-fill-clause-words : goal.returns-in-Ok-fill-clause-words
returns-in-Ok-fill-clause-words c =
    let rules = c.args.rules.now in
    let plan = c.in-Ok.plan in
    words_are rules c.args.budget c.in-Ok-fill.table c.levels.result.now (returns-in-Ok-fill-clause-table c)
    (levels_are rules c.args.budget plan c.levels.result.now c.in-Ok.ensures.plan c.levels.ensures)
    (total_fits rules c.args.budget plan c.in-Ok.ensures.plan c.in-Ok.ensures.fits) c.in-Ok-fill.ensures.words
