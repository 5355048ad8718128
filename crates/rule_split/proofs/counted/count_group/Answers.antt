use Rattle.std.proofs.Common.{ap, sym, ◌∙◌, arith}
use Rattle.group_states.specs.Levels.{LevelsView, levels_of}
use Rattle.rule_split.proofs.Totals.{group_of_levels}
use Rattle.rule_split.proofs.counted.count_group.Goals as goal

pub returns-in-Ok-clause-group : goal.returns-in-Ok-clause-group
returns-in-Ok-clause-group c =
    ap (λ (levels : LevelsView). levels.group) c.in-Ok.ensures.levels
    ∙ group_of_levels c.args.rules.now c.as_slice.result.now
    ∙ c.as_slice.ensures.value

pub returns-in-Ok-clause-counted : goal.returns-in-Ok-clause-counted
returns-in-Ok-clause-counted c = (
  c.in-Ok.ensures.levels
      ∙ ap (levels_of c.args.rules.now)
      (sym (ap (λ (levels : LevelsView). levels.group) c.in-Ok.ensures.levels
      ∙ group_of_levels c.args.rules.now c.as_slice.result.now)),
  omega (arith, c.in-Ok.ensures.within, c.requires.cap),
)
