use Rattle.std.proofs.Common.{List, ◌++◌, ◌∙◌, ap, sym}
use Rattle.std.specs.Option.{option_to_list}
use Rattle.group_states.specs.Levels.{LevelsView}
use Rattle.rule_split.specs.Counted.{levels_in}
use Rattle.rule_split.proofs.Counts.{levels_more}
use Rattle.rule_split.proofs.split.kept_levels.Goals as goal

pub loop-group-preserved : goal.loop-group-preserved
loop-group-preserved c =
    c.in_ok-put_levels.ensures
    ∙ ap (λ (kept : List LevelsView). kept ++ option_to_list (levels_in c.in-Some.group)) c.loop-group.invariant
    ∙ sym (levels_more c.loop-group.yielded c.in-Some.group)
