use Rattle.std.proofs.Common.{map, ◌∙◌, ap, refl, arith}
use Rattle.group_states.specs.Levels.{levels_of}
use Rattle.rule_split.proofs.Plans.{last_few, total_of_last, all_kept}
use Rattle.rule_split.proofs.split.Split.new.Goals as goal

pub total-total-requires-clause-few : goal.total-total-requires-clause-few
total-total-requires-clause-few c =
    rw c.as_slice.ensures.value (last_few c.args.rules.now c.args.budget c.in_ok-groups.groups.items
    c.in_ok-groups.ensures.groups)

pub returns-clause-split : goal.returns-clause-split
returns-clause-split c =
    let set = c.args.rules.now in
    let groups = c.in_ok-groups.groups.items in
    let is = rw c.as_slice.ensures.value at c.total-total.ensures in
    record {
      total_is = is ∙ total_of_last set c.args.budget groups c.in_ok-groups.ensures.groups
          c.in_ok-groups.ensures.counted;
      budget_is = refl;
      kept_are = λ within. all_kept set c.args.budget groups c.in_ok-groups.ensures.counted
          (omega (arith, is, within))
          ∙ ap (map (levels_of set)) c.in_ok-groups.ensures.groups;
    }
