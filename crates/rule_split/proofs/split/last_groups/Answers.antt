use Rattle.std.proofs.Common.{◌∙◌, arith}
use Rattle.rule_split.proofs.Plans.{no_turn, turn_more, last_turn, turns_part, turns_few}
use Rattle.rule_split.proofs.split.last_groups.Goals as goal

pub loop-init : goal.loop-init
loop-init c =
    (c.in_ok-groups.ensures.groups ∙ no_turn c.args.rules.now c.args.budget, c.in_ok-groups.ensures.right c.args.budget)

pub take_turn-requires-clause-few : goal.take_turn-requires-clause-few
take_turn-requires-clause-few c =
    let few = turns_few c.args.rules.now c.args.budget c.loop.counter c.loop.groups.items
    c.loop.invariant.0 in
    omega (arith, few, c.loop-test.true)

pub take_turn-requires-clause-partition : goal.take_turn-requires-clause-partition
take_turn-requires-clause-partition c =
    turns_part c.args.rules.now c.args.budget c.loop.counter c.loop.groups.items c.loop.invariant.0

pub loop-preserved : goal.loop-preserved
loop-preserved c = (
  c.in_ok-take_turn.ensures.groups
      ∙ turn_more c.args.rules.now c.args.budget c.loop.counter _ c.loop.invariant.0,
  c.in_ok-take_turn.ensures.right,
)

pub returns-clause-groups : goal.returns-clause-groups
returns-clause-groups c =
    c.in_ok-count_all.ensures.groups
    ∙ c.loop.invariant.0 ∙ last_turn c.args.rules.now c.args.budget c.loop.counter (omega arith)

pub count_all-requires-clause-partition : goal.count_all-requires-clause-partition
count_all-requires-clause-partition c =
    turns_part c.args.rules.now c.args.budget c.loop.counter c.loop.groups.items c.loop.invariant.0
