use Rattle.std.proofs.Common.{◌∙◌, ap, sym, refl, arith}
use Rattle.std.proofs.lemmas.List.Elements.{All-nil}
use Rattle.rule_set.specs.Groups.{IsPartition}
use Rattle.rule_split.specs.Counted.{IsCounted}
use Rattle.rule_split.proofs.Searching.{all_first, same_length}
use Rattle.rule_split.proofs.split.count_all.Goals as goal

pub count_whole-requires-clause-place : goal.count_whole-requires-clause-place
count_whole-requires-clause-place c =
    omega (
      arith,
      c.loop-place-test.true,
      same_length c.args.groups.now.items c.loop-place.groups.items c.loop-place.invariant.0,
    )

pub count_whole-requires-clause-partition : goal.count_whole-requires-clause-partition
count_whole-requires-clause-partition c = rw c.loop-place.invariant.0 c.requires.partition

pub loop-place-preserved : goal.loop-place-preserved
loop-place-preserved c = (
  c.in_ok-count_whole.ensures.groups ∙ c.loop-place.invariant.0,
  c.in_ok-count_whole.ensures.right,
  c.in_ok-count_whole.ensures.counted c.loop-place.invariant.2,
)

pub returns-clause-counted : goal.returns-clause-counted
returns-clause-counted c =
    all_first (IsCounted c.args.rules.now c.args.budget) c.loop-place.groups.items c.loop-place.place
    (omega (
      arith,
      c.loop-place-test.false,
      same_length c.args.groups.now.items c.loop-place.groups.items c.loop-place.invariant.0,
    ))
    c.loop-place.invariant.2
