use Rattle.std.proofs.Common.{length, ap, arith}
use Rattle.covered_rules.proofs.Keeping.{none_kept, all_kept}
use Rattle.covered_rules.proofs.Staying.{uncovered_few}
use Rattle.covered_rules.proofs.covered.uncovered.Goals as goal

pub loop-place-init : goal.loop-place-init
loop-place-init c = rw (c.new.ensures.items, c.new-2.ensures.items) (none_kept c.args.rules.now)

pub meet-requires-clause-place : goal.meet-requires-clause-place
meet-requires-clause-place c = omega (arith, c.loop-place-test.true, ap length c.all-count.ensures.rules)

pub meet-requires-clause-few : goal.meet-requires-clause-few
meet-requires-clause-few c = c.all-count.ensures.lawful.few

pub returns-clause-places : goal.returns-clause-places
returns-clause-places c =
    all_kept c.args.rules.now c.loop-place.place c.loop-place.kept.places.items c.loop-place.kept.wide.items
    c.loop-place.invariant (omega (arith, c.loop-place-test.false, ap length c.all-count.ensures.rules))

pub returns-clause-few : goal.returns-clause-few
returns-clause-few c =
    omega (
      arith,
      ap length (returns-clause-places c),
      uncovered_few c.args.rules.now.layout c.args.rules.now.rules,
      c.all-count.ensures.lawful.few,
    )
