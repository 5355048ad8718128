use Rattle.std.proofs.Common.{◌∙◌, None, map, ap, sym, arith}
use Rattle.rule_split.specs.Counted.{group_in, IsPassed}
use Rattle.rule_split.specs.Split.{to_split, words_of_group}
use Rattle.rule_split.proofs.Counts.{fits_is, most_is_found}
use Rattle.rule_split.proofs.Searching.{all_first, passed_counted, same_length}
use Rattle.rule_split.proofs.turn.find_over.Goals as goal

pub count_at-requires-clause-few : goal.count_at-requires-clause-few
count_at-requires-clause-few c =
    omega (
      arith,
      c.requires.few,
      same_length c.args.groups.now.items c.loop-place.groups.items c.loop-place.invariant.0,
    )

pub count_at-requires-clause-place : goal.count_at-requires-clause-place
count_at-requires-clause-place c =
    omega (
      arith,
      c.loop-place-test.true,
      same_length c.args.groups.now.items c.loop-place.groups.items c.loop-place.invariant.0,
    )

pub count_at-requires-clause-partition : goal.count_at-requires-clause-partition
count_at-requires-clause-partition c = rw c.loop-place.invariant.0 c.requires.partition

pub returns-then-total-budget-clause-found : goal.returns-then-total-budget-clause-found
returns-then-total-budget-clause-found c =
    let set = c.args.rules.now in
    let budget = c.args.budget in
    let groups = c.loop-place.groups.items in
    fits_is set budget groups c.total.result
    (passed_counted set budget groups (all_first (IsPassed set budget) groups c.loop-place.place
    (omega (
      arith,
      c.loop-place-test.false,
      same_length c.args.groups.now.items groups c.loop-place.invariant.0,
    ))
    c.loop-place.invariant.2))
    (rw c.as_slice.ensures.value at c.total.ensures) c.if-total-budget.true
    ∙ ap (to_split (words_of_group set) budget) c.loop-place.invariant.0

pub returns-clause-found : goal.returns-clause-found
returns-clause-found c =
    let set = c.args.rules.now in
    let budget = c.args.budget in
    let groups = c.loop-place.groups.items in
    most_is_found set budget groups c.total.result c.split_place.result
    (passed_counted set budget groups (all_first (IsPassed set budget) groups c.loop-place.place
    (omega (
      arith,
      c.loop-place-test.false,
      same_length c.args.groups.now.items groups c.loop-place.invariant.0,
    ))
    c.loop-place.invariant.2))
    (rw c.as_slice.ensures.value at c.total.ensures) c.if-total-budget.false
    (rw c.as_slice-2.ensures.value at c.split_place.ensures)
    ∙ ap (to_split (words_of_group set) budget) c.loop-place.invariant.0
