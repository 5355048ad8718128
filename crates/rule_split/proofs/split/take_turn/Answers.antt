use Rattle.std.proofs.Common.{None, Some, List, ℕ, length, map, ◌∙◌, ap, sym, arith}
use Rattle.std.specs.Option.{option_map_or}
use Rattle.std.proofs.lemmas.List.{length-map}
use Rattle.rule_set.specs.Groups.{IsPartition}
use Rattle.rule_split.specs.Counted.{group_in}
use Rattle.rule_split.specs.Split.{split_at, words_of_group}
use Rattle.rule_split.proofs.Counts.{turn_is_split}
use Rattle.rule_split.proofs.Groups.{to_split_within}
use Rattle.rule_split.proofs.split.take_turn.Goals as goal

pub returns-in-None-clause-groups : goal.returns-in-None-clause-groups
returns-in-None-clause-groups c =
    let set = c.args.rules.now in
    let groups = map group_in c.args.groups.now.items in
    c.in_ok-find_over.ensures.groups
    ∙ sym (turn_is_split set c.args.budget groups
    ∙ ap (λ found. option_map_or (split_at set groups) found groups)
    (sym (sym c.in-None.is ∙ c.in_ok-find_over.ensures.found)))

pub split_at-requires-clause-place : goal.split_at-requires-clause-place
split_at-requires-clause-place c =
    let set = c.args.rules.now in
    let groups = map group_in c.args.groups.now.items in
    omega (
      arith,
      to_split_within (words_of_group set) c.args.budget groups c.in-Some.place
          (sym (sym c.in-Some.is ∙ c.in_ok-find_over.ensures.found)),
      length-map c.args.groups.now.items group_in,
      length-map c.find_over.new.groups.items group_in,
      ap length c.in_ok-find_over.ensures.groups,
    )

pub split_at-requires-clause-partition : goal.split_at-requires-clause-partition
split_at-requires-clause-partition c = rw c.in_ok-find_over.ensures.groups c.requires.partition

pub returns-in_ok-split_at-in-Some-clause-groups : goal.returns-in_ok-split_at-in-Some-clause-groups
returns-in_ok-split_at-in-Some-clause-groups c =
    let set = c.args.rules.now in
    let groups = map group_in c.args.groups.now.items in
    c.in_ok-split_at-in-Some.ensures.groups
    ∙ ap (λ l. split_at set l c.in-Some.place) c.in_ok-find_over.ensures.groups
    ∙ sym (turn_is_split set c.args.budget groups
    ∙ ap (λ found. option_map_or (split_at set groups) found groups)
    (sym (sym c.in-Some.is ∙ c.in_ok-find_over.ensures.found)))

pub returns-in_ok-split_at-in-Some-clause-right : goal.returns-in_ok-split_at-in-Some-clause-right
returns-in_ok-split_at-in-Some-clause-right c =
    c.in_ok-split_at-in-Some.ensures.right c.args.budget c.in_ok-find_over.ensures.right
