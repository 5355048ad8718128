-- the numbers of all rules are a group
use Rattle.std.proofs.Common.{◌∙◌, arith}
use Rattle.tests_of_tables.proofs.Partitions.{group_of_range}
use Rattle.tests_of_tables.proofs.groups.of_all.Goals as goal

pub build-levels-requires-clause-group : goal.build-levels-requires-clause-group
build-levels-requires-clause-group g c =
    rw (c.as_slice.ensures.value ∙ c.in_ok-group.ensures) (group_of_range _ _ _ (omega arith) (omega arith))

pub count_capped-requires-clause-group : goal.count_capped-requires-clause-group
count_capped-requires-clause-group g c =
    rw (c.as_slice-2.ensures.value ∙ c.in_ok-group.ensures) (group_of_range _ _ _ (omega arith) (omega arith))
