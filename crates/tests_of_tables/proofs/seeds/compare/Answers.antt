-- numbers of rules, one after the other, are a group
use Rattle.std.proofs.Common.{◌∙◌, arith}
use Rattle.tests_of_tables.proofs.Partitions.{group_of_range}
use Rattle.tests_of_tables.proofs.seeds.compare.Goals as goal

pub build-requires-clause-group : goal.build-requires-clause-group
build-requires-clause-group g c =
    rw (c.as_slice.ensures.value ∙ c.in_ok-group.ensures) (group_of_range _ _ _ (omega arith) (omega arith))
