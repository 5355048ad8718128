-- the marks of the first keys are written
use Rattle.std.proofs.Common.{◌*◌}
use Rattle.list_lemmas.proofs.Positions.{WrittenTo}
use Rattle.acl_c.specs.Marks.{first_marks}
use Rattle.acl_c.proofs.marks.mark_keys.Given as goal

abbrev pub invariant-loop-k : goal.invariant-loop-k
invariant-loop-k l = WrittenTo l.fn.marks (l.k * l.count) (first_marks l.table l.count l.keys l.k) l.marks
