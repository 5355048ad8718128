use Rattle.std.proofs.Common.{ap, arith, length}
use Rattle.table_image.proofs.Written.{bounded}
use Rattle.table_image.proofs.saving.rows_after_first.Goals as goal

pub overflow_cast-result : goal.overflow_cast-result
overflow_cast-result c = omega (arith, ap length c.rows.ensures, (bounded c.args.table.now c.requires).words)

pub overflow_sub-result : goal.overflow_sub-result
overflow_sub-result c = omega (arith, ap length c.rows.ensures, (bounded c.args.table.now c.requires).rows)

pub returns-clause-some : goal.returns-clause-some
returns-clause-some c = (bounded c.args.table.now c.requires).rows
