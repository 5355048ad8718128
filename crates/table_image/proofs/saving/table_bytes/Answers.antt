use Rattle.std.proofs.Common.{ap, arith, length}
use Rattle.table_image.proofs.Written.{bounded}
use Rattle.table_image.proofs.saving.table_bytes.Goals as goal

pub overflow_mul-result-3 : goal.overflow_mul-result-3
overflow_mul-result-3 c = omega (arith, c.total_words.ensures, (bounded c.args.table.now c.tries.ensures.sound).words)

pub overflow_add-result-3 : goal.overflow_add-result-3
overflow_add-result-3 c = omega (
  arith,
  c.tries.ensures.bound,
  ap length c.level_lens.ensures,
  c.total_words.ensures,
  (bounded c.args.table.now c.tries.ensures.sound).words,
  (bounded c.args.table.now c.tries.ensures.sound).levels,
)

pub overflow_sub-result : goal.overflow_sub-result
overflow_sub-result c = omega (
  arith,
  c.total_words.ensures,
  (bounded c.args.table.now c.tries.ensures.sound).rows,
)

pub returns : goal.returns
returns c = omega (
  arith,
  c.tries.ensures.bound,
  ap length c.level_lens.ensures,
  c.total_words.ensures,
  (bounded c.args.table.now c.tries.ensures.sound).words,
  (bounded c.args.table.now c.tries.ensures.sound).levels,
)
