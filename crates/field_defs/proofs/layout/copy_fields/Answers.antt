use Rattle.std.proofs.Common.{arith}
use Rattle.std.proofs.lemmas.Grind.{common_steps}
use Rattle.std.proofs.lemmas.Slice.{take-put_mid}
use Rattle.field_defs.proofs.Keys.{field_within_buffer, field_within_key, key_of_more}
use Rattle.field_defs.proofs.layout.copy_fields.Goals as goal

pub slice_bounds-bytes-end : goal.slice_bounds-bytes-end
slice_bounds-bytes-end c = grind (arith, field_within_buffer)

pub loop-def-preserved : goal.loop-def-preserved
loop-def-preserved c = (grind (arith, common_steps), grind (arith, common_steps, take-put_mid, key_of_more))

pub overflow_add-at : goal.overflow_add-at
overflow_add-at c = grind (arith, field_within_key)

pub slice_bounds-copy_from_slice-end : goal.slice_bounds-copy_from_slice-end
slice_bounds-copy_from_slice-end c = grind (arith, field_within_key)

pub overflow_add-at-in-loop-def : goal.overflow_add-at-in-loop-def
overflow_add-at-in-loop-def c = grind (arith, field_within_key)
