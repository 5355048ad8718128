use Rattle.std.proofs.Common.{arith}
use Rattle.flat_table.specs.Table.{view_of}
use Rattle.flat_table.proofs.Shape.{sound_parts}
use Rattle.flat_table.proofs.table.Table.total_words.Goals as goal

pub overflow_mul-result : goal.overflow_mul-result
overflow_mul-result c =
    let small = (sound_parts (view_of c.self.inside.parts) c.self.invariant.sound).shape.small in
    omega arith

pub overflow_add-result : goal.overflow_add-result
overflow_add-result c =
    let small = (sound_parts (view_of c.self.inside.parts) c.self.invariant.sound).shape.small in
    omega arith
