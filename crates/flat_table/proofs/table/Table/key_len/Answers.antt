use Rattle.std.proofs.Common.{arith}
use Rattle.flat_table.specs.Table.{view_of}
use Rattle.flat_table.proofs.Shape.{sound_parts}
use Rattle.flat_table.proofs.table.Table.key_len.Goals as goal

pub returns-clause-some : goal.returns-clause-some
returns-clause-some c =
    let some = (sound_parts (view_of c.self.inside.parts) c.self.invariant.sound).shape.key_some in
    omega arith

pub returns-clause-bound : goal.returns-clause-bound
returns-clause-bound c =
    let bound = (sound_parts (view_of c.self.inside.parts) c.self.invariant.sound).shape.key_bound in
    omega arith
