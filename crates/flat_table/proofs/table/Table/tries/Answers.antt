use Rattle.std.proofs.Common.{arith}
use Rattle.flat_table.specs.Table.{view_of}
use Rattle.flat_table.proofs.Shape.{sound_parts}
use Rattle.flat_table.proofs.table.Table.tries.Goals as goal

pub returns-clause-bound : goal.returns-clause-bound
returns-clause-bound c =
    let few = (sound_parts (view_of c.self.inside.parts) c.self.invariant.sound).shape.few in
    omega arith
