use Rattle.std.proofs.Common.{arith}
use Rattle.std.specs.Prelude.{slice_index}
use Rattle.scalar_walk.proofs.Counted.{four_of}
use Rattle.scalar_walk.proofs.wide.sum_of.Goals as goal

pub returns : goal.returns
returns c =
    omega (
      arith,
      c.from.ensures,
      c.from-2.ensures,
      c.from-3.ensures,
      c.from-4.ensures,
      four_of (slice_index c.args.numbers),
    )
