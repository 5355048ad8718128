use Rattle.std.proofs.Common.{arith, refl}
use Rattle.scalar_walk.proofs.Closed.{written_more}
use Rattle.scalar_walk.proofs.wide.Lanes.write_rows.Goals as goal

pub loop-lane-preserved : goal.loop-lane-preserved
loop-lane-preserved c =
    let l = c.loop-lane in
    written_more l.invariant refl
    (omega (arith, c.requires.keys l.lane c.loop-lane-test.true, c.requires.room, l.invariant.len)) refl
