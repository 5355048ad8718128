use Rattle.std.proofs.Common.{arith, sym}
use Rattle.std.specs.Prelude.{nat_lt, slice_index, if◌then◌else◌}
use Rattle.scalar_walk.specs.Lanes.{ended}
use Rattle.scalar_walk.proofs.Below.{sum_more, sum_none}
use Rattle.scalar_walk.proofs.Closed.{counts_one}
use Rattle.scalar_walk.proofs.wide.Lanes.ended.Goals as goal

pub loop-lane-init : goal.loop-lane-init
loop-lane-init c =
    (sym (sum_none (λ j. if nat_lt (slice_index c.args.self.now.lows j) ended then 0 else 1)), omega arith)

pub loop-lane-preserved : goal.loop-lane-preserved
loop-lane-preserved c =
    let one = counts_one (slice_index c.args.self.now.lows c.loop-lane.lane) c.from-count.ensures in (
      omega (
        arith,
        c.loop-lane.invariant.0,
        sum_more (λ j. if nat_lt (slice_index c.args.self.now.lows j) ended then 0 else 1) c.loop-lane.lane,
        one.0,
      ),
      omega (arith, c.loop-lane.invariant.1, one.1),
    )
