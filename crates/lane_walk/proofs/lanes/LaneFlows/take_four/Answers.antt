use Rattle.std.proofs.Common.{◌+◌, ap, ◌∙◌, arith}
use Rattle.lane_walk.specs.Turn.{is_busy}
use Rattle.lane_walk.proofs.NoteSteps.{and_noted, holds_still}
use Rattle.lane_walk.proofs.lanes.LaneFlows.take_four.Goals as goal

pub take_job-requires : goal.take_job-requires
take_job-requires g c =
    let k = c.loop-k.k in
    let same = holds_still c.loop-k.invariant (c.args.first + k) (omega arith) in
    let empty = ap is_busy same ∙ c.requires.idle k c.loop-k-test.true in (
      omega (arith, c.requires.width),
      (
        c.requires.width,
        (omega (arith, c.requires.first, c.loop-k-test.true), (c.loop-k.invariant.stands, empty)),
      ),
    )

pub loop-k-preserved : goal.loop-k-preserved
loop-k-preserved g c = and_noted c.loop-k.invariant c.take_job.ensures
