use Rattle.std.proofs.Common.{◌+◌, ap, arith, subst, sym}
use Rattle.lane_walk.specs.declared.fleet.Course.{Course}
use Rattle.lane_walk.proofs.FleetSettles.{BeginsTo, begins_none, begins_more}
use Rattle.lane_walk.proofs.fleet.Fleet.begin.Goals as goal

pub loop-lane-init : goal.loop-lane-init
loop-lane-init g c = begins_none c.args.course

pub set_out-requires : goal.set_out-requires
set_out-requires g c =
    let b = c.loop-lane.invariant in
    omega (
      arith,
      b.given,
      c.loop-lane-test.true,
      c.min-lane-end.ensures,
      c.requires.jobs,
      ap (λ (course : Course). course.len) b.course_is,
      c.requires.len,
      ap (λ (course : Course). course.first) b.course_is,
      c.requires.first,
    )

pub loop-lane-preserved : goal.loop-lane-preserved
loop-lane-preserved g c = subst (BeginsTo c.args.course (c.loop-lane.lane + 1)) (sym c.set_out.ensures)
    (begins_more c.loop-lane.invariant (omega (arith, c.loop-lane-test.true, c.min-lane-end.ensures))
    (omega (arith, c.loop-lane-test.true, c.min-lane-end.ensures)))

pub returns-clause-given : goal.returns-clause-given
returns-clause-given g c = omega (
  arith,
  c.loop-lane.invariant.given,
  c.loop-lane.auto.lane-end,
  c.loop-lane-test.false,
  c.min-lane-end.ensures,
)

pub returns-clause-begun : goal.returns-clause-begun
returns-clause-begun g c lane less =
    c.loop-lane.invariant.begun lane (omega (arith, less, c.loop-lane.invariant.given))

pub returns-clause-empty : goal.returns-clause-empty
returns-clause-empty g c lane past below =
    c.loop-lane.invariant.empty lane (omega (arith, past, c.loop-lane.invariant.given)) below

pub returns-clause-small : goal.returns-clause-small
returns-clause-small g c = c.loop-lane.invariant.small
