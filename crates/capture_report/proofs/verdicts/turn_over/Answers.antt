-- Each turn makes one mark more its contrary.
use Rattle.std.proofs.Common.{◌∙◌, arith, not, length-set, slice_index_or, false}
use Rattle.capture_report.proofs.Marks.{turned_more, turned_all}
use Rattle.capture_report.proofs.verdicts.turn_over.Goals as goal

pub loop-place-preserved : goal.loop-place-preserved
loop-place-preserved c =
    let marks = c.loop-place.marks in
    let at = c.loop-place.place in
    record {
      len = length-set marks at (not (slice_index_or marks at false)) ∙ c.loop-place.invariant.len;
      turned = turned_more c.args.marks.now marks at c.loop-place.invariant.turned
          (omega (arith, c.loop-place-test.true));
    }

pub returns : goal.returns
returns c =
    c.loop-place.invariant.turned
    ∙ turned_all c.args.marks.now c.loop-place.place (omega (arith, c.loop-place.invariant.len))
