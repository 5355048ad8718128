-- some records were taken, of the batch that is asked for
use Rattle.std.proofs.Common.{◌≤◌, ◌-◌, length}
use Rattle.std.specs.Bool.{IsTrue}
use Rattle.capture_report.specs.declared.batch.BatchEnd.TheVariants.{More}
use Rattle.capture_report.specs.NextRecord.{MayGoOn}
use Rattle.capture_report.specs.Taken.{max_batch}
use Rattle.capture_report.proofs.Growing.{IsTaking}
use Rattle.capture_report.proofs.batch.take_batch.Given as goal

abbrev pub invariant-loop-capture : goal.invariant-loop-capture
invariant-loop-capture g l =
    let view = g.D.Desk.view in record {
      taking : IsTaking l.fn.capture l.capture l.packets (view l.fn.desk) (view l.desk) More;
      few : length l.packets ≤ max_batch;
      reading : IsTrue (view l.desk).reading;
      state : MayGoOn l.capture;
    }

abbrev pub decreases-loop-capture : goal.decreases-loop-capture
decreases-loop-capture g l = max_batch - length l.packets
