-- some records were taken and their lines were put
use Rattle.std.proofs.Common.{◌-◌, ◌*◌, ◌≤◌}
use Rattle.std.specs.Bool.{IsTrue}
use Rattle.pcapng_reader.specs.Capture.{max_records}
use Rattle.capture_report.specs.Batch.{max_transitions}
use Rattle.capture_report.specs.NextRecord.{MayGoOn}
use Rattle.capture_report.specs.declared.batch.BatchEnd.TheVariants.{More}
use Rattle.command_ending.specs.StepEffects.{outside}
use Rattle.capture_report.proofs.Streaming.{HasPrinted, standing}
use Rattle.capture_report.proofs.conductor.print_records.Given as goal

abbrev pub invariant-batches : goal.invariant-batches
invariant-batches g l =
    let desk = g.D.Desk.view in
    let out = g.O.Sink.view in record {
      printed : HasPrinted l.form l.fn.capture (outside (desk l.fn.desk) (out l.fn.out) l.fn.steps)
          (standing l.capture l.counts l.transitions (outside (desk l.desk) (out l.out) l.steps)) More;
      bound : l.transitions ≤ l.counts.packets * (2 * max_transitions);
      reading : IsTrue (desk l.desk).reading;
      state : MayGoOn l.capture;
    }

abbrev pub decreases-batches : goal.decreases-batches
decreases-batches g l = max_records - l.counts.packets
