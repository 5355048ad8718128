-- Each batch is taken, and its lines are put before the next.
use Rattle.std.proofs.Common.{refl, ap, arith}
use Rattle.command_ending.specs.StepEffects.{outside}
use Rattle.capture_report.proofs.LineLaws.{counts-none, records_add_up, counted_all-packets}
use Rattle.capture_report.proofs.Streaming.{HasPrinted-none, HasPrinted-batch, Streams-failed}
use Rattle.capture_report.proofs.Streaming.{Streams-ended, Streams-fault, packets_few, standing}
use Rattle.capture_report.proofs.conductor.print_records.Goals as goal

pub batches-init : goal.batches-init
batches-init g c = record {
  printed = HasPrinted-none c.args.form.now c.args.capture.now c.default-counts.result
      (outside (g.D.Desk.view c.args.desk.now) (g.O.Sink.view c.args.out.now) c.args.steps.now)
      (counts-none c.default-counts.result c.default-counts.ensures);
  bound = omega arith;
  reading = c.requires.reading;
  state = c.requires.begun.0;
}

pub put_lines-requires-clause-next : goal.put_lines-requires-clause-next
put_lines-requires-clause-next g c =
    let desk = g.D.Desk.view in
    let out = g.O.Sink.view in
    let so_far = c.batches.invariant.printed in
    record {
      classes = records_add_up so_far.records c.batches.counts so_far.counted;
      few = packets_few c.args.form.now c.args.capture.now
          (outside (desk c.args.desk.now) (out c.args.out.now) c.args.steps.now)
          (standing c.batches.capture c.batches.counts c.batches.transitions
          (outside (desk c.batches.desk) (out c.batches.out) c.batches.steps))
          c.take_batch-end.new.capture c.take_batch-end.new.packets
          (outside (desk c.take_batch-end.new.desk) (out c.batches.out) c.batches.steps) _ so_far
          c.take_batch-end.ensures.batch c.requires.begun;
      own = c.take_batch-end.ensures.batch.keys;
    }

pub returns-in-Err : goal.returns-in-Err
returns-in-Err g c =
    let desk = g.D.Desk.view in
    let out = g.O.Sink.view in
    Streams-failed c.args.form.now c.args.capture.now
    (outside (desk c.args.desk.now) (out c.args.out.now) c.args.steps.now)
    (standing c.batches.capture c.batches.counts c.batches.transitions
    (outside (desk c.batches.desk) (out c.batches.out) c.batches.steps))
    (standing c.take_batch-end.new.capture c.put_lines.new.counts c.put_lines.new.transitions
    (outside (desk c.take_batch-end.new.desk) (out c.put_lines.new.out) c.put_lines.new.steps))
    c.take_batch-end.new.packets c.take_batch-end.result c.in-Err.field-0 c.requires.begun c.batches.invariant.printed
    c.take_batch-end.ensures.batch
    record {
      puts = c.in-Err.ensures.puts;
      counted = c.in-Err.ensures.counts;
      transitions_more = c.in-Err.ensures.transitions;
      steps = c.in-Err.ensures.steps;
    }

pub batches-smaller : goal.batches-smaller
batches-smaller g c =
    let desk = g.D.Desk.view in
    let out = g.O.Sink.view in
    let packets = c.take_batch-end.new.packets in
    let few =
    packets_few c.args.form.now c.args.capture.now
    (outside (desk c.args.desk.now) (out c.args.out.now) c.args.steps.now)
    (standing c.batches.capture c.batches.counts c.batches.transitions
    (outside (desk c.batches.desk) (out c.batches.out) c.batches.steps))
    c.take_batch-end.new.capture packets
    (outside (desk c.take_batch-end.new.desk) (out c.put_lines.new.out) c.put_lines.new.steps) _
    c.batches.invariant.printed c.in-More.ensures.batch c.requires.begun in
    omega (
      arith,
      few,
      c.in-More.ensures.batch.some refl,
      ap (λ counts. counts.packets) c.in-Ok.ensures.counts,
      counted_all-packets packets c.batches.counts,
    )

pub batches-preserved : goal.batches-preserved
batches-preserved g c =
    let desk = g.D.Desk.view in
    let out = g.O.Sink.view in
    record {
      printed = HasPrinted-batch c.args.form.now c.args.capture.now
          (outside (desk c.args.desk.now) (out c.args.out.now) c.args.steps.now)
          (standing c.batches.capture c.batches.counts c.batches.transitions
          (outside (desk c.batches.desk) (out c.batches.out) c.batches.steps))
          (standing c.take_batch-end.new.capture c.put_lines.new.counts c.put_lines.new.transitions
          (outside (desk c.take_batch-end.new.desk) (out c.put_lines.new.out) c.put_lines.new.steps))
          c.take_batch-end.new.packets _ c.in-Ok.field-0 c.batches.invariant.printed c.in-More.ensures.batch
          record {
            puts = c.in-Ok.ensures.puts;
            counted = c.in-Ok.ensures.counts;
            transitions_more = c.in-Ok.ensures.transitions;
            steps = c.in-Ok.ensures.steps;
          };
      bound = c.in-Ok.ensures.bound;
      reading = rw c.in-More.ensures.batch.took.keeps.reading c.batches.invariant.reading;
      state = c.in-More.ensures.batch.took.goes_on refl c.batches.invariant.state;
    }

pub returns-in-End : goal.returns-in-End
returns-in-End g c =
    let desk = g.D.Desk.view in
    let out = g.O.Sink.view in
    let old = outside (desk c.args.desk.now) (out c.args.out.now) c.args.steps.now in
    let now = standing c.take_batch-end.new.capture c.put_lines.new.counts c.put_lines.new.transitions
    (outside (desk c.take_batch-end.new.desk) (out c.put_lines.new.out) c.put_lines.new.steps) in
    Streams-ended c.args.form.now c.args.capture.now old now
    (outside (desk c.take_batch-end.new.desk) (out c.print_last.new.out) c.put_lines.new.steps) c.print_last.result
    (HasPrinted-batch c.args.form.now c.args.capture.now old
    (standing c.batches.capture c.batches.counts c.batches.transitions
    (outside (desk c.batches.desk) (out c.batches.out) c.batches.steps)) now
    c.take_batch-end.new.packets _ c.in-Ok.field-0 c.batches.invariant.printed c.in-End.ensures.batch
    record {
      puts = c.in-Ok.ensures.puts;
      counted = c.in-Ok.ensures.counts;
      transitions_more = c.in-Ok.ensures.transitions;
      steps = c.in-Ok.ensures.steps;
    })
    refl refl c.print_last.ensures

pub returns-in-Fault : goal.returns-in-Fault
returns-in-Fault g c =
    let desk = g.D.Desk.view in
    let out = g.O.Sink.view in
    let old = outside (desk c.args.desk.now) (out c.args.out.now) c.args.steps.now in
    let now = standing c.take_batch-end.new.capture c.put_lines.new.counts c.put_lines.new.transitions
    (outside (desk c.take_batch-end.new.desk) (out c.put_lines.new.out) c.put_lines.new.steps) in
    Streams-fault c.in-Fault.fault c.args.form.now c.args.capture.now old now c.refused.result
    (HasPrinted-batch c.args.form.now c.args.capture.now old
    (standing c.batches.capture c.batches.counts c.batches.transitions
    (outside (desk c.batches.desk) (out c.batches.out) c.batches.steps)) now
    c.take_batch-end.new.packets _ c.in-Ok.field-0 c.batches.invariant.printed c.in-Fault.ensures.batch
    record {
      puts = c.in-Ok.ensures.puts;
      counted = c.in-Ok.ensures.counts;
      transitions_more = c.in-Ok.ensures.transitions;
      steps = c.in-Ok.ensures.steps;
    })
    c.refused.ensures
