-- Each turn takes one record more, and the last one says why there are no more.
use Rattle.std.proofs.Common.{length, ap, arith, refl}
use Rattle.capture_report.proofs.Growing.{IsTaking-none, IsTaking-record, TakesBatch-some, TakesBatch-stopped}
use Rattle.capture_report.proofs.batch.take_batch.Goals as goal

pub loop-capture-init : goal.loop-capture-init
loop-capture-init g c = record {
  taking = IsTaking-none c.args.capture.now c.clear.new.self (g.D.Desk.view c.args.desk.now) c.clear.ensures;
  few = omega (arith, ap length c.clear.ensures);
  reading = c.requires.reading;
  state = c.requires.state;
}

pub returns-in-Some : goal.returns-in-Some
returns-in-Some g c =
    let view = g.D.Desk.view in
    record {
      batch = TakesBatch-stopped c.args.capture.now c.loop-capture.capture c.take_record.new.capture
          c.loop-capture.packets c.take_record.new.packets (view c.args.desk.now) (view c.loop-capture.desk)
          (view c.take_record.new.desk) c.in-Some.end c.loop-capture.invariant.taking c.in-Some.ensures.takes
          c.loop-capture.invariant.few;
    }

-- a batch ends after a record where the next one may have to be waited for
pub returns-then-may_wait : goal.returns-then-may_wait
returns-then-may_wait g c =
    let view = g.D.Desk.view in
    let more =
    IsTaking-record c.args.capture.now c.loop-capture.capture c.take_record.new.capture c.loop-capture.packets
    c.take_record.new.packets (view c.args.desk.now) (view c.loop-capture.desk) (view c.take_record.new.desk)
    c.loop-capture.invariant.taking c.in-None.ensures.takes in
    record {
      batch = TakesBatch-some c.args.capture.now c.take_record.new.capture c.take_record.new.packets
          (view c.args.desk.now) (view c.take_record.new.desk) more.0
          (omega (arith, more.1, c.loop-capture-test.true, c.len.ensures)) (omega (arith, more.1));
    }

pub loop-capture-preserved : goal.loop-capture-preserved
loop-capture-preserved g c =
    let view = g.D.Desk.view in
    let takes = c.in-None.ensures.takes in
    let more =
    IsTaking-record c.args.capture.now c.loop-capture.capture c.take_record.new.capture c.loop-capture.packets
    c.take_record.new.packets (view c.args.desk.now) (view c.loop-capture.desk) (view c.take_record.new.desk)
    c.loop-capture.invariant.taking takes in
    record {
      taking = more.0;
      few = omega (arith, more.1, c.loop-capture-test.true, c.len.ensures);
      reading = rw takes.takes.keeps.reading c.loop-capture.invariant.reading;
      state = more.0.took.goes_on refl c.requires.state;
    }
