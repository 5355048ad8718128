use Rattle.std.proofs.Common.{refl, arith}
use Rattle.pcap_reader.proofs.ReaderLaws.{ReadsNext-end, ReadsNext-too_many, ReadsNext-broken_header}
use Rattle.pcap_reader.proofs.record.read_end.Goals as goal

pub returns-in-Ok-eq0-clause-record : goal.returns-in-Ok-eq0-clause-record
returns-in-Ok-eq0-clause-record g c buffer =
    ReadsNext-end c.args.state.now _ c.fill.new.into (g.D.Desk.view c.args.desk.now) (g.D.Desk.view c.fill.new.desk)
    (omega arith) (rw c.in-Ok-eq0.field-0-test at c.in-Ok-eq0.ensures)

pub returns-in-Ok-clause-record : goal.returns-in-Ok-clause-record
returns-in-Ok-clause-record g c buffer =
    ReadsNext-too_many c.args.state.now _ c.fill.new.into c.in-Ok.field-0 (g.D.Desk.view c.args.desk.now)
    (g.D.Desk.view c.fill.new.desk) c.requires.last refl c.fill.auto.into (omega (arith, c.in-Ok.field-0-test.1))
    c.in-Ok.ensures

pub returns-in-Err-clause-record : goal.returns-in-Err-clause-record
returns-in-Err-clause-record g c buffer =
    ReadsNext-broken_header c.in-Err.field-0 c.args.state.now _ c.fill.new.into (g.D.Desk.view c.args.desk.now)
    (g.D.Desk.view c.fill.new.desk) (omega arith) c.in-Err.ensures
