use Rattle.std.proofs.Common.{◌≡◌, length, take, drop, refl, sym, ap, subst, arith}
use Rattle.std.proofs.lemmas.List.{length-take-le}
use Rattle.pcap_reader.specs.Reader.{HasHeader, ReadsNext}
use Rattle.pcap_reader.proofs.ReaderLaws.{HasHeader-from, answer_in-front, ReadsNext-end, ReadsNext-cut_header}
use Rattle.pcap_reader.proofs.ReaderLaws.{ReadsNext-too_long, ReadsNext-broken_header}
use Rattle.pcap_reader.proofs.record.read_record.Goals as goal

pub returns-clause-record : goal.returns-clause-record
returns-clause-record g c =
    let state = c.args.state.now in
    let old = g.D.Desk.view c.args.desk.now in
    let mid = g.D.Desk.view c.fill.new.desk in
    let new = g.D.Desk.view c.read_captured.new.desk in
    let n = c.record_header-captured.result.captured in
    let room : length (take n c.args.buffer.now) ≡ n =
    length-take-le n c.args.buffer.now (omega (arith, c.requires.room, c.if-captured-gt-MAX_CAPTURED.false)) in
    let header = HasHeader-from state _ c.fill.new.into n old mid c.if-state-ge-MAX_RECORDS.false refl
    c.fill.auto.into (ap (λ h. h.captured) c.record_header-captured.ensures) c.if-captured-gt-MAX_CAPTURED.false
    (rw c.in-Ok-eq16.field-0-test at c.in-Ok-eq16.ensures) in
    subst (λ answer. ReadsNext state old new answer)
    (answer_in-front state (take n c.args.buffer.now) c.read_captured.new.room (drop n c.args.buffer.now)
    c.read_captured.result c.read_captured.auto.room c.read_captured.ensures.within)
    (c.read_captured.ensures.record old (subst (λ k. HasHeader state k old mid) (sym room) header))

pub returns-in-Ok-eq0-clause-record : goal.returns-in-Ok-eq0-clause-record
returns-in-Ok-eq0-clause-record g c =
    ReadsNext-end c.args.state.now _ c.fill.new.into (g.D.Desk.view c.args.desk.now) (g.D.Desk.view c.fill.new.desk)
    (omega arith) (rw c.in-Ok-eq0.field-0-test at c.in-Ok-eq0.ensures)

pub returns-in-Ok-clause-record : goal.returns-in-Ok-clause-record
returns-in-Ok-clause-record g c =
    let filled = c.in-Ok.ensures in
    ReadsNext-cut_header c.args.state.now _ c.fill.new.into c.in-Ok.field-0 (g.D.Desk.view c.args.desk.now)
    (g.D.Desk.view c.fill.new.desk) c.if-state-ge-MAX_RECORDS.false refl c.fill.auto.into
    (omega (arith, c.in-Ok.field-0-test.1))
    (omega (arith, c.in-Ok.field-0-test.0.1, filled.within)) filled

pub returns-in-Err-clause-record : goal.returns-in-Err-clause-record
returns-in-Err-clause-record g c =
    ReadsNext-broken_header c.in-Err.field-0 c.args.state.now _ c.fill.new.into (g.D.Desk.view c.args.desk.now)
    (g.D.Desk.view c.fill.new.desk) (omega arith) c.in-Err.ensures

pub returns-then-captured-gt-MAX_CAPTURED-clause-record : goal.returns-then-captured-gt-MAX_CAPTURED-clause-record
returns-then-captured-gt-MAX_CAPTURED-clause-record g c =
    ReadsNext-too_long c.args.state.now _ c.fill.new.into c.record_header-captured.result.captured
    (g.D.Desk.view c.args.desk.now) (g.D.Desk.view c.fill.new.desk) c.if-state-ge-MAX_RECORDS.false refl
    c.fill.auto.into (ap (λ h. h.captured) c.record_header-captured.ensures) c.if-captured-gt-MAX_CAPTURED.true
    (rw c.in-Ok-eq16.field-0-test at c.in-Ok-eq16.ensures)
