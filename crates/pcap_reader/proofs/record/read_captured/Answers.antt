use Rattle.std.proofs.Common.{◌≡◌, ◌<◌, length, take, sym, ap, subst, ◌∙◌, arith, length-take}
use Rattle.std.proofs.lemmas.List.{take_all}
use Rattle.pcap_reader.specs.Reader.{HasHeader}
use Rattle.pcap_reader.proofs.FillLaws.{reads-full, reads-short}
use Rattle.pcap_reader.proofs.ReaderLaws.{ReadsNext-record, ReadsNext-cut, ReadsNext-broken}
use Rattle.pcap_reader.proofs.record.read_captured.Goals as goal

pub returns-in-Ok-clause-record : goal.returns-in-Ok-clause-record
returns-in-Ok-clause-record g c before h =
    let mid = g.D.Desk.view c.args.desk.now in
    let new = g.D.Desk.view c.fill.new.desk in
    let len = c.in-Ok.len in
    let captured = take len c.fill.new.into in
    let whole : captured ≡ c.fill.new.into =
    take_all len c.fill.new.into (omega (arith, c.fill.auto.into, c.if-len-room.true)) in
    let as_long : length c.args.room.now ≡ length captured = sym c.fill.auto.into ∙ sym (ap length whole) in
    ReadsNext-record c.args.state.now captured before mid new
    (subst (λ n. HasHeader c.args.state.now n before mid) as_long h)
    (reads-full _ len captured mid new (omega (arith, c.if-len-room.true)) c.in-Ok.ensures.reads) c.in-Ok.ensures.keeps

pub returns-in-Ok-2-clause-record : goal.returns-in-Ok-2-clause-record
returns-in-Ok-2-clause-record g c before h =
    let mid = g.D.Desk.view c.args.desk.now in
    let new = g.D.Desk.view c.fill.new.desk in
    let len = c.in-Ok.len in
    let part = take len c.fill.new.into in
    let less : len < length c.args.room.now = omega (arith, c.in-Ok.ensures.within, c.if-len-room.false) in
    ReadsNext-cut c.args.state.now (length c.args.room.now) part before mid new h
    (omega (arith, less, length-take len c.fill.new.into)) (reads-short _ len part mid new less c.in-Ok.ensures.reads)
    (c.in-Ok.ensures.end less) c.in-Ok.ensures.keeps

pub returns-in-Err-clause-record : goal.returns-in-Err-clause-record
returns-in-Err-clause-record g c before h =
    let broken = c.in-Err.ensures.breaks_off in
    ReadsNext-broken c.args.state.now (length c.args.room.now) broken.bytes before (g.D.Desk.view c.args.desk.now)
    (g.D.Desk.view c.fill.new.desk) h broken.few broken.reads c.in-Err.ensures.cause c.in-Err.ensures.keeps
