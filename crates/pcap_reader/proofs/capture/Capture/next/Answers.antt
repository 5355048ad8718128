use Rattle.std.proofs.Common.{◌≡◌, ◌+◌, ◌∙◌, length, take, drop, Some, None, Ok, Err, refl, sym, ap}
use Rattle.std.proofs.lemmas.List.{take_at}
use Rattle.pcap_reader.specs.State.{record_of, state_after, state_of}
use Rattle.pcap_reader.proofs.NextAnswers.{ended, not_ended, TakesNext-ended, TakesNext-reads}
use Rattle.pcap_reader.proofs.capture.Capture.next.Goals as goal

pub returns-then-eq : goal.returns-then-eq
returns-then-eq g c =
    let own = c.self.inside.state in
    let is = ended own.progress c.eq.result c.eq.ensures c.if-eq.true in
    let shows = ap (λ state. state_after state (Ok None)) c.self.view_is in (
      (refl, (λ whole. tt), ap (state_of own.start own.count) is ∙ shows),
      record {
        «record» = TakesNext-ended c.args.self.now (g.D.Desk.view c.args.desk.now)
            (sym (ap (λ state. state.progress) c.self.view_is) ∙ is);
        goes_on = tt;
      },
    )

pub returns-in-Ok-Some : goal.returns-in-Ok-Some
returns-in-Ok-Some g c =
    let going = not_ended c.self.inside.state.progress c.eq.result c.eq.ensures c.if-eq.false in
    let whole = c.read_record.auto.buffer ∙ c.deref_mut.ensures.len in
    let rest = drop (length c.read_record.new.buffer) c.self.inside.buffer.items in
    let lent : c.deref.result.now ≡ c.read_record.new.buffer =
    c.deref.ensures.value ∙ take_at c.read_record.new.buffer rest c.self.inside.buffer.len whole in (
      (refl, (λ whole. tt), ap (λ state. state_of state.start (state.count + 1) state.progress) c.self.view_is),
      record {
        «record» = TakesNext-reads (λ own. Ok (Some (record_of own (take c.in-Ok-Some.len c.deref.result.now))))
            c.self.view_is going (rw lent (rw c.in-Ok-Some.field-0-is at c.in-Ok-Some.ensures.record));
        goes_on = tt;
      },
    )

pub returns-in-Ok-None : goal.returns-in-Ok-None
returns-in-Ok-None g c =
    let going = not_ended c.self.inside.state.progress c.eq.result c.eq.ensures c.if-eq.false in (
      (refl, (λ whole. tt), ap (λ state. state_after state (Ok None)) c.self.view_is),
      record {
        «record» = TakesNext-reads (λ own. Ok None) c.self.view_is going
            (rw c.in-Ok-None.field-0-is at c.in-Ok-None.ensures.record);
        goes_on = tt;
      },
    )

pub returns-in-Err : goal.returns-in-Err
returns-in-Err g c =
    let going = not_ended c.self.inside.state.progress c.eq.result c.eq.ensures c.if-eq.false in (
      (refl, (λ whole. tt), ap (λ state. state_after state (Err c.in-Err.fault)) c.self.view_is),
      record {
        «record» = TakesNext-reads (λ own. Err c.in-Err.fault) c.self.view_is going c.in-Err.ensures.record;
        goes_on = tt;
      },
    )
