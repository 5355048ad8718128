use Rattle.std.proofs.Common.{length, sym, ◌∙◌, arith}
use Rattle.std.proofs.lemmas.Bool.{eqb-true}
use Rattle.pcap_reader.proofs.FillLaws.{some_room, Fills-empty, Fills-full, Fills-ended, Fills-failed, Fills-on}
use Rattle.pcap_reader.proofs.fill.fill.Goals as goal
use Rattle.pcap_reader.proofs.fill.fill.Goals.{then-count-into-via-then-count-into, then-count-into-via-else-count-into+then-count-eq0}

pub returns-then-is_empty : goal.returns-then-is_empty
returns-then-is_empty g c =
    Fills-empty c.args.into.now (g.D.Desk.view c.args.desk.now)
    (eqb-true (length c.args.into.now) 0 (sym c.is_empty.ensures ∙ c.if-is_empty.true))

pub returns-then-count-into : goal.returns-then-count-into
returns-then-count-into g c =
    let old = g.D.Desk.view c.args.desk.now in
    let new = g.D.Desk.view c.read.new.self in
    let some = some_room (length c.args.into.now) (sym c.is_empty.ensures ∙ c.if-is_empty.false) in
    elim c.then-count-into.branch [
      | then-count-into-via-then-count-into w ↦
          Fills-full c.args.into.now c.read.new.into c.in-Ok.count old new some c.read.auto.into w.if-count-into.true
          c.in-Ok.ensures
      | then-count-into-via-else-count-into+then-count-eq0 w ↦
          Fills-ended c.args.into.now c.read.new.into c.in-Ok.count old new some w.if-count-eq0.true c.in-Ok.ensures
    ]

pub returns-else-count-eq0 : goal.returns-else-count-eq0
returns-else-count-eq0 g c =
    Fills-on c.args.into.now c.read.new.into c.fill_rest.new.into c.in-Ok.count (g.D.Desk.view c.args.desk.now)
    (g.D.Desk.view c.read.new.self) (g.D.Desk.view c.fill_rest.new.desk) c.fill_rest.result
    (omega (arith, c.if-count-eq0.false)) c.read.auto.into c.in-Ok.ensures c.fill_rest.ensures

pub returns-in-Err : goal.returns-in-Err
returns-in-Err g c =
    Fills-failed c.args.into.now c.read.new.into (g.D.Desk.view c.args.desk.now) (g.D.Desk.view c.read.new.self)
    c.in-Err.field-0 _ (some_room (length c.args.into.now) (sym c.is_empty.ensures ∙ c.if-is_empty.false))
    c.in-Err.ensures
