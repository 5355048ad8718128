-- The next packet was found, or none.
use Rattle.std.proofs.Common.{Ok, None, Err, refl, sym, ap}
use Rattle.pcapng_reader.specs.Capture.{Blocks}
use Rattle.pcap_reader.specs.declared.state.Progress.TheVariants as progress
use Rattle.pcapng_reader.specs.Block.{BlockState}
use Rattle.pcapng_reader.proofs.TellLaws.{TakesNext-found, TakesNext-ended}
use Rattle.pcapng_reader.proofs.packets.take_packet.Goals as goal

pub returns-then-has_ended-clause-takes : goal.returns-then-has_ended-clause-takes
returns-then-has_ended-clause-takes g c =
    TakesNext-ended (Blocks c.args.reader.now) (g.D.Desk.view c.args.desk.now) (sym c.if-has_ended.ensures)

pub returns-in-Ok-Some-clause-takes : goal.returns-in-Ok-Some-clause-takes
returns-in-Ok-Some-clause-takes g c =
    TakesNext-found c.args.reader.now c.read_packet.new.reader c.read_packet.new.reader
    (g.D.Desk.view c.args.desk.now) (g.D.Desk.view c.read_packet.new.desk) _ (sym c.if-has_ended.ensures)
    (rw c.in-Ok-Some.field-0-is at c.in-Ok-Some.ensures.packet) refl

pub returns-in-Ok-None-clause-takes : goal.returns-in-Ok-None-clause-takes
returns-in-Ok-None-clause-takes g c =
    TakesNext-found c.args.reader.now c.read_packet.new.reader _
    (g.D.Desk.view c.args.desk.now) (g.D.Desk.view c.read_packet.new.desk) (Ok None) (sym c.if-has_ended.ensures)
    (rw c.in-Ok-None.field-0-is at c.in-Ok-None.ensures.packet)
    (ap (λ (s : BlockState). let t : BlockState = record s { progress = progress.Ended } in t) c.reader.view_is)

pub returns-in-Err-clause-takes : goal.returns-in-Err-clause-takes
returns-in-Err-clause-takes g c =
    TakesNext-found c.args.reader.now c.read_packet.new.reader _
    (g.D.Desk.view c.args.desk.now) (g.D.Desk.view c.read_packet.new.desk) (Err c.in-Err.fault)
    (sym c.if-has_ended.ensures) c.in-Err.ensures.packet
    (ap (λ (s : BlockState). let t : BlockState = record s { progress = progress.Failed } in t) c.reader.view_is)
