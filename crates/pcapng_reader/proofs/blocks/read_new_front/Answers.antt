-- No byte of the block was read before.
use Rattle.pcapng_reader.proofs.ReadLaws.{ReadsPart-none}
use Rattle.pcapng_reader.proofs.blocks.read_new_front.Goals as goal

pub returns : goal.returns
returns g c =
    ReadsPart-none c.args.reader.now c.args.into.now c.fill.new.into c.fill.result (g.D.Desk.view c.args.desk.now)
    (g.D.Desk.view c.fill.new.desk) c.requires.first c.fill.auto.into c.fill.ensures
