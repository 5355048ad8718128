-- No byte of the block was read before, where its type wasn't.
use Rattle.std.proofs.Common.{◌≡◌, [], sym, ap}
use Rattle.pcapng_reader.proofs.ReadLaws.{ReadsPart-none}
use Rattle.pcapng_reader.proofs.blocks.read_front.Goals as goal

pub returns : goal.returns
returns g c =
    let first : [] ≡ c.args.reader.now.first = rw c.if-reader.false at (ap (λ s. s.first) c.reader.view_is) in
    ReadsPart-none c.args.reader.now c.args.into.now c.fill.new.into c.fill.result (g.D.Desk.view c.args.desk.now)
    (g.D.Desk.view c.fill.new.desk) (sym first) c.fill.auto.into c.fill.ensures
