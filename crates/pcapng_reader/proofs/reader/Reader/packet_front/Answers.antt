-- The front of a packet isn't refused.
use Rattle.std.proofs.Common.{sym, ap, ◌∙◌}
use Rattle.pcapng_reader.specs.Block.{kind_of}
use Rattle.pcapng_reader.proofs.FrontLaws.{front-packet}
use Rattle.pcapng_reader.proofs.reader.Reader.packet_front.Goals as goal

pub returns-clause-front : goal.returns-clause-front
returns-clause-front c =
    let order = c.requires.order in
    rw order
    (front-packet c.args.self.now c.args.bytes.now c.u32_in-total.result c.requires.few c.requires.there
    (rw order at (sym c.in-Packet.is ∙ c.of.ensures ∙ ap kind_of c.u32_in.ensures))
    (rw order at c.u32_in-total.ensures) (sym c.is_no_len.ensures ∙ c.if-is_no_len.false))
