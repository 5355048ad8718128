-- The numbers of a prefix are in 64 bits.
use Rattle.std.proofs.Common.{arith}
use Rattle.std.proofs.lemmas.Nat.{pow_pos}
use Rattle.list_packets.proofs.Prefixes.{prefix_within}
use Rattle.list_packets.proofs.values.prefix_span.Goals as goal

pub overflow_cast-result-2 : goal.overflow_cast-result-2
overflow_cast-result-2 c =
    let fits = prefix_within c.args.number c.args.free c.requires c.ranges.number.fits in
    rw (c.power-size.ensures.is, c.from.ensures) (omega (arith, fits, pow_pos c.args.free))
