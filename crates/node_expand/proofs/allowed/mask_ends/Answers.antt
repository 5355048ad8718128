use Rattle.std.proofs.Common.{arith}
use Rattle.node_expand.specs.Rest.{mask_low, mask_high}
use Rattle.node_expand.proofs.allowed.mask_ends.Goals as goal
use Rattle.list_lemmas.proofs.Bits.{high_bits, low_bits_set}

pub returns-clause-low : goal.returns-clause-low
unfolding mask_low
returns-clause-low c = rw (c.ones-free.ensures, c.from.ensures, c.from-2.ensures)
    (high_bits c.args.value _ (omega arith) (omega arith))

pub returns-clause-high : goal.returns-clause-high
unfolding mask_high
returns-clause-high c = rw (c.ones-free.ensures, c.from.ensures, c.from-2.ensures) (low_bits_set c.args.value _)
