-- The numbers of a block are in 64 bits.
use Rattle.std.proofs.Common.{arith}
use Rattle.list_chains.proofs.Halves.{power_small, power_within}
use Rattle.list_chains.proofs.values.block.Goals as goal

pub overflow_sub-result-in-Bitmask : goal.overflow_sub-result-in-Bitmask
overflow_sub-result-in-Bitmask c =
    let all = power_small c.args.bits c.requires.bits in
    let part = power_within c.args.free c.args.bits c.requires.free in
    omega (arith, all, part)
