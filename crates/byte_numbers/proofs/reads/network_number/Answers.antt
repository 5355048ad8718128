use Rattle.std.proofs.Common.{length, sym, ◌∙◌, arith}
use Rattle.byteorder.specs.Numbers.{big_from-lt}
use Rattle.byte_numbers.proofs.Orders.{number_of-all}
use Rattle.byte_numbers.proofs.reads.network_number.Goals as goal

pub returns-clause-number : goal.returns-clause-number
returns-clause-number c = c.read_uint.ensures ∙ sym (number_of-all c.args.bytes.now)

pub returns-clause-bound : goal.returns-clause-bound
returns-clause-bound c =
    let bytes = c.args.bytes.now in
    let below = big_from-lt 0 (length bytes) bytes (λ i. omega (arith, c.type_inv.bytes i)) in
    omega (arith, c.read_uint.ensures, below)
