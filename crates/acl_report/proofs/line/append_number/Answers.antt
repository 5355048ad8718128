-- A number of 64 bits has at most 20 digits.
use Rattle.std.proofs.Common.{arith}
use Rattle.acl_report.proofs.line.append_number.Goals as goal
use Rattle.list_lemmas.proofs.Digits.{long_digits}

pub append_digits-requires : goal.append_digits-requires
append_digits-requires c = omega (arith, c.requires, long_digits c.args.number c.ranges.number.fits)

pub returns-clause-end : goal.returns-clause-end
returns-clause-end c = omega (arith, long_digits c.args.number c.ranges.number.fits, c.append_digits.ensures.end)
