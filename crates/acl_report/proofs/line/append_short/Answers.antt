-- A number of 32 bits has at most 10 digits.
use Rattle.std.proofs.Common.{◌+◌, ◌∙◌, ap, arith, length, decimal}
use Rattle.acl_report.proofs.line.append_short.Goals as goal
use Rattle.list_lemmas.proofs.Digits.{short_digits}

pub append_digits-requires : goal.append_digits-requires
append_digits-requires c =
    rw c.from.ensures (omega (arith, c.requires, short_digits c.args.number c.ranges.number.fits))

pub returns-clause-end : goal.returns-clause-end
returns-clause-end c =
    let end = c.append_digits.ensures.end ∙ ap (λ digits. c.args.at + length (decimal digits)) c.from.ensures in
    omega (arith, short_digits c.args.number c.ranges.number.fits, end)
