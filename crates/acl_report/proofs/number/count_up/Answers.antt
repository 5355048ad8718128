-- One is added to the last digit, or all are written.
use Rattle.std.proofs.Common.{arith}
use Rattle.acl_report.proofs.NextDigits.{counted_up, some_digits}
use Rattle.acl_report.proofs.number.count_up.Goals as goal

pub overflow_sub-last : goal.overflow_sub-last
overflow_sub-last c = some_digits c.args.digits.now c.args.len c.args.number c.ranges.number.fits c.requires.digits

pub returns-then-digits-last-lt57-clause-digits : goal.returns-then-digits-last-lt57-clause-digits
returns-then-digits-last-lt57-clause-digits c =
    counted_up c.args.digits.now c.args.len c.args.number (omega (arith, c.requires.few, c.told-digits)) c.requires.fits
    c.requires.digits c.if-digits-last-lt57.true
