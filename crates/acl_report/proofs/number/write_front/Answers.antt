-- The digits have room.
use Rattle.std.proofs.Common.{arith}
use Rattle.list_lemmas.proofs.Digits.{long_digits}
use Rattle.acl_report.proofs.number.write_front.Goals as goal

pub write_digits-requires : goal.write_digits-requires
write_digits-requires c = (
  omega (arith, c.digits_in-len.ensures),
  omega (arith, c.digits_in-len.ensures, long_digits c.args.number c.ranges.number.fits, c.told-digits),
)
