-- A number between two powers of ten has as many digits as the greater one has zeros.
use Rattle.acl_report.proofs.line.digits_in.Goals as goal
use Rattle.list_lemmas.proofs.Digits.{digits_between}

pub returns : goal.returns
returns c =
    let log = c.ilog10 in
    digits_between log.result c.args.number c.ranges.number.fits log.ensures.power_le log.ensures.next_power_gt
