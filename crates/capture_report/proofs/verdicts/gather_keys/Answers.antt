-- Where there is no packet of the family, there is no key.
use Rattle.std.proofs.Common.{sym, arith}
use Rattle.capture_report.proofs.Keys.{no_keys}
use Rattle.capture_report.proofs.verdicts.gather_keys.Goals as goal

pub returns-then-most-eq0-clause-keys : goal.returns-then-most-eq0-clause-keys
returns-then-most-eq0-clause-keys c =
    sym (no_keys c.args.family c.args.packets.now (omega (arith, c.requires.most, c.if-most-eq0.true)))
