-- the lines of some packets were written, and those of the rest are to come
use Rattle.std.proofs.Common.{length, drop}
use Rattle.capture_report.proofs.Writing.{Written}
use Rattle.capture_report.proofs.lines.write_each.Given as goal

abbrev pub invariant-loop-packet : goal.invariant-loop-packet
invariant-loop-packet g l =
    Written l.form l.fn.counts l.counts l.packets (drop l.packet-index l.packets) l.ip4.verdicts.now
    l.ip6.verdicts.now l.ip4.dashes.now l.ip6.dashes.now l.line l.at
    (length l.fn.lines) l.lines
