-- The line is what the pieces are, one after the other.
use Rattle.std.proofs.Common.{append_assoc}
use Rattle.acl_report.proofs.counts.packets_line.Goals as goal

pub returns-clause-line : goal.returns-clause-line
returns-clause-line c =
    rw c.append.ensures.line (
    rw c.append_count-at-5.ensures.line (
    rw c.append_count-at-4.ensures.line (
    rw c.append_count-at-3.ensures.line (
    rw c.append_count-at-2.ensures.line (
    rw c.append_count-at.ensures.line (simp append_assoc))))))
