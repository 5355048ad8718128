-- the first marks are made their contraries
use Rattle.std.proofs.Common.{◌≡◌, length}
use Rattle.capture_report.proofs.Marks.{turned}
use Rattle.capture_report.proofs.verdicts.turn_over.Given as goal

abbrev pub invariant-loop-place : goal.invariant-loop-place
invariant-loop-place l = record {
  len : length l.marks ≡ length l.fn.marks;
  turned : l.marks ≡ turned l.place l.fn.marks;
}
