use Rattle.capture_report.proofs.Bounds.{report_bound}
use Rattle.capture_report.proofs.laws.transitions_are_bounded.Goals as goal

pub returns : goal.returns
returns c = report_bound
