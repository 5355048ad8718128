-- As many of none as there is room for are none of so many.
use Rattle.std.proofs.Common.{false}
use Rattle.std.proofs.lemmas.List.{take-replicate}
use Rattle.capture_report.proofs.lines.take_dashes.Goals as goal

pub returns-else-this-ne0-clause-none : goal.returns-else-this-ne0-clause-none
returns-else-this-ne0-clause-none g c off = take-replicate c.args.count 16 false c.requires.few
