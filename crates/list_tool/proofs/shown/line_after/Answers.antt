-- The first of the lines that are left is the one after those that were passed.
use Rattle.std.proofs.Common.{◌∙◌, ap}
use Rattle.std.specs.Prelude.{slice_get}
use Rattle.text_scan.specs.Parts.{lines_of}
use Rattle.list_tool.proofs.Passing.{get_here}
use Rattle.list_tool.proofs.shown.line_after.Goals as goal

pub returns : goal.returns
returns c =
    c.first_line.ensures ∙ ap (λ lines. slice_get lines 0) c.lines_from.ensures
    ∙ get_here (lines_of c.args.bytes.now) c.args.count
