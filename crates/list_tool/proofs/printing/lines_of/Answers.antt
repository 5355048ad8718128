-- One line more was cut off, and at the end all are.
use Rattle.text_scan.specs.Parts.{lines_of}
use Rattle.list_tool.proofs.Lines.{more_lines, all_lines}
use Rattle.list_tool.proofs.printing.lines_of.Goals as goal

pub loop-line-preserved : goal.loop-line-preserved
loop-line-preserved c =
    more_lines (λ line. line.now) c.loop-line.lines.items c.loop-line.left.now (lines_of c.args.bytes.now)
    c.loop-line.invariant c.push.new.self.items c.in-Some.line c.in-Some.rest.now c.in_ok-push.ensures.items
    c.in-Some.ensures.lines

pub returns : goal.returns
returns c =
    all_lines (λ line. line.now) c.loop-line.lines.items c.loop-line.left.now (lines_of c.args.bytes.now)
    c.loop-line.invariant c.in_default.ensures.lines
