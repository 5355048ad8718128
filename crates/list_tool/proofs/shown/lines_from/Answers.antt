-- Where no line is left, none is left later.
use Rattle.std.proofs.Common.{sym, ◌∙◌, arith}
use Rattle.text_scan.specs.Parts.{lines_of}
use Rattle.list_tool.proofs.Passing.{drop_end, drop_next}
use Rattle.list_tool.proofs.shown.lines_from.Goals as goal

pub returns-in-None : goal.returns-in-None
returns-in-None c =
    c.in-None.ensures.lines
    ∙ sym (drop_end c.loop.counter c.args.count (lines_of c.args.bytes.now)
    (sym c.loop.invariant ∙ c.in-None.ensures.lines) (omega (arith, c.loop.auto.counter-end)))

pub loop-preserved : goal.loop-preserved
loop-preserved c =
    sym (drop_next c.loop.counter (lines_of c.args.bytes.now) (sym c.loop.invariant ∙ c.in-Some.ensures.lines))
