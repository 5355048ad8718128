-- The lines that were passed.
use Rattle.std.proofs.Common.{◌≡◌, drop}
use Rattle.text_scan.specs.Parts.{lines_of}
use Rattle.list_tool.proofs.shown.lines_from.Given as goal

-- so many of them aren't left
abbrev pub invariant-loop : goal.invariant-loop
invariant-loop l = lines_of l.left ≡ drop l.counter (lines_of l.bytes)
