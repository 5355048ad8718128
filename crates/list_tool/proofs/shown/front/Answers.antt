-- The front of a longer text has 100 bytes.
use Rattle.std.proofs.Common.{arith, sym}
use Rattle.std.proofs.lemmas.List.{length-take-le}
use Rattle.list_tool.proofs.shown.front.Goals as goal

pub slice_bounds-result-end : goal.slice_bounds-result-end
slice_bounds-result-end c = sym (length-take-le 100 c.args.text.now (omega (arith, c.requires)))

pub returns-clause-short : goal.returns-clause-short
returns-clause-short c = omega (arith, length-take-le 100 c.args.text.now (omega (arith, c.requires)))
