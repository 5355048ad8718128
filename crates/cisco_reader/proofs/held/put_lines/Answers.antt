-- At the end all lines were put.
use Rattle.std.proofs.Common.{◌++◌, ap, ◌∙◌, arith}
use Rattle.std.proofs.lemmas.List.{map-id}
use Rattle.list_lemmas.proofs.Loops.{mapped_all}
use Rattle.cisco_reader.proofs.held.put_lines.Goals as goal

pub returns : goal.returns
returns c =
    mapped_all c.loop-line.invariant (omega (arith, c.loop-line-test.false))
    ∙ ap (λ lines. c.args.into.now.items ++ lines) (map-id c.args.lines.now)
