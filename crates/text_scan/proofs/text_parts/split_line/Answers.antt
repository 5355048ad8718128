use Rattle.std.proofs.Common.{suc, ◌-◌, length, drop, add-one, length-drop, take_all, arith, rules}
use Rattle.text_scan.proofs.Cuts.{lines_of-whole, lines_of-cut}
use Rattle.text_scan.proofs.text_parts.split_line.Goals as goal

pub returns-in-Some-clause-lines : goal.returns-in-Some-clause-lines
returns-in-Some-clause-lines c =
    let text = c.args.text.now in
    let next = suc c.in-Some.place in
    rw (
      c.without_carriage_return.ensures,
      add-one,
      take_all (length text - next) (drop next text)
          (omega (arith, length-drop next text)),
    ) (
    lines_of-cut _ _ c.in-Some.ensures.0 c.in-Some.ensures.1)

pub returns-in-None-clause-lines : goal.returns-in-None-clause-lines
returns-in-None-clause-lines c =
    rw c.without_carriage_return-in-None.ensures (lines_of-whole c.args.text.now (search rules) c.in-None.ensures)
