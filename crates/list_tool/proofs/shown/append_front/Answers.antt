-- One byte more is shown, and at the end all are.
use Rattle.std.proofs.Common.{◌++◌, ◌∷◌, [], ◌∙◌, ap, arith, map, take}
use Rattle.std.proofs.lemmas.List.{take_all}
use Rattle.list_tool.specs.Shown.{shown_byte}
use Rattle.list_tool.proofs.Passing.{shown_more}
use Rattle.list_tool.proofs.shown.append_front.Goals as goal

pub loop-place-preserved : goal.loop-place-preserved
loop-place-preserved c =
    let l = c.loop-place in
    let before = take c.args.at c.args.into.now in
    record {
      end = omega (arith, l.invariant.end, c.append-end.ensures.end);
      line = c.append-end.ensures.line ∙ (λ i. l.invariant.line i ++ c.shown_byte.ensures i ∷ [])
          ∙ shown_more before c.args.text.now l.place (omega (arith, c.loop-place-test.true));
    }

pub returns-clause-line : goal.returns-clause-line
returns-clause-line c =
    let l = c.loop-place in
    l.invariant.line
    ∙ ap (λ text. take c.args.at c.args.into.now ++ map shown_byte text)
    (take_all l.place c.args.text.now (omega (arith, c.loop-place-test.false)))
