use Rattle.std.proofs.Common.{suc, ◌-◌, length, drop, add-one, length-drop, take_all, ap, ◌∙◌, arith, ◌+◌, Some, take}
use Rattle.std.proofs.Common.{sym}
use Rattle.text_scan.proofs.Cuts.{parts_of-whole, parts_of-cut, cut_at-none, cut_at-some}
use Rattle.text_scan.proofs.text_parts.split_once.Goals as goal

pub returns-in_err-place-clause-parts : goal.returns-in_err-place-clause-parts
returns-in_err-place-clause-parts c = rw c.from_residual.ensures (parts_of-whole _ _ c.in_err-place.ensures)

pub returns-clause-parts : goal.returns-clause-parts
returns-clause-parts c =
    let text = c.args.text.now in
    let next = suc c.in_ok-place.place in
    rw (add-one, take_all (length text - next) (drop next text) (omega (arith, length-drop next text))) (
    parts_of-cut _ _ _ c.in_ok-place.ensures.0 c.in_ok-place.ensures.1)

pub returns-in_err-place-clause-cut : goal.returns-in_err-place-clause-cut
returns-in_err-place-clause-cut c = rw c.from_residual.ensures (cut_at-none _ _ c.in_err-place.ensures)

pub returns-clause-cut : goal.returns-clause-cut
returns-clause-cut c =
    let text = c.args.text.now in
    let place = c.in_ok-place.place in
    let rest = take_all (length text - (place + 1)) (drop (place + 1) text)
    (omega (arith, length-drop (place + 1) text)) in
    cut_at-some _ _ _ c.in_ok-place.ensures.0 c.in_ok-place.ensures.1
    ∙ ap (λ after. Some (take place text, after)) (sym rest)
