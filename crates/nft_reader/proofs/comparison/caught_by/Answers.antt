-- One comparison more, and none.
use Rattle.std.proofs.Common.{◌+◌, drop, fold, sym, ap, ◌∙◌, arith}
use Rattle.std.proofs.lemmas.List.{drop_all}
use Rattle.list_lemmas.proofs.Loops.{left_is}
use Rattle.nft_reader.specs.Comparisons.{narrowed}
use Rattle.nft_reader.proofs.comparison.caught_by.Goals as goal

pub loop-comparison-preserved : goal.loop-comparison-preserved
loop-comparison-preserved c =
    let l = c.loop-comparison in
    let xs = c.args.compared.now in
    let x = c.comparison-item.result in
    let rest = drop (l.comparison-index + 1) xs in
    l.invariant
    ∙ ap (fold narrowed l.caught) (left_is xs l.comparison-index x (omega arith) c.comparison-item.is)
    ∙ ap (λ caught. fold narrowed caught rest) (sym c.in_ok-narrow.ensures)

pub returns : goal.returns
returns c =
    let l = c.loop-comparison in
    sym (l.invariant
    ∙ ap (fold narrowed l.caught) (drop_all l.comparison-index c.args.compared.now (omega arith)))
