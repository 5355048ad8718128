-- What an element makes, why one isn't read, and what is made where none is left.
use Rattle.std.proofs.Common.{arith, rules}
use Rattle.nft_reader.proofs.Folding.{folding_all, folding_more, folding_stops}
use Rattle.nft_reader.proofs.known.Known.elements_boxes.Goals as goal

pub returns-in_err-put_key : goal.returns-in_err-put_key
returns-in_err-put_key c =
    search (
      rules,
      folding_stops _ _ c.loop-element.invariant (omega arith) c.element-item.is c.in_err-put_key.ensures,
    )

pub loop-element-preserved : goal.loop-element-preserved
loop-element-preserved c =
    folding_more _ c.loop-element.invariant (omega arith) c.element-item.is c.in_ok-put_key.ensures

pub returns : goal.returns
returns c = folding_all c.loop-element.invariant (omega arith)
