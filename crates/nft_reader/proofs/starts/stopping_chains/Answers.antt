-- A step more, and the last one.
use Rattle.std.proofs.Common.{arith, ap, ◌∙◌, sym}
use Rattle.nft_reader.specs.Starts.{spread}
use Rattle.nft_reader.proofs.Spreading.{spread_end, spread_more}
use Rattle.nft_reader.proofs.starts.stopping_chains.Goals as goal

pub loop-preserved : goal.loop-preserved
loop-preserved c =
    let l = c.loop in
    sym (spread_more l.counter c.args.chains.now l.marks.items _ (omega arith)
    (c.in_ok-marks-2.ensures ∙ ap (spread c.args.chains.now) c.deref.ensures.value))
    ∙ l.invariant

pub returns : goal.returns
returns c =
    let l = c.loop in
    sym (spread_end l.counter c.args.chains.now l.marks.items (omega arith)) ∙ l.invariant
