-- The set that is asked for, another one, and the end.
use Rattle.std.proofs.Common.{sym, ap, ◌∙◌, arith}
use Rattle.nft_reader.specs.Sets.{is_wanted, set_of}
use Rattle.nft_reader.specs.Known.{elements_found}
use Rattle.nft_reader.proofs.Elements.{find_here, find_more, find_end}
use Rattle.nft_reader.proofs.known.Known.named_elements.Goals as goal

pub returns-then-is_wanted : goal.returns-then-is_wanted
returns-then-is_wanted c =
    let l = c.loop-set in
    let wanted = is_wanted c.args.verdicts (record c.args.self.now.owner.now { name = c.args.name.now }) in
    sym (ap elements_found (l.invariant
    ∙ find_here set_of wanted c.args.self.now.sets.now l.set-index
    c.set-item.result (omega arith) c.set-item.is (sym c.is_wanted.ensures ∙ c.if-is_wanted.true)))

pub loop-set-preserved : goal.loop-set-preserved
loop-set-preserved c =
    let l = c.loop-set in
    let wanted = is_wanted c.args.verdicts (record c.args.self.now.owner.now { name = c.args.name.now }) in
    l.invariant
    ∙ find_more set_of wanted c.args.self.now.sets.now l.set-index
    c.set-item.result (omega arith) c.set-item.is (sym c.is_wanted.ensures ∙ c.if-is_wanted.false)

pub returns : goal.returns
returns c =
    let l = c.loop-set in
    let wanted = is_wanted c.args.verdicts (record c.args.self.now.owner.now { name = c.args.name.now }) in
    sym (ap elements_found (l.invariant ∙ find_end set_of wanted c.args.self.now.sets.now l.set-index (omega arith)))
