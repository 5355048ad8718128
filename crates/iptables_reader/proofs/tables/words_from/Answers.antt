-- Where no word is left, none is left later.
use Rattle.std.proofs.Common.{sym, ◌∙◌, arith}
use Rattle.text_scan.specs.Parts.{words_of}
use Rattle.iptables_reader.proofs.Folds.{drop_end, drop_next}
use Rattle.iptables_reader.proofs.tables.words_from.Goals as goal

pub returns-in-None : goal.returns-in-None
returns-in-None c =
    c.in-None.ensures.words
    ∙ sym (drop_end c.loop.counter c.args.place (words_of c.args.table.now)
    (sym c.loop.invariant ∙ c.in-None.ensures.words) (omega (arith, c.loop.auto.counter-end)))

pub loop-preserved : goal.loop-preserved
loop-preserved c =
    sym (drop_next c.loop.counter (words_of c.args.table.now) (sym c.loop.invariant ∙ c.in-Some.ensures.words))
