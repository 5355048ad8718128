-- A word that was passed over, and one that can't be.
use Rattle.std.proofs.Common.{◌+◌, ◌-◌, rules, ap, ◌∙◌}
use Rattle.iptables_reader.specs.Quotes.{after_word, after_words}
use Rattle.iptables_reader.specs.Stops.{◌>>=◌}
use Rattle.iptables_reader.proofs.Folds.{one_less, refused_first}
use Rattle.iptables_reader.proofs.words.Words.skip.Goals as goal

pub loop-preserved : goal.loop-preserved
loop-preserved c =
    c.loop.invariant ∙ one_less c.args.count c.loop.counter c.loop.self c.loop-test.true
    ∙ ap (λ found. found >>= after_words (c.args.count - (c.loop.counter + 1))) c.in_ok-skip_one.ensures

pub returns-in_err-skip_one : goal.returns-in_err-skip_one
returns-in_err-skip_one c =
    let left = c.args.count - (c.loop.counter + 1) in
    rw (c.loop.invariant ∙ one_less c.args.count c.loop.counter c.loop.self c.loop-test.true)
    (search (rules, refused_first (after_word c.loop.self) (after_words left)))
