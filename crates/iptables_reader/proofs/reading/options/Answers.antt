-- The words that are left after an option.
use Rattle.std.proofs.Common.{length, ap, ◌∙◌, arith}
use Rattle.iptables_reader.specs.Reading.{with_options}
use Rattle.iptables_reader.specs.Stops.{◌>>=◌}
use Rattle.iptables_reader.proofs.JoinedWords.{has_word, option_took, option_then}
use Rattle.iptables_reader.proofs.reading.options.Goals as goal

pub loop-word-smaller : goal.loop-word-smaller
loop-word-smaller c =
    let took = option_took c.args.setting.now c.loop-word.reading c.in-Some.word.now c.next.new.self _
    c.in_ok-take_option.ensures in
    let fewer = has_word took in
    omega (arith, fewer, ap length c.in-Some.ensures)

pub loop-word-preserved : goal.loop-word-preserved
loop-word-preserved c =
    c.loop-word.invariant
    ∙ ap (λ words. with_options words c.args.setting.now c.loop-word.reading words) c.in-Some.ensures
    ∙ option_then c.args.setting.now c.loop-word.reading c.in-Some.word.now c.next.new.self
    ∙ ap (λ found. found >>= λ read. with_options read.words c.args.setting.now read.reading read.words)
    c.in_ok-take_option.ensures
