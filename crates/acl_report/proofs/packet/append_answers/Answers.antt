-- Each turn writes the word of the next verdict and dash, and after the last turn all are written.
use Rattle.std.proofs.Common.{◌++◌, map, take, arith, ap, ◌∙◌}
use Rattle.acl_report.specs.Line.{spaced}
use Rattle.acl_report.specs.Packet.{answer_word}
use Rattle.acl_report.proofs.AnswerWords.{words_more, answers_all}
use Rattle.acl_report.proofs.packet.append_answers.Goals as goal

pub loop-place-preserved : goal.loop-place-preserved
loop-place-preserved c =
    let l = c.loop-place in
    let before = take c.args.start c.args.into.now in
    let words = words_more before c.args.verdicts.now c.args.dashes.now l.place
    (omega (arith, c.loop-place-test.true)) c.requires.dashes in
    record {
      room = omega (arith, l.invariant.room, c.append_answer-at.ensures.end);
      line = rw c.append_answer-at.ensures.line (rw l.invariant.line words);
    }

pub returns-clause-line : goal.returns-clause-line
returns-clause-line c =
    let l = c.loop-place in
    let before = take c.args.start c.args.into.now in
    l.invariant.line
    ∙ ap (λ shown. before ++ spaced (map answer_word shown))
    (answers_all c.args.verdicts.now c.args.dashes.now l.place (omega (arith, c.loop-place-test.false))
    c.requires.dashes)
