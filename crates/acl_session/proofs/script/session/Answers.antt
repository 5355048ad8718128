use Rattle.std.proofs.Common.{sym, ◌∙◌}
use Rattle.acl_session.proofs.Lines.{all_answered, line_answered, line_skipped, none_answered}
use Rattle.acl_session.proofs.script.session.Goals as goal

pub loop-line-init : goal.loop-line-init
loop-line-init c = none_answered _ _ _ c.new-made.ensures c.new-replies.ensures.items

pub loop-line-preserved-in_ok-answer : goal.loop-line-preserved-in_ok-answer
loop-line-preserved-in_ok-answer c =
    line_answered c.args.script.now c.loop-line.made c.answer.new.self c.loop-line.replies.items
    c.answer.new.replies.items c.loop-line.left.now c.in-Some.line.now c.in-Some.rest.now c.loop-line.invariant
    c.in-Some.ensures.lines (sym c.is_skipped.ensures ∙ c.if-not-is_skipped.true) c.in_ok-answer.ensures

pub loop-line-preserved : goal.loop-line-preserved
loop-line-preserved c =
    line_skipped c.args.script.now c.loop-line.made c.loop-line.replies.items c.loop-line.left.now c.in-Some.line.now
    c.in-Some.rest.now c.loop-line.invariant c.in-Some.ensures.lines
    (sym c.is_skipped.ensures ∙ c.if-not-is_skipped.false)

pub returns : goal.returns
returns c =
    all_answered c.args.script.now c.loop-line.made c.loop-line.replies.items c.loop-line.left.now
    c.loop-line.invariant c.in_default.ensures.lines
