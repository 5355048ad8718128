-- One rule more was put, and at the end all are.
use Rattle.std.proofs.Common.{◌++◌, ◌∙◌, ap, refl, map}
use Rattle.list_lemmas.proofs.Loops.{writes_all}
use Rattle.printed_lists.specs.Listed.{Comment, line_views}
use Rattle.list_tool.specs.Printed.{after_comment, comment_of, commented}
use Rattle.list_tool.proofs.Lines.{more_rules}
use Rattle.list_tool.proofs.printing.commented.Goals as goal

pub loop-place-preserved : goal.loop-place-preserved
loop-place-preserved c =
    let texts = map (λ text. text.now) c.args.texts.now in
    let by_line = c.args.by_line.now in
    let old = line_views c.loop-place.lines.items in
    let rule = c.index-rules-place.result in
    let comment = c.comment_of-comment.ensures
    ∙ (λ i. comment_of c.args.form texts (c.number_before.ensures i) (c.number_at-number.ensures i)) in
    more_rules c.args.form texts by_line c.args.rules.now c.loop-place.place old (line_views c.put_rule.new.lines.items)
    (map (λ text. Comment text) (map (λ text. text.now) c.args.head.now)
    ++ commented c.args.form texts by_line 0 c.args.rules.now)
    rule rule c.loop-place.invariant c.loop-place-test.true c.index-rules-place.is
    (c.in_ok-put_rule.ensures ∙ ap (λ it. old ++ after_comment it rule) comment)

pub returns : goal.returns
returns c = writes_all c.loop-place.invariant refl c.loop-place-test.false
