use Rattle.std.proofs.Common.{◌++◌, Err, sym, ap, ◌∙◌}
use Rattle.std.proofs.lemmas.Result.{on_ok_weaker}
use Rattle.acl_session.proofs.Mirroring.{adds_rule, told}
use Rattle.acl_session.proofs.context.add_rule.Goals as goal

pub returns-in-Ok : goal.returns-in-Ok
returns-in-Ok c =
    on_ok_weaker c.push_piece.result
    (λ text. adds_rule c.args.rule c.args.context.now c.add_stored.new.self c.add_stored.result
    c.args.replies.now.items c.push_piece.new.text.items c.add_stored.ensures
    (λ full. absurd (let is = c.in-Ok.is in cc))
    (text ∙ ap (λ r. c.args.replies.now.items ++ told r) (sym c.in-Ok.is)))
    c.push_piece.ensures

pub returns-in-Err-Full : goal.returns-in-Err-Full
returns-in-Err-Full c =
    let is = c.in-Err-Full.is ∙ ap Err c.in-Err-Full.field-0-is in
    on_ok_weaker c.push_piece-in-Err-Full.result
    (λ text. adds_rule c.args.rule c.args.context.now c.add_stored.new.self c.add_stored.result
    c.args.replies.now.items c.push_piece-in-Err-Full.new.text.items c.add_stored.ensures
    (λ full. absurd (cc))
    (text ∙ ap (λ r. c.args.replies.now.items ++ told r) (sym is)))
    c.push_piece-in-Err-Full.ensures

pub returns-in-Err-RuleRefused : goal.returns-in-Err-RuleRefused
returns-in-Err-RuleRefused c =
    let is = c.in-Err-RuleRefused.is ∙ ap Err c.in-Err-RuleRefused.field-0-is in
    on_ok_weaker c.push_rule_fault.result
    (λ text. adds_rule c.args.rule c.args.context.now c.add_stored.new.self c.add_stored.result
    c.args.replies.now.items c.push_rule_fault.new.text.items c.add_stored.ensures
    (λ full. absurd (cc))
    (text ∙ ap (λ r. c.args.replies.now.items ++ told r) (sym is)))
    c.push_rule_fault.ensures
