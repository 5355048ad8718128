use Rattle.std.proofs.Common.{ap, sym, ◌∙◌}
use Rattle.std.proofs.lemmas.Result.{IfOk-weaker, on_ok_weaker}
use Rattle.rule_set.specs.Rule.{RuleSetView}
use Rattle.acl_audit.specs.Half.{exceeds}
use Rattle.acl_audit.proofs.compare.compare_half.Goals as goal

pub returns-clause-told : goal.returns-clause-told
returns-clause-told c =
    IfOk-weaker c.compare_lists.result _ _
    (λ compared tells. tells.told c.args.one.now c.args.two.now c.requires.layouts c.in_ok-rules.ensures)
    c.compare_lists.ensures.told

pub returns-clause-fits : goal.returns-clause-fits
returns-clause-fits c =
    on_ok_weaker c.compare_lists.result
    (λ fits. ap (λ (set : RuleSetView). exceeds set c.args.budget) (sym c.in_ok-rules.ensures) ∙ fits)
    c.compare_lists.ensures.fits

pub returns-clause-over : goal.returns-clause-over
returns-clause-over c words most is =
    let told = c.compare_lists.ensures.over words most is in
    (ap (λ (set : RuleSetView). exceeds set c.args.budget) (sym c.in_ok-rules.ensures) ∙ told.0, told.1, told.2)
