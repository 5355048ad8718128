use Rattle.std.proofs.Common.{List, ℕ, subst, ap, ◌∙◌}
use Rattle.field_defs.specs.declared.field.FieldDef.{FieldDef}
use Rattle.field_defs.specs.Layout.{key_of}
use Rattle.rule_set.specs.Rule.{RuleSetView}
use Rattle.acl_session.specs.Mirrors.{SaysOf}
use Rattle.acl_session.proofs.buffer.write_verdicts.Goals as goal

pub returns-clause-served : goal.returns-clause-served
returns-clause-served c =
    let layout = c.layout.ensures ∙ ap (λ (set : RuleSetView). set.layout) c.rules.ensures in
    subst (λ (key : List ℕ). SaysOf c.args.context.now.set.layout c.args.context.now.table c.args.cats.count key
    c.classify_key.new.verdicts)
    (c.gather.ensures ∙ ap (λ (defs : List FieldDef). key_of defs c.args.buffer.now) layout)
    c.classify_key.ensures.served
