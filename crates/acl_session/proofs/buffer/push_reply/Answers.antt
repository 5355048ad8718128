use Rattle.std.proofs.Common.{ℕ, List, ◌++◌, Some, None, length, sym, ap, ◌∙◌}
use Rattle.std.specs.Prelude.{nat_lt}
use Rattle.std.specs.Option.{option_map}
use Rattle.std.proofs.lemmas.Result.{on_ok_weaker}
use Rattle.field_defs.specs.declared.field.FieldDef.{FieldDef}
use Rattle.field_defs.specs.Layout.{buffer_len_of}
use Rattle.rule_set.specs.Rule.{RuleSetView}
use Rattle.acl_session.specs.Replies.{verdicts_text}
use Rattle.acl_session.proofs.Verdicts.{short_reply, whole_reply}
use Rattle.acl_session.proofs.buffer.push_reply.Goals as goal

pub returns-then-is_short : goal.returns-then-is_short
returns-then-is_short c =
    let layout = c.layout.ensures ∙ ap (λ (set : RuleSetView). set.layout) c.rules.ensures in
    on_ok_weaker c.push_piece.result
    (λ text held holds. text ∙ ap (λ (t : List ℕ). c.args.replies.now.items ++ t)
    (sym (short_reply held c.args.context.now c.args.cats.count c.args.buffer.now holds
    (ap (λ (defs : List FieldDef). nat_lt (length c.args.buffer.now) (buffer_len_of defs)) (sym layout)
    ∙ sym c.is_short.ensures ∙ c.if-is_short.true))))
    c.push_piece.ensures

pub returns-in-Some : goal.returns-in-Some
returns-in-Some c =
    let layout = c.layout.ensures ∙ ap (λ (set : RuleSetView). set.layout) c.rules.ensures in
    on_ok_weaker c.push_verdicts.result
    (λ text held holds. text ∙ ap (λ (vs : List ℕ). c.args.replies.now.items ++ verdicts_text vs) c.deref.ensures.value
    ∙ ap (λ (t : List ℕ). c.args.replies.now.items ++ t)
    (sym (whole_reply held c.args.context.now c.args.cats.count c.args.buffer.now (Some c.in-Some.verdicts.items) holds
    (ap (λ (defs : List FieldDef). nat_lt (length c.args.buffer.now) (buffer_len_of defs)) (sym layout)
    ∙ sym c.is_short.ensures ∙ c.if-is_short.false)
    (ap (option_map (λ v. v.items)) (sym c.in-Some.is) ∙ c.in_ok-verdicts.ensures.said held holds))))
    c.push_verdicts.ensures

pub returns-in-None : goal.returns-in-None
returns-in-None c =
    let layout = c.layout.ensures ∙ ap (λ (set : RuleSetView). set.layout) c.rules.ensures in
    on_ok_weaker c.push_piece-in-None.result
    (λ text held holds. text ∙ ap (λ (t : List ℕ). c.args.replies.now.items ++ t)
    (sym (whole_reply held c.args.context.now c.args.cats.count c.args.buffer.now None holds
    (ap (λ (defs : List FieldDef). nat_lt (length c.args.buffer.now) (buffer_len_of defs)) (sym layout)
    ∙ sym c.is_short.ensures ∙ c.if-is_short.false)
    (ap (option_map (λ v. v.items)) (sym c.in-None.is) ∙ c.in_ok-verdicts.ensures.said held holds))))
    c.push_piece-in-None.ensures
