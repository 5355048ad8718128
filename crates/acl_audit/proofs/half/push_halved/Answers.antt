use Rattle.std.proofs.Common.{◌≡◌, [], ◌∷◌, ◌++◌, sym, ◌∙◌, ap}
use Rattle.std.proofs.lemmas.List.{append-nil}
use Rattle.field_defs.specs.Lawful.{IsLayout}
use Rattle.rule_set.specs.declared.rule.RuleTag.{RuleTag}
use Rattle.rule_set.specs.Fault.{rule_fault}
use Rattle.rule_set.specs.Rule.{RuleView}
use Rattle.acl_audit.specs.Half.{is_in_half, mask_of, halved}
use Rattle.acl_audit.proofs.Masking.{mask_small, remasked, halved_none, halved_one}
use Rattle.acl_audit.proofs.half.push_halved.Goals as goal

pub push_lawful-requires-clause-lawful : goal.push_lawful-requires-clause-lawful
push_lawful-requires-clause-lawful c =
    let its : RuleView = c.args.rule.now in
    let layout : IsLayout c.args.rules.now.layout = rw c.layout.ensures at c.fields-fields.ensures.lawful in
    let tag_is : c.half_tag-tag.result ≡ (halved c.args.half c.args.list its).tag =
    c.half_tag-tag.ensures
    ∙ ap (λ (t : RuleTag). record t { category_mask = mask_of (is_in_half c.args.half c.args.list t) }) c.tag.ensures in
    let stored : c.in_ok-new.field-0 ≡ halved c.args.half c.args.list its =
    c.in_ok-new.ensures.ok ∙ (λ i. record { tag = tag_is i; fields = c.fields.ensures i }) in
    ap (λ (r : RuleView). rule_fault c.args.rules.now.layout r.tag r.fields) stored
    ∙ remasked c.args.rules.now.layout its.tag its.fields (mask_of (is_in_half c.args.half c.args.list its.tag)) layout
    (mask_small (is_in_half c.args.half c.args.list its.tag))
    (λ e. c.if-tag-ne0.true (ap (λ (t : RuleTag). t.category_mask) tag_is ∙ e)) c.requires.lawful

pub returns-in_ok-push_lawful : goal.returns-in_ok-push_lawful
returns-in_ok-push_lawful c =
    let its : RuleView = c.args.rule.now in
    let tag_is : c.half_tag-tag.result ≡ (halved c.args.half c.args.list its).tag =
    c.half_tag-tag.ensures
    ∙ ap (λ (t : RuleTag). record t { category_mask = mask_of (is_in_half c.args.half c.args.list t) }) c.tag.ensures in
    let stored : c.in_ok-new.field-0 ≡ halved c.args.half c.args.list its =
    c.in_ok-new.ensures.ok ∙ (λ i. record { tag = tag_is i; fields = c.fields.ensures i }) in
    let one = ap (λ (r : RuleView). c.args.rules.now.rules ++ r ∷ []) stored
    ∙ ap (λ l. c.args.rules.now.rules ++ l)
    (sym (halved_one c.args.half c.args.list its
    (λ e. c.if-tag-ne0.true (ap (λ (t : RuleTag). t.category_mask) tag_is ∙ e)))) in
    c.in_ok-push_lawful.ensures.ok ∙ (λ i. record { layout = c.args.rules.now.layout; rules = one i })

pub returns-else-tag-ne0 : goal.returns-else-tag-ne0
returns-else-tag-ne0 c =
    let its : RuleView = c.args.rule.now in
    let tag_is : c.half_tag-tag.result ≡ (halved c.args.half c.args.list its).tag =
    c.half_tag-tag.ensures
    ∙ ap (λ (t : RuleTag). record t { category_mask = mask_of (is_in_half c.args.half c.args.list t) }) c.tag.ensures in
    let one = sym (append-nil c.args.rules.now.rules)
    ∙ ap (λ l. c.args.rules.now.rules ++ l)
    (sym (halved_none c.args.half c.args.list its
    (sym (ap (λ (t : RuleTag). t.category_mask) tag_is) ∙ c.if-tag-ne0.false))) in
    (λ i. record { layout = c.args.rules.now.layout; rules = one i })
