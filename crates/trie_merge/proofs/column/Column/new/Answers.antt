use Rattle.std.proofs.Common.{get_or, ◌∙◌, ap, subst, arith}
use Rattle.std.proofs.lemmas.Option.{get_or_from_slice_get}
use Rattle.field_defs.specs.declared.field.FieldValue.TheVariants.{Mask}
use Rattle.field_defs.specs.Lawful.{IsLayout}
use Rattle.rule_set.specs.Rule.{RuleView}
use Rattle.trie_merge.proofs.column.Column.new.Goals as goal
use Rattle.group_states.proofs.Offered.{value_of_rule}
use Rattle.group_states.specs.Entry.{field_at}
use Rattle.list_lemmas.proofs.Spans.{one_more_mapped}

pub bounds-fields-at : goal.bounds-fields-at
bounds-fields-at c =
    rw c.fields-in-loop-i.ensures (value_of_rule c.args.rules.now.layout c.at.result.now c.args.place _
    (subst IsLayout c.layout.ensures c.fields.ensures.lawful) c.at.ensures.lawful c.requires
    (c.field_at-at.ensures.at
    ∙ ap (λ defs. field_at defs c.args.place) (c.fields.ensures.fields ∙ c.layout.ensures))).within

pub loop-i-preserved : goal.loop-i-preserved
loop-i-preserved c =
    let rule = c.at.result.now in
    let at = c.field_at-at.result in
    let is = get_or_from_slice_get c.args.rules.now.rules c.loop-i.i rule rule c.at.ensures.rule in
    one_more_mapped (λ (r : RuleView). get_or r.fields at.field (Mask 0 0)) c.args.rules.now.rules c.loop-i.i rule _ _
    (omega arith) c.loop-i.invariant
    (rw is (rw c.fields-in-loop-i.ensures at c.in_ok-push.ensures.items))
