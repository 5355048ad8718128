use Rattle.std.proofs.Common.{◌≡◌, ◌<◌, List, length, sym, ap, subst, ◌∙◌}
use Rattle.field_defs.specs.declared.field.FieldDef.{FieldDef}
use Rattle.field_defs.specs.Layout.{key_len_of}
use Rattle.field_defs.proofs.Offered.{short_keys}
use Rattle.rule_set.specs.Rule.{RuleSetView}
use Rattle.acl_session.proofs.OneKey.{one_fits, served_one}
use Rattle.acl_session.proofs.buffer.classify_key.Goals as goal

pub classify-requires-clause-fits : goal.classify-requires-clause-fits
classify-requires-clause-fits g c =
    let layout : c.layout.result.now ≡ c.args.context.now.set.layout =
    c.layout.ensures ∙ ap (λ (set : RuleSetView). set.layout) c.rules.ensures in
    let some : 0 < key_len_of c.args.context.now.set.layout =
    subst (λ (defs : List FieldDef). 0 < key_len_of defs) layout
    ((short_keys c.layout.result.now c.fields-lawful.ensures.lawful).0) in
    one_fits (key_len_of c.args.context.now.set.layout) c.args.key.now c.args.cats.count (length c.args.verdicts.now)
    some c.requires.key c.requires.room

pub returns-in-Ok-clause-served : goal.returns-in-Ok-clause-served
returns-in-Ok-clause-served g c = λ set same.
    let layout : c.layout.result.now ≡ c.args.context.now.set.layout =
    c.layout.ensures ∙ ap (λ (set : RuleSetView). set.layout) c.rules.ensures in
    let some : 0 < key_len_of set.layout =
    subst (λ (defs : List FieldDef). 0 < key_len_of defs) (layout ∙ sym same)
    ((short_keys c.layout.result.now c.fields-lawful.ensures.lawful).0) in
    served_one c.args.context.now.table set c.args.cats.count c.args.key.now c.classify.new.out some
    (c.requires.key ∙ ap key_len_of (sym same)) (c.classify.ensures.served set)
