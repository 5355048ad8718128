use Rattle.std.proofs.Common.{◌&&◌, refl, sym, ◌∙◌, subst, arith}
use Rattle.std.proofs.lemmas.List.Folds.{list_all_more, list_all_at}
use Rattle.field_defs.specs.Lawful.{IsLayout}
use Rattle.trie_merge.proofs.kept.is_wild_place.Goals as goal
use Rattle.group_states.proofs.Offered.{value_lies, wild_told}
use Rattle.group_states.specs.Kept.{is_wild_place}

pub loop-number-init : goal.loop-number-init
unfolding is_wild_place
loop-number-init c = refl

pub is_wild_in-requires : goal.is_wild_in-requires
is_wild_in-requires c =
    let its = value_lies c.args.rules.now c.at.result.now c.args.place _ _ (c.fields.ensures.fields ∙ c.layout.ensures)
    (subst IsLayout c.layout.ensures c.fields.ensures.lawful) c.at.ensures.lawful c.requires.place
    c.field_at-at.ensures.at in
    record { within = its.within; can = its.can }

pub returns-then-not-is_wild_in : goal.returns-then-not-is_wild_in
unfolding is_wild_place
returns-then-not-is_wild_in c =
    let told = wild_told c.args.rules.now c.at.result.now c.args.place _ _ (c.fields.ensures.fields ∙ c.layout.ensures)
    (subst IsLayout c.layout.ensures c.fields.ensures.lawful) c.at.ensures.lawful c.requires.place
    c.field_at-at.ensures.at _ c.is_wild_in.result c.at.ensures.rule c.is_wild_in.ensures in
    sym (list_all_at _ c.args.group.now c.loop-number.number-index 0 (omega arith) (told ∙ c.if-not-is_wild_in.true))

pub loop-number-preserved : goal.loop-number-preserved
unfolding is_wild_place
loop-number-preserved c =
    let told = wild_told c.args.rules.now c.at.result.now c.args.place _ _ (c.fields.ensures.fields ∙ c.layout.ensures)
    (subst IsLayout c.layout.ensures c.fields.ensures.lawful) c.at.ensures.lawful c.requires.place
    c.field_at-at.ensures.at _ c.is_wild_in.result c.at.ensures.rule c.is_wild_in.ensures in
    list_all_more _ c.args.group.now c.loop-number.number-index 0 (omega arith)
    ∙ (λ i. c.loop-number.invariant i && (told ∙ c.if-not-is_wild_in.false) i)
