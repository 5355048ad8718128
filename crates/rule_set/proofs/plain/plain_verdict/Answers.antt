use Rattle.std.proofs.Common.{◌≡◌, ◌+◌, ◌∷◌, [], ◌++◌, true, take, get_or, sym, ap, ◌∙◌, arith, rules}
use Rattle.std.proofs.lemmas.Bool.{and_left, and_right, and_from}
use Rattle.std.proofs.lemmas.List.{take_more, take_all}
use Rattle.field_defs.specs.Lawful.{IsLayout}
use Rattle.std.specs.Option.{option_map_or}
use Rattle.rule_set.specs.declared.rule.RuleTag.{RuleTag}
use Rattle.rule_set.specs.Winner.{applies, is_in_category, verdict}
use Rattle.rule_set.proofs.Best.{IsBest-skip, IsBest-above, IsBest-not_above, verdict_of_best}
use Rattle.rule_set.proofs.Lawful.{can_match_held}
use Rattle.rule_set.proofs.plain.plain_verdict.Goals as goal
use Rattle.rule_set.proofs.plain.plain_verdict.Goals.{then-is_in_category+then-is_above+then-matches_key}
use Rattle.rule_set.proofs.plain.plain_verdict.Goals.{else-is_in_category}
use Rattle.rule_set.proofs.plain.plain_verdict.Goals.{else-is_in_category-via-then-is_in_category+then-is_above+else-matches_key}
use Rattle.rule_set.proofs.plain.plain_verdict.Goals.{else-is_in_category-via-then-is_in_category+else-is_above}
use Rattle.rule_set.proofs.plain.plain_verdict.Goals.{else-is_in_category-via-else-is_in_category}

pub matches_key-requires-clause-values : goal.matches_key-requires-clause-values
matches_key-requires-clause-values c =
    let set = c.args.rules.now in
    let rule = c.rule-item.result in
    let layout : IsLayout set.layout = rw c.layout.ensures at c.fields-defs.ensures.lawful in
    let rule_is : rule ≡ get_or set.rules c.loop-rule.rule-index rule =
    c.rule-item.is ∙ ap (λ rules. get_or rules c.loop-rule.rule-index rule) c.all-rule-items.ensures.rules in
    rw (c.fields.ensures, c.fields-defs.ensures.fields, c.layout.ensures)
    (can_match_held set c.loop-rule.rule-index rule c.all-rule-items.ensures.lawful layout
    (rw c.all-rule-items.ensures.rules at c.loop-rule-test.true) rule_is)

pub loop-rule-preserved : goal.loop-rule-preserved
loop-rule-preserved c =
    let rule = c.rule-item.result in
    let rules = c.all-rule-items.result.now in
    let so_far = take c.loop-rule.rule-index rules in
    let test = applies c.fields-defs.result.now c.args.key.now c.args.category in
    let best = c.loop-rule.best in
    let more : take (c.loop-rule.rule-index + 1) rules ≡ so_far ++ rule ∷ [] =
    take_more rules c.loop-rule.rule-index rule (omega arith)
    ∙ ap (λ other. so_far ++ other ∷ []) (sym c.rule-item.is) in
    let category : is_in_category rule.tag c.args.category ≡ c.is_in_category.result =
    sym (rw c.tag-tag.ensures at c.is_in_category.ensures) in
    elim c.if-is_in_category.branch [
      | then-is_in_category+then-is_above+then-matches_key w ↦
          let matches = sym (rw w.fields.ensures at w.matches_key.ensures) ∙ w.if-matches_key.true in
          let holds : test rule ≡ true = and_from _ _ matches (category ∙ w.if-is_in_category.true) in
          rw (more, w.best-is, c.tag-tag.ensures)
          (IsBest-above test so_far rule best w.is_above.result
          (rw c.tag-tag.ensures at w.is_above.ensures) w.if-is_above.true holds c.loop-rule.invariant)
      | else-is_in_category w ↦ rw (more, w.best-is) (elim w.else-is_in_category.branch [
        | else-is_in_category-via-then-is_in_category+then-is_above+else-matches_key v ↦
            IsBest-skip test so_far rule best (and_left _ _
            (sym (rw v.fields.ensures at v.matches_key.ensures) ∙ v.if-matches_key.false)) c.loop-rule.invariant
        | else-is_in_category-via-then-is_in_category+else-is_above v ↦
            IsBest-not_above test so_far rule best v.is_above.result
            (rw c.tag-tag.ensures at v.is_above.ensures) v.if-is_above.false c.loop-rule.invariant
        | else-is_in_category-via-else-is_in_category v ↦
            IsBest-skip test so_far rule best (and_right _ _ (category ∙ v.if-is_in_category.false))
            c.loop-rule.invariant
      ])
    ]

pub returns : goal.returns
returns c =
    let set = c.args.rules.now in
    let whole : take c.loop-rule.rule-index c.all-rule-items.result.now ≡ set.rules =
    take_all c.loop-rule.rule-index c.all-rule-items.result.now (omega arith) ∙ c.all-rule-items.ensures.rules in
    let userdata : c.map_or.result ≡ option_map_or (λ (tag : RuleTag). tag.userdata) c.loop-rule.best 0 =
    search rules in
    userdata
    ∙ verdict_of_best c.fields-defs.result.now
    (take c.loop-rule.rule-index c.all-rule-items.result.now) c.args.key.now c.args.category c.loop-rule.best
    c.loop-rule.invariant
    ∙ ap (λ rules. verdict c.fields-defs.result.now rules c.args.key.now c.args.category) whole
    ∙ ap (λ layout. verdict layout set.rules c.args.key.now c.args.category)
    (c.fields-defs.ensures.fields ∙ c.layout.ensures)
