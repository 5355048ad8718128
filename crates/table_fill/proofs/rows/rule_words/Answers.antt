use Rattle.std.proofs.Common.{◌<◌, ◌++◌, ◌∷◌, [], ℕ, List, All, length, get_or, sym, ap, ◌∙◌, subst, arith}
use Rattle.std.proofs.lemmas.List.{take_all}
use Rattle.std.proofs.lemmas.List.Elements.{All-more}
use Rattle.std.proofs.lemmas.List.FromFn.{map-range_with_len_more}
use Rattle.rule_set.specs.Rule.{RuleView}
use Rattle.flat_table.specs.Walk.{userdatas}
use Rattle.table_fill.specs.Filled.{rule_word}
use Rattle.table_fill.proofs.Deciding.{length-ranks, rank_at, rule_word_is}
use Rattle.std.proofs.lemmas.Option.{get_or_from_slice_get}
use Rattle.table_fill.proofs.rows.rule_words.Goals as goal

pub index-requires : goal.index-requires
index-requires c =
    omega (arith, c.in_ok-ranks.ranks.ok.0, ap length c.in_ok-ranks.ensures, length-ranks c.args.rules.now.rules)

pub loop-place-preserved : goal.loop-place-preserved
loop-place-preserved c =
    let rules = c.args.rules.now.rules in
    let place : ℕ = c.loop-place.place in
    let rule : RuleView = c.at.result.now in
    let below : place < length rules = omega arith in
    let rank = c.index.ensures ∙ ap (λ (ranks : List ℕ). get_or ranks place c.index.result.now) c.in_ok-ranks.ensures
    ∙ rank_at rules place c.index.result.now below in
    let word = c.rule_word.ensures.value ∙ rule_word_is rules place rule _ c.tag-tag.result.userdata c.at.ensures.rule
    rank (ap (λ tag. tag.userdata) c.tag-tag.ensures) in (
      c.in_ok-push.ensures.items
          ∙ (λ i. c.loop-place.invariant.0 i ++ word i ∷ [])
          ∙ sym (map-range_with_len_more (rule_word rules) 0 place place (omega arith)),
      All-more (λ (r : RuleView). r.tag.userdata < userdatas) rules place rule below c.loop-place.invariant.1
          (subst (λ (r : RuleView). r.tag.userdata < userdatas)
          (sym (get_or_from_slice_get rules place rule rule c.at.ensures.rule))
          (subst (λ n. n < userdatas) (ap (λ tag. tag.userdata) c.tag-tag.ensures) c.rule_word.ensures.userdata)),
    )

pub returns-clause-userdata : goal.returns-clause-userdata
returns-clause-userdata c =
    subst (λ (rs : List RuleView). All (λ (r : RuleView). r.tag.userdata < userdatas) rs)
    (take_all c.loop-place.place c.args.rules.now.rules (omega arith)) c.loop-place.invariant.1
