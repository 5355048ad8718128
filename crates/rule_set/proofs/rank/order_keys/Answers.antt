use Rattle.std.proofs.Common.{◌≡◌, ◌++◌, ◌∷◌, [], get_or, length, ◌∙◌, ap, arith, length-append}
use Rattle.rule_set.specs.Keys.{keys_of, order_key}
use Rattle.rule_set.proofs.Keys.{keys_more}
use Rattle.rule_set.proofs.rank.order_keys.Goals as goal

pub loop-rule-preserved : goal.loop-rule-preserved
loop-rule-preserved c =
    let rules = c.args.rules.now in
    let keys = c.loop-rule.keys.items in
    let i = c.loop-rule.rule-index in
    let rule = c.rule-item.result in
    let tag_is : c.tag.result ≡ (get_or rules i rule).tag = c.tag.ensures ∙ ap (λ r. r.tag) c.rule-item.is in
    let place_is : c.len-place.result ≡ i = omega (arith, c.len-place.ensures, c.loop-rule.invariant.1) in
    let key_is : c.order_key.result ≡ order_key (get_or rules i rule).tag.priority i =
    rw (← tag_is, ← place_is) c.order_key.ensures in (
      c.in_ok-push.ensures.items
          ∙ ap (λ key. keys ++ key ∷ []) key_is
          ∙ keys_more rules keys i rule (omega arith) c.loop-rule.invariant.0,
      ap length c.in_ok-push.ensures.items ∙ length-append keys (c.order_key.result ∷ [])
          ∙ omega (arith, c.loop-rule.invariant.1),
    )

pub returns : goal.returns
unfolding keys_of
returns c =
    let all : c.loop-rule.rule-index ≡ length c.args.rules.now = omega arith in
    rw all at c.loop-rule.invariant.0
