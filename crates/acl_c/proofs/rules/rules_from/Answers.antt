use Rattle.std.proofs.Common.{◌≡◌, ◌++◌, ◌∷◌, [], ◌+◌, length, sym, ◌∙◌, arith}
use Rattle.std.proofs.lemmas.List.FromFn.{map-range_with_len_more}
use Rattle.acl_c.specs.Rules.{rule_from}
use Rattle.acl_c.proofs.Rows.{left_next, one_rule}
use Rattle.acl_c.proofs.rules.rules_from.Goals as goal

pub loop-place-preserved : goal.loop-place-preserved
loop-place-preserved c =
    let l = c.loop-place in
    let defs = c.args.defs.now in
    let tags = c.args.tags.now in
    let values = c.args.values.now in
    let here = c.loop-place-test.true in
    let from_0 : 0 + l.place ≡ l.place = omega arith in
    let one = c.in_ok-rule_from.ensures ∙ one_rule defs tags values l.left.now l.place _ here l.invariant.left in
    record {
      rules = c.in_ok-push.ensures.items ∙ (λ i. l.invariant.rules i ++ one i ∷ [])
          ∙ sym (map-range_with_len_more (rule_from defs tags values) 0 l.place l.place from_0);
      left = c.split_at.ensures.back ∙ left_next l.place (length defs) values l.left.now l.invariant.left;
    }
