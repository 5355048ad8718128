use Rattle.std.proofs.Common.{ℕ, ◌+◌, ◌≡◌, ◌++◌, Some, sym, ap, ◌∙◌, arith}
use Rattle.std.specs.Int.{from_bool}
use Rattle.rule_set.specs.Winner.{userdata_at}
use Rattle.acl_audit.specs.Least.{least_key}
use Rattle.audit_report.specs.Audit.{is_live, rule_text}
use Rattle.audit_report.proofs.Lines.{count_more, from_bool-le, rules_more}
use Rattle.audit_report.proofs.audit.push_rules.Goals as goal

pub loop-place-preserved : goal.loop-place-preserved
loop-place-preserved c =
    let set = c.args.rules.now in
    let n : ℕ = c.loop-place.place in
    let place = c.listed-rule.ensures.place in
    let text : c.push_rule.new.text.items
    ≡ c.loop-place.text.items
    ++ rule_text c.args.family n (userdata_at set.rules (Some n)) c.args.categories (least_key set n) =
    c.in_ok-wins.ensures.text
    ∙ (λ i. c.loop-place.text.items ++ rule_text (c.listed-rule.ensures.family i) (place i)
    (c.listed-rule.ensures.userdata i) c.args.categories (least_key set (place i))) in
    let wins : c.in_ok-wins.wins ≡ is_live c.args.categories (least_key set n) =
    c.in_ok-wins.ensures.live ∙ ap (λ (k : ℕ). is_live c.args.categories (least_key set k)) place in
    record {
      text = rules_more c.args.family c.args.categories n set c.args.text.now.items c.loop-place.text.items
          c.push_rule.new.text.items c.loop-place.invariant.text text;
      live =
          (λ i. c.loop-place.invariant.live i + (c.from-live.ensures ∙ ap from_bool wins) i)
          ∙ sym (count_more (λ place. is_live c.args.categories (least_key set place)) n);
      few = omega (arith, c.loop-place.invariant.few, c.from-live.ensures, from_bool-le c.in_ok-wins.wins);
    }
