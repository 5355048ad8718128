use Rattle.std.proofs.Common.{◌≡◌, List, ℕ, ◌++◌, Ok, subst, sym, ap, ◌∙◌}
use Rattle.field_defs.specs.declared.field.Family.TheVariants.{Ip4, Ip6}
use Rattle.field_defs.specs.Layout.{ip4_fields, ip6_fields}
use Rattle.rule_set.specs.Rule.{RuleSetView}
use Rattle.audit_report.specs.Compare.{compared_text}
use Rattle.capture_report.specs.Classifier.{lists_of}
use Rattle.acl_tool.specs.CompareLines.{compared_within}
use Rattle.acl_tool.specs.Texts.{Refuses}
use Rattle.acl_tool.proofs.Making.{set-is}
use Rattle.acl_tool.proofs.CompareLines.{both_said, first_stops, second_stops}
use Rattle.acl_tool.proofs.compare.compare_lines.Goals as goal

pub returns-in-Err : goal.returns-in-Err
returns-in-Err c =
    let one = set-is c.args.one.now.ip4 ip4_fields c.requires.one_ip4 in
    let two = set-is c.args.two.now.ip4 ip4_fields c.requires.two_ip4 in
    record {
      text = tt;
      refused = first_stops c.args.budget (lists_of c.args.one.now) (lists_of c.args.two.now) c.in-Err.status
          (subst (λ (s : RuleSetView × RuleSetView).
          Refuses (compared_within c.args.budget Ip4 s.0 s.1) c.in-Err.status)
          (λ i. (one i, two i)) c.in-Err.ensures.refused);
    }

pub returns-in-Err-compared_within : goal.returns-in-Err-compared_within
returns-in-Err-compared_within c =
    let one = set-is c.args.one.now.ip4 ip4_fields c.requires.one_ip4 in
    let two = set-is c.args.two.now.ip4 ip4_fields c.requires.two_ip4 in
    let third = set-is c.args.one.now.ip6 ip6_fields c.requires.one_ip6 in
    let fourth = set-is c.args.two.now.ip6 ip6_fields c.requires.two_ip6 in
    record {
      text = tt;
      refused = second_stops c.args.budget (lists_of c.args.one.now) (lists_of c.args.two.now)
          c.in-Err-compared_within.status
          (subst (λ (s : RuleSetView × RuleSetView).
          compared_within c.args.budget Ip4 s.0 s.1 ≡ Ok (compared_text Ip4 s.0 s.1)) (λ i. (one i, two i))
          c.in-Ok.ensures.within)
          (subst (λ (s : RuleSetView × RuleSetView).
          Refuses (compared_within c.args.budget Ip6 s.0 s.1) c.in-Err-compared_within.status)
          (λ i. (third i, fourth i)) c.in-Err-compared_within.ensures.refused);
    }

pub returns : goal.returns
returns c =
    let one = set-is c.args.one.now.ip4 ip4_fields c.requires.one_ip4 in
    let two = set-is c.args.two.now.ip4 ip4_fields c.requires.two_ip4 in
    let third = set-is c.args.one.now.ip6 ip6_fields c.requires.one_ip6 in
    let fourth = set-is c.args.two.now.ip6 ip6_fields c.requires.two_ip6 in
    record {
      text =
          both_said c.args.budget (lists_of c.args.one.now) (lists_of c.args.two.now)
          (subst (λ (s : RuleSetView × RuleSetView).
          compared_within c.args.budget Ip4 s.0 s.1 ≡ Ok (compared_text Ip4 s.0 s.1)) (λ i. (one i, two i))
          c.in-Ok.ensures.within)
          (subst (λ (s : RuleSetView × RuleSetView).
          compared_within c.args.budget Ip6 s.0 s.1 ≡ Ok (compared_text Ip6 s.0 s.1)) (λ i. (third i, fourth i))
          c.in-Ok-compared_within.ensures.within)
          ∙ ap Ok (sym (c.in_ok-push_difference-2.ensures
          ∙ ap (λ (t : List ℕ). t ++ compared_text Ip6 c.args.one.now.ip6 c.args.two.now.ip6)
          (c.in_ok-push_difference.ensures
          ∙ ap (λ (t : List ℕ). t ++ compared_text Ip4 c.args.one.now.ip4 c.args.two.now.ip4) c.new-text.ensures.items)
          ∙ (λ i. compared_text Ip4 (one i) (two i) ++ compared_text Ip6 (third i) (fourth i))));
      refused = tt;
    }
