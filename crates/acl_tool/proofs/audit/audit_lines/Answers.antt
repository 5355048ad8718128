use Rattle.std.proofs.Common.{◌≡◌, Ok, subst, sym, ap, ◌∙◌}
use Rattle.field_defs.specs.declared.field.Family.TheVariants.{Ip4, Ip6}
use Rattle.field_defs.specs.Layout.{ip4_fields, ip6_fields}
use Rattle.rule_set.specs.Rule.{RuleSetView}
use Rattle.audit_report.specs.Audit.{audit_text}
use Rattle.capture_report.specs.Classifier.{lists_of}
use Rattle.acl_tool.specs.AuditMerged.{merged_within}
use Rattle.acl_tool.specs.Texts.{Refuses}
use Rattle.acl_tool.proofs.Making.{set-is}
use Rattle.acl_tool.proofs.AuditMerged.{first_refuses, said_is, second_refuses}
use Rattle.acl_tool.proofs.audit.audit_lines.Goals as goal

pub returns-in-Err : goal.returns-in-Err
returns-in-Err c =
    let ip4 = set-is c.args.rules.now.ip4 ip4_fields c.requires.ip4 in
    record {
      text = tt;
      refused = first_refuses c.args.categories.count c.args.budget (lists_of c.args.rules.now) c.in-Err.status
          (subst (λ (s : RuleSetView). Refuses (merged_within c.args.budget Ip4 s) c.in-Err.status) ip4
          c.in-Err.ensures.refused);
    }

pub returns-in-Err-live_within : goal.returns-in-Err-live_within
returns-in-Err-live_within c =
    let ip4 = set-is c.args.rules.now.ip4 ip4_fields c.requires.ip4 in
    let ip6 = set-is c.args.rules.now.ip6 ip6_fields c.requires.ip6 in
    record {
      text = tt;
      refused = second_refuses c.args.categories.count c.args.budget (lists_of c.args.rules.now)
          c.in-Err-live_within.status
          (subst (λ (s : RuleSetView). merged_within c.args.budget Ip4 s ≡ Ok s) ip4 c.in-Ok.ensures.fits)
          (subst (λ (s : RuleSetView). Refuses (merged_within c.args.budget Ip6 s) c.in-Err-live_within.status) ip6
          c.in-Err-live_within.ensures.refused);
    }

pub returns : goal.returns
returns c =
    let ip4 = set-is c.args.rules.now.ip4 ip4_fields c.requires.ip4 in
    let ip6 = set-is c.args.rules.now.ip6 ip6_fields c.requires.ip6 in
    record {
      text =
          said_is c.args.categories.count c.args.budget (lists_of c.args.rules.now)
          (subst (λ (s : RuleSetView). merged_within c.args.budget Ip4 s ≡ Ok s) ip4 c.in-Ok.ensures.fits)
          (subst (λ (s : RuleSetView). merged_within c.args.budget Ip6 s ≡ Ok s) ip6 c.in-Ok-live_within.ensures.fits)
          ∙ ap Ok (sym (c.in_ok-text.ensures
          ∙ (λ i. audit_text c.args.categories.count (ip4 i) (ip6 i))));
      refused = tt;
    }
