-- the lines of the categories so far, and whether there is one
use Rattle.std.proofs.Common.{◌≡◌, ◌++◌}
use Rattle.acl_audit.specs.Least.{least_key}
use Rattle.audit_report.specs.Audit.{is_live, wins_text}
use Rattle.audit_report.proofs.rule.push_wins.Given as goal

abbrev pub invariant-loop-category : goal.invariant-loop-category
invariant-loop-category l = record {
  text : l.text.items ≡ l.fn.text.items
      ++ wins_text l.rule.family l.rule.place l.rule.userdata l.category (least_key l.rules l.rule.place);
  live : l.live ≡ is_live l.category (least_key l.rules l.rule.place);
}
