-- the lines of the rules so far, and how many of them are live
use Rattle.std.proofs.Common.{◌≡◌, ◌≤◌, ◌++◌, Some, length, filter}
use Rattle.std.specs.List.{flat_map, range_with_len}
use Rattle.rule_set.specs.Winner.{userdata_at}
use Rattle.acl_audit.specs.Least.{least_key}
use Rattle.audit_report.specs.Audit.{is_live, rule_text}
use Rattle.audit_report.proofs.audit.push_rules.Given as goal

abbrev pub invariant-loop-place : goal.invariant-loop-place
invariant-loop-place l = record {
  text : l.text.items ≡ l.fn.text.items
      ++ flat_map (λ place. rule_text l.family place (userdata_at l.rules.rules (Some place)) l.categories
      (least_key l.rules place)) (range_with_len 0 l.place);
  live : l.live ≡ length (filter (λ place. is_live l.categories (least_key l.rules place)) (range_with_len 0 l.place));
  few : l.live ≤ l.place;
}
