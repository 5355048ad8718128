use Rattle.std.proofs.Common.{length, ap, arith, length-append}
use Rattle.rule_set.specs.Rule.{RuleSetView}
use Rattle.acl_audit.specs.Half.{halved_rules}
use Rattle.acl_audit.proofs.Masking.{halved_few, halved_both}
use Rattle.acl_audit.proofs.half.half_of.Goals as goal

pub push_list-requires-2-clause-room : goal.push_list-requires-2-clause-room
push_list-requires-2-clause-room c =
    omega (
      arith,
      c.requires.few,
      ap (λ (s : RuleSetView). length s.rules) c.in_ok-push_list.ensures,
      ap (λ (s : RuleSetView). length s.rules) c.new_of_same_layout-rules.ensures,
      length-append c.new_of_same_layout-rules.result.rules (halved_rules c.args.half 0 c.args.one.now.rules),
      halved_few c.args.half 0 c.args.one.now.rules,
    )

pub returns : goal.returns
returns c =
    halved_both c.args.one.now c.args.two.now c.args.half c.new_of_same_layout-rules.result c.push_list.new.rules
    c.push_list-2.new.rules c.new_of_same_layout-rules.ensures c.in_ok-push_list.ensures c.in_ok-push_list-2.ensures
