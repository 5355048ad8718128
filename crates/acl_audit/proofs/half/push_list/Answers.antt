use Rattle.std.proofs.Common.{length, get_or, ap, ◌∙◌, arith}
use Rattle.table_sizes.specs.Sizes.{max_rules}
use Rattle.acl_audit.proofs.Masking.{halved_start, halved_more, halved_room}
use Rattle.acl_audit.proofs.half.push_list.Goals as goal

pub loop-rule-init : goal.loop-rule-init
loop-rule-init c = halved_start c.args.rules.now c.args.half c.args.list c.args.list_rules.now.rules

pub push_halved-requires-clause-room : goal.push_halved-requires-clause-room
push_halved-requires-clause-room c =
    halved_room c.args.rules.now c.args.half c.args.list c.args.list_rules.now.rules c.loop-rule.rule-index max_rules
    c.loop-rule.rules c.loop-rule.invariant
    (omega (arith, c.loop-rule-test.true, ap length c.all-rule-items.ensures.rules)) c.requires.room

pub loop-rule-preserved : goal.loop-rule-preserved
loop-rule-preserved c =
    halved_more c.args.rules.now c.args.half c.args.list c.args.list_rules.now.rules c.loop-rule.rule-index
    c.loop-rule.rules c.push_halved.new.rules c.rule-item.result c.loop-rule.invariant
    (omega (arith, c.loop-rule-test.true, ap length c.all-rule-items.ensures.rules))
    (c.rule-item.is ∙ ap (λ l. get_or l c.loop-rule.rule-index c.rule-item.result) c.all-rule-items.ensures.rules)
    c.in_ok-push_halved.ensures
