use Rattle.std.proofs.Common.{sym, ◌∙◌}
use Rattle.classbench_reader.proofs.LawfulLines.{rule_fault-ip4, rule_fault-ip6}
use Rattle.classbench_reader.proofs.rule_file.RuleFile.add.Goals as goal

pub push_lawful-requires-clause-lawful : goal.push_lawful-requires-clause-lawful
push_lawful-requires-clause-lawful c =
    rw (c.requires.room.ip4_layout, c.rule.ensures) (
    rule_fault-ip4 c.args.line.now c.requires.lawful (sym c.family.ensures ∙ c.in-Ip4.is))

pub push_lawful-requires-in-Ip6-clause-lawful : goal.push_lawful-requires-in-Ip6-clause-lawful
push_lawful-requires-in-Ip6-clause-lawful c =
    rw (c.requires.room.ip6_layout, c.rule-in-Ip6.ensures) (
    rule_fault-ip6 c.args.line.now c.requires.lawful (sym c.family.ensures ∙ c.in-Ip6.is))
