use Rattle.rule_split.proofs.Groups.{groups_hold}
use Rattle.rule_split.proofs.laws.groups_hold_each_rule_once.Goals as goal

pub returns : goal.returns
returns c = groups_hold
