use Rattle.acl_context.proofs.Uncovered.{decides}
use Rattle.acl_context.proofs.build.uncovered_decide.Goals as goal

pub returns : goal.returns
returns c = decides c.uncovered_rules_decide_alike.ensures c.args.rules.now
