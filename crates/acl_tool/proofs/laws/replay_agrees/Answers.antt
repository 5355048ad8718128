use Rattle.acl_tool.proofs.Agreeing.{agrees}
use Rattle.acl_tool.proofs.laws.replay_agrees.Goals as goal

pub returns : goal.returns
returns c =
    agrees c.filled_tables_decide.ensures c.accepted_rules_are_lawful.ensures c.args.rules.now c.args.image.now
    c.args.capture.now c.args.budget c.args.cats c.args.stats c.args.marks c.requires.budget
