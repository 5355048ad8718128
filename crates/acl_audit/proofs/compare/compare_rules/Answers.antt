use Rattle.acl_audit.proofs.Comparing.{same_told, differ_told}
use Rattle.acl_audit.proofs.compare.compare_rules.Goals as goal

pub returns-clause-same : goal.returns-clause-same
returns-clause-same c = same_told c.args.one.now c.args.two.now c.compare_both.result c.compare_both.ensures.told

pub returns-clause-differ : goal.returns-clause-differ
returns-clause-differ c = differ_told c.args.one.now c.args.two.now c.compare_both.result c.compare_both.ensures.told
