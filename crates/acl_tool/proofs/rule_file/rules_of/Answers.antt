use Rattle.std.proofs.Common.{Err, ap}
use Rattle.acl_tool.proofs.WholeRules.{refused_rules_are}
use Rattle.acl_tool.proofs.rule_file.rules_of.Goals as goal

pub returns-in-Err-clause-fault : goal.returns-in-Err-clause-fault
returns-in-Err-clause-fault c =
    refused_rules_are c.args.listing c.args.bytes.now c.in-Err.fault c.rules_refused.result
    (λ line is. c.in-Err.ensures.line line (ap Err is)) c.rules_refused.ensures.said
