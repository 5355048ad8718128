use Rattle.std.proofs.Common.{Err, subst, sym, ap}
use Rattle.acl_tool.specs.Texts.{Refuses}
use Rattle.acl_tool.specs.AuditMerged.{merged_within}
use Rattle.acl_tool.proofs.AuditMerged.{refused_is, within_is}
use Rattle.acl_tool.proofs.audit.live_within.Goals as goal

pub returns-in-Ok-clause-fits : goal.returns-in-Ok-clause-fits
returns-in-Ok-clause-fits c = within_is c.args.budget c.args.family c.args.rules.now c.in-Ok.ensures.fits

pub returns-in-Err-clause-refused : goal.returns-in-Err-clause-refused
returns-in-Err-clause-refused c =
    let its = refused_is c.args.budget c.args.family c.args.rules.now c.in-Err.fault
    (λ words most is. c.in-Err.ensures.too_large words most (ap Err is)) in
    subst (Refuses (merged_within c.args.budget c.args.family c.args.rules.now)) (sym c.audit_refused.ensures) its
